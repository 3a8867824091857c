use Rattle.std.proofs.Common.{◌+◌, ap, sym, subst, arith}
use Rattle.std.specs.Prelude.{All}
use Rattle.std.proofs.lemmas.List.{take_all}
use Rattle.merge_tree.specs.Renaming.{HasSmallNames, NamesBelow}
use Rattle.merge_tree.proofs.FinalNames.{names_more}
use Rattle.merge_tree.proofs.renaming.greatest_name.Goals as goal

pub loop-merge-preserved : goal.loop-merge-preserved
loop-merge-preserved c =
    let small : HasSmallNames c.merge-item.result =
    subst HasSmallNames (sym c.merge-item.is) (c.requires c.loop-merge.merge-index c.merge-item.result c.loop-merge-test.true) in
    let survivor = ap (λ m. m.survivor) c.merge.view_is in
    let absorbed = ap (λ m. m.absorbed) c.merge.view_is in
    let below : NamesBelow (c.max-greatest.result + 1) c.merge-item.result = record { survivor = omega arith; absorbed = omega arith } in
    record {
      most = omega (arith, small.survivor, small.absorbed, c.loop-merge.invariant.most);
      names = names_more c.args.merges.now c.loop-merge.merge-index (c.loop-merge.greatest + 1) (c.max-greatest.result + 1) c.merge-item.result
          c.loop-merge-test.true (omega arith) (subst (NamesBelow (c.max-greatest.result + 1)) c.merge-item.is below) c.loop-merge.invariant.names;
    }

pub returns-clause-names : goal.returns-clause-names
returns-clause-names c =
    subst (All (NamesBelow (c.loop-merge.greatest + 1))) (take_all c.loop-merge.merge-index c.args.merges.now (omega arith)) c.loop-merge.invariant.names
