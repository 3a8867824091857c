use Rattle.std.proofs.Common.{ap, ◌∙◌, ◌≡◌, ◌<◌, ◌+◌, ◌-◌, arith, List, ℕ, get_or, length, subst, sym}
use Rattle.std.specs.Prelude.{All}
use Rattle.std.proofs.lemmas.List.{drop_all, length-set}
use Rattle.std.proofs.lemmas.List.FromFn.{length-range_with_len}
use Rattle.agglo_model.specs.Greedy.{Merge}
use Rattle.merge_tree.specs.Renaming.{NamesBelow}
use Rattle.merge_tree.proofs.FinalNames.{own_names, swept}
use Rattle.merge_tree.proofs.renaming.final_names.Goals as goal

pub loop-i-init : goal.loop-i-init
loop-i-init c =
    let size : length c.in_ok-names.names.items ≡ c.greatest_name.result + 1 =
    ap length c.in_ok-names.ensures ∙ length-range_with_len 0 (c.greatest_name.result + 1) in
    record {
      finals = rw (drop_all (length c.args.merges.now) c.args.merges.now (omega arith), c.in_ok-names.ensures) (own_names c.greatest_name.result c.greatest_name.ensures.most);
      within = rw size c.greatest_name.ensures.names;
    }

-- the names of the merge at hand are in the list
names_within : (merges : List Merge) (k n : ℕ) (m : Merge) → k < length merges → m ≡ get_or merges k m → All (NamesBelow n) merges
    → NamesBelow n m
names_within merges k n m below at all = subst (NamesBelow n) (sym at) (all k m below)

pub index-requires : goal.index-requires
index-requires c =
    let within = names_within c.args.merges.now (c.loop-i.i - 1) (length c.loop-i.names.items) c.index-merges-i.result (omega arith) c.index-merges-i.is c.loop-i.invariant.within in
    omega (arith, within.survivor, ap (λ m. m.survivor) c.merge.view_is, c.loop-i.names.ok)

pub index_mut-requires : goal.index_mut-requires
index_mut-requires c =
    let within = names_within c.args.merges.now (c.loop-i.i - 1) (length c.loop-i.names.items) c.index-merges-i.result (omega arith) c.index-merges-i.is c.loop-i.invariant.within in
    omega (arith, within.absorbed, ap (λ m. m.absorbed) c.merge.view_is)

pub loop-i-preserved : goal.loop-i-preserved
loop-i-preserved c =
    let within = names_within c.args.merges.now (c.loop-i.i - 1) (length c.loop-i.names.items) c.index-merges-i.result (omega arith) c.index-merges-i.is c.loop-i.invariant.within in
    record {
      finals = swept c.args.merges.now c.loop-i.names.items c.loop-i.i (c.loop-i.i - 1) c.index-merges-i.result c.merge.inside.survivor
          c.merge.inside.absorbed c.index.result.now (omega arith) (omega arith) c.index-merges-i.is (ap (λ m. m.survivor) c.merge.view_is)
          (ap (λ m. m.absorbed) c.merge.view_is) c.index.ensures within c.loop-i.invariant.finals;
      within = rw (length-set c.loop-i.names.items c.merge.inside.absorbed c.index.result.now) c.loop-i.invariant.within;
    }
