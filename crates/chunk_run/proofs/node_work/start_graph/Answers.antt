use Rattle.std.proofs.Common.{◌≤◌, inr, sym, subst, arith}
use Rattle.std.proofs.lemmas.List.{length-map}
use Rattle.std.proofs.lemmas.Result.{MatchResult-weaker}
use Rattle.agglo_model.specs.Cutting.{cells_at, child}
use Rattle.agglo_model.specs.Joining.{IsJoined}
use Rattle.region_graph.specs.declared.graph.Residue.{Residue}
use Rattle.parent_join.specs.Kids.{KidsFit, graphs_of}
use Rattle.parent_join.proofs.KidLists.{few_children}
use Rattle.chunk_run.proofs.Families.{inner_has_children}
use Rattle.chunk_run.proofs.node_work.start_graph.Goals as goal

pub kids_of-requires : goal.kids_of-requires
kids_of-requires c =
    let few = few_children c.args.site.now.cutting c.args.m in
    let count = length-map c.args.kids.items (λ (kid : Residue). kid.graph) in
    omega (arith, few, count, c.requires.kids.one_each)

pub join-requires-clause-parent : goal.join-requires-clause-parent
join-requires-clause-parent c =
    let site = c.args.site.now in
    let past : cells_at site.cutting 0 ≤ c.args.m =
    subst (λ cutting. cells_at cutting 0 ≤ c.args.m) c.cutting.ensures.value (omega (arith, c.leaves.ensures.value)) in
    inner_has_children site.cutting c.cutting.ensures.site.chunking c.args.m c.requires.node past

pub join-requires-clause-fit : goal.join-requires-clause-fit
join-requires-clause-fit c =
    let site = c.args.site.now in
    let fit : KidsFit site.grid site.cutting c.args.m (graphs_of c.args.kids.items) = λ i below.
    let kid = c.requires.kids.residues i (omega (arith, below, c.requires.kids.one_each)) in
    c.residues_fit.ensures site.grid site.threshold site.cutting (child site.cutting c.args.m i) kid.0 _ kid.1 in
    subst (λ kids. KidsFit site.grid site.cutting c.args.m (graphs_of kids)) (sym c.kids_of.ensures) fit

pub returns-else-m-leaves : goal.returns-else-m-leaves
returns-else-m-leaves c =
    let site = c.args.site.now in
    let past : cells_at site.cutting 0 ≤ c.args.m =
    subst (λ cutting. cells_at cutting 0 ≤ c.args.m) c.cutting.ensures.value (omega (arith, c.leaves.ensures.value)) in
    MatchResult-weaker c.join.result c.join.ensures
    (λ graph joined. inr (
      inner_has_children site.cutting c.cutting.ensures.site.chunking c.args.m c.requires.node past,
      subst (λ kids. IsJoined site.grid site.cutting c.args.m site.labels (graphs_of kids) graph) c.kids_of.ensures joined,
    ))
    (λ e no_memory. tt)
