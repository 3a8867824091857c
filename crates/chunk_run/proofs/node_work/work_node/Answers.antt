use Rattle.std.proofs.Common.{◌≡◌, ◌∙◌, ap, subst}
use Rattle.std.proofs.lemmas.Result.{MatchResult-weaker}
use Rattle.agglo_model.specs.Cutting.{artificial_faces}
use Rattle.agglo_model.specs.Settling.{Settles}
use Rattle.parent_join.specs.Kids.{graphs_of}
use Rattle.chunk_run.proofs.NodeTurns.{turn_from_start}
use Rattle.chunk_run.proofs.node_work.work_node.Goals as goal

pub returns : goal.returns
returns g c =
    let site = c.args.site.now in
    let kids = graphs_of c.args.kids.items in
    let faces : c.artificial-faces.result ≡ artificial_faces site.cutting c.args.m =
    c.artificial-faces.ensures.value ∙ ap (λ cutting. artificial_faces cutting c.args.m) c.cutting.ensures.value in
    MatchResult-weaker c.settle_by.result c.settle_by.ensures.settles
    (λ settled settles. turn_from_start c.leaves_take_turns.ensures c.parents_take_turns.ensures site c.args.m kids
    c.in_ok-graph.graph settled.merges.items settled.residue c.requires.node c.in_ok-graph.ensures
    (subst (λ f. Settles site.threshold f c.in_ok-graph.graph settled.merges.items settled.residue) faces
    (subst (λ t. Settles t c.artificial-faces.result c.in_ok-graph.graph settled.merges.items settled.residue) c.threshold.ensures settles)))
    (λ e no_memory. tt)
