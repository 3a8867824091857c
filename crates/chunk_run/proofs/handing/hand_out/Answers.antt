use Rattle.std.proofs.Common.{◌-◌, ◌%◌, ◌<◌, [], ◌∷◌, ◌++◌, length, refl, sym, ap, ◌∙◌, subst, length-set, arith}
use Rattle.std.specs.Prelude.{slice_set}
use Rattle.std.proofs.lemmas.Nat.{mod_below}
use Rattle.parent_join.specs.Kids.{graphs_of}
use Rattle.chunk_run.specs.Turns.{AreThere}
use Rattle.chunk_run.specs.declared.lanes.Job.{Job}
use Rattle.chunk_run.specs.declared.lanes.Lane.{Lane}
use Rattle.chunk_run.specs.Lanes.{jobs_in}
use Rattle.chunk_run.proofs.Handed.{handed_next, handed_none, on_one_level}
use Rattle.chunk_run.proofs.Kids.{kids_there}
use Rattle.chunk_run.proofs.Parts.{handed_more}
use Rattle.chunk_run.proofs.Steps.{taken_alike}
use Rattle.chunk_run.proofs.handing.hand_out.Goals as goal

pub loop-node-init : goal.loop-node-init
loop-node-init c = (
  c.in_ok-lanes.ensures.count,
  omega arith,
  handed_none c.args.site.now c.args.first c.args.waiting.now (jobs_in c.in_ok-lanes.lanes.items) c.in_ok-lanes.ensures.empty,
)

pub take_kids-requires-clause-there : goal.take_kids-requires-clause-there
take_kids-requires-clause-there c =
    let s = c.args.site.now in
    let n = c.loop-node.node in
    let before = c.requires.so_far in
    let level = on_one_level s.cutting c.args.first n (c.args.end - 1) c.loop-node.invariant.1 (omega arith)
    (omega (arith, c.requires.nodes, c.requires.some)) c.requires.one_level in
    let taken = c.loop-node.invariant.2.taken before.0 before.1 before.2 in
    subst (λ t. AreThere t n c.loop-node.waiting) (sym c.cutting-cutting.ensures.value)
    (kids_there s c.cutting-cutting.ensures.site.chunking c.args.first n (omega (arith, c.requires.nodes)) c.loop-node.invariant.1 level
    c.loop-node.waiting before.0 before.1 taken.so_far)

pub loop-node-preserved : goal.loop-node-preserved
loop-node-preserved c =
    let s = c.args.site.now in
    let n = c.loop-node.node in
    let lanes = c.loop-node.lanes.items in
    let at = (n - c.args.first) % c.min-count.result in
    let lane : Lane = record { number = c.index_mut.result.now.number; jobs = c.push.new.self } in
    let job : Job = record { node = n; kids = c.in_ok-kids.kids } in
    let level = on_one_level s.cutting c.args.first n (c.args.end - 1) c.loop-node.invariant.1 (omega arith)
    (omega (arith, c.requires.nodes, c.requires.some)) c.requires.one_level in
    let taken = taken_alike s.cutting c.cutting-cutting.result.now n c.loop-node.waiting c.loop-node.waiting c.take_kids.new.waiting
    (graphs_of c.in_ok-kids.kids.items) c.cutting-cutting.ensures.value refl c.in_ok-kids.ensures in
    let some : 0 < c.min-count.result = omega (arith, c.min-count.ensures, c.requires.workers, c.requires.some) in
    let inside : at < length lanes = omega (arith, c.loop-node.invariant.0, mod_below (n - c.args.first) c.min-count.result some) in (
      length-set lanes at lane ∙ c.loop-node.invariant.0,
      omega (arith, c.loop-node.invariant.1),
      handed_next s c.args.first n c.args.waiting.now c.loop-node.waiting (jobs_in lanes) c.loop-node.invariant.2
          c.cutting-cutting.ensures.site.chunking (omega (arith, c.requires.nodes)) c.loop-node.invariant.1 level c.take_kids.new.waiting job refl taken
          (jobs_in (slice_set lanes at lane))
          (handed_more lanes at c.index_mut.result.now lane job inside (c.in_ok-push.ensures.items ∙ ap (λ (l : Lane). l.jobs.items ++ job ∷ []) c.index_mut.ensures.value)),
    )
