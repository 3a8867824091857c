use Rattle.std.proofs.Common.{◌≡◌, rules, ◌+◌, suc, [], ◌∷◌, ◌++◌, length, length-append, sym, ap, ◌∙◌, subst, arith}
use Rattle.std.specs.List.{range_with_len}
use Rattle.std.specs.Prelude.{slice_set}
use Rattle.std.proofs.lemmas.Iterator.Adapters.{YieldsList-from_vec}
use Rattle.std.proofs.lemmas.Iterator.Consumers.{YieldsList-turn}
use Rattle.agglo_model.specs.Cutting.{level_of}
use Rattle.agglo_model.proofs.Levels.{node_count-lt}
use Rattle.chunk_run.specs.Turns.{HasRoom, level_at, with_node}
use Rattle.chunk_run.proofs.Numbers.{range_more}
use Rattle.chunk_run.proofs.Steps.{next_step, step_done}
use Rattle.chunk_run.proofs.progress.Progress.take_in.Goals as goal

pub add_node-requires : goal.add_node-requires
add_node-requires c =
    let s = c.args.site.now in
    let at = c.loop-worked.invariant in
    let w = c.in-Some.worked in
    let turn = YieldsList-turn (YieldsList-from_vec {s = c.into_iter-worked-iterator.result} c.args.done.items (search rules) (search rules))
    c.loop-worked.yielded c.loop-worked.worked-iterator c.loop-worked.yielded_by c.next.result c.next.new.self w c.in-Some.is c.next.ensures.steps in
    let step = next_step c.residues_stay.ensures s c.cutting-cutting.ensures.site c.args.first c.loop-worked.m (length c.loop-worked.yielded)
    c.args.done.items c.requires.nodes at.0 turn.0 c.loop-worked.self.waiting.items c.loop-worked.self.merges.items
    c.loop-worked.self.levels.items at.2.0 at.2.1 at.2.2 w turn.1 in
    let level = c.level_of.ensures.value ∙ ap (λ t. level_of t c.loop-worked.m) c.cutting-cutting.ensures.value in
    subst (λ k. HasRoom c.loop-worked.self.levels.items k (length w.settled.merges.items) (length w.settled.residue.regions)) (sym level) step.room

pub overflow_add-m : goal.overflow_add-m
overflow_add-m c =
    let s = c.args.site.now in
    let turn = YieldsList-turn (YieldsList-from_vec {s = c.into_iter-worked-iterator.result} c.args.done.items (search rules) (search rules))
    c.loop-worked.yielded c.loop-worked.worked-iterator c.loop-worked.yielded_by c.next.result c.next.new.self c.in-Some.worked c.in-Some.is c.next.ensures.steps in
    omega (arith, node_count-lt s.cutting c.cutting-cutting.ensures.site.chunking, turn.0, c.loop-worked.invariant.0, c.requires.nodes)

pub loop-worked-preserved : goal.loop-worked-preserved
loop-worked-preserved c =
    let s = c.args.site.now in
    let m = c.loop-worked.m in
    let at = c.loop-worked.invariant in
    let w = c.in-Some.worked in
    let made = w.settled.merges.items in
    let left = w.settled.residue in
    let run = c.loop-worked.self in
    let turn = YieldsList-turn (YieldsList-from_vec {s = c.into_iter-worked-iterator.result} c.args.done.items (search rules) (search rules))
    c.loop-worked.yielded c.loop-worked.worked-iterator c.loop-worked.yielded_by c.next.result c.next.new.self w c.in-Some.is c.next.ensures.steps in
    let step = next_step c.residues_stay.ensures s c.cutting-cutting.ensures.site c.args.first m (length c.loop-worked.yielded)
    c.args.done.items c.requires.nodes at.0 turn.0 run.waiting.items run.merges.items run.levels.items at.2.0 at.2.1 at.2.2 w turn.1 in
    let level = c.level_of.ensures.value ∙ ap (λ t. level_of t m) c.cutting-cutting.ensures.value in
    let added = c.in_ok-add_node.ensures in
    let next : suc m ≡ m + 1 = omega arith in (
      omega (arith, length-append c.loop-worked.yielded (w ∷ []), at.0),
      added.worked ∙ ap (λ l. l ++ m ∷ []) at.1 ∙ sym (range_more 0 m m (omega arith)) ∙ ap (range_with_len 0) next,
      (
        at.2.0,
        at.2.1,
        step_done s c.args.first m (c.args.first + length c.args.done.items) run.waiting.items run.merges.items run.levels.items at.2.0 made left step
            c.add_node.new.self.waiting.items c.add_node.new.self.merges.items c.add_node.new.self.levels.items added.waiting added.merges
            (added.levels ∙ (λ i. slice_set run.levels.items (level i) (with_node (level_at run.levels.items (level i)) (length made) (length left.regions)))),
      ),
    )
