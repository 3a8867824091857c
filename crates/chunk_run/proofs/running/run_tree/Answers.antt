use Rattle.std.proofs.Common.{◌≡◌, suc, ◌+◌, ◌-◌, [], replicate, refl, sym, ap, ◌∙◌, subst, arith}
use Rattle.agglo_model.specs.Cutting.{Chunking, first_node, last_level, node_count}
use Rattle.agglo_model.proofs.Levels.{cells_at_pos, first_node_le, level_of-is}
use Rattle.chunk_run.specs.Turns.{HasWorked, no_node}
use Rattle.chunk_run.specs.Lanes.{HasRun}
use Rattle.chunk_run.proofs.Starting.{start_of_run}
use Rattle.chunk_run.proofs.running.run_tree.Goals as goal

pub loop-level-init : goal.loop-level-init
loop-level-init g c =
    let s = c.args.site.now in
    let start = c.in_ok-progress.progress in
    let count : c.levels.result ≡ last_level s.cutting + 1 =
    c.levels.ensures.value ∙ ap (λ cutting. last_level cutting + 1) c.cutting-cutting.ensures.value in (
      refl,
      record {
        so_far = subst (λ l. HasWorked s 0 0 l start.merges.items start.levels.items) (sym c.in_ok-progress.ensures.none_waiting)
            (subst (λ l. HasWorked s 0 0 [] l start.levels.items) (sym c.in_ok-progress.ensures.no_merge)
            (start_of_run s c.cutting-cutting.ensures.site start.levels.items
            (c.in_ok-progress.ensures.levels ∙ ap (λ n. replicate n no_node) count)));
        numbers = c.in_ok-progress.ensures.none_worked;
      },
    )

pub work_level-requires-clause-some : goal.work_level-requires-clause-some
work_level-requires-clause-some g c κs within =
    let t : Chunking = c.args.site.now.cutting in
    let end : c.level_end-end.result ≡ first_node t (c.loop-level.level + 1) =
    c.level_end-end.ensures.value ∙ ap (λ u. first_node u (c.loop-level.level + 1)) c.cutting-cutting.ensures.value in
    let next : c.loop-level.level + 1 ≡ suc c.loop-level.level = omega arith in
    let more = ap (first_node t) next in
    omega (arith, end, more, cells_at_pos t c.cutting-cutting.ensures.site.chunking c.loop-level.level, c.loop-level.invariant.0)

pub work_level-requires-clause-nodes : goal.work_level-requires-clause-nodes
work_level-requires-clause-nodes g c κs within =
    let t : Chunking = c.args.site.now.cutting in
    let end : c.level_end-end.result ≡ first_node t (c.loop-level.level + 1) =
    c.level_end-end.ensures.value ∙ ap (λ u. first_node u (c.loop-level.level + 1)) c.cutting-cutting.ensures.value in
    let levels = c.levels-level-end.ensures.value ∙ ap (λ u. last_level u + 1) c.cutting-cutting.ensures.value in
    let most = first_node_le t (c.loop-level.level + 1) (suc (last_level t)) (omega (arith, levels)) in
    omega (arith, end, most)

pub work_level-requires-clause-one_level : goal.work_level-requires-clause-one_level
work_level-requires-clause-one_level g c κs within =
    let t : Chunking = c.args.site.now.cutting in
    let k = c.loop-level.level in
    let end : c.level_end-end.result ≡ first_node t (k + 1) =
    c.level_end-end.ensures.value ∙ ap (λ u. first_node u (k + 1)) c.cutting-cutting.ensures.value in
    let levels = c.levels-level-end.ensures.value ∙ ap (λ u. last_level u + 1) c.cutting-cutting.ensures.value in
    let next : k + 1 ≡ suc k = omega arith in
    let more = ap (first_node t) next in
    let some = cells_at_pos t c.cutting-cutting.ensures.site.chunking k in
    let first = c.loop-level.invariant.0 in
    level_of-is t k c.loop-level.first (record { reached = omega (arith, levels); from = omega (arith, first); to = omega (arith, first, some) })
    ∙ sym (level_of-is t k (c.level_end-end.result - 1)
    (record { reached = omega (arith, levels); from = omega (arith, end, more, some); to = omega (arith, end, more, some) }))

pub returns-clause-run : goal.returns-clause-run
returns-clause-run g c =
    let s = c.args.site.now in
    let run = c.loop-level.progress in
    let levels = c.levels-level-end.ensures.value ∙ ap (λ u. last_level u + 1) c.cutting-cutting.ensures.value in
    let last : c.loop-level.level ≡ suc (last_level s.cutting) = omega (arith, levels) in
    let all : c.loop-level.first ≡ node_count s.cutting = c.loop-level.invariant.0 ∙ ap (first_node s.cutting) last in
    (run.waiting.items, subst (λ m. HasRun s m run.waiting.items run.merges.items run.worked.items run.levels.items) all c.loop-level.invariant.1)
