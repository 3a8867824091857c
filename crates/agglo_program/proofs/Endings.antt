-- The statuses that a run of each task may end with.
use Rattle.std.proofs.Common.{◌≡◌, ℕ, List, [], ◌∷◌, Contains, lit≤, refl, sym, subst}
use Rattle.std.proofs.lemmas.List.Elements.{Contains-append_left}
use Rattle.command_words.specs.Words.{Task, Basins, Segment, Make, Trial, Show, Spells, OneTask}
use Rattle.seg_io.specs.Desk.{DeskState}
use Rattle.refusals.specs.declared.refusal.Refusal.{Refusal}
use Rattle.refusals.specs.declared.refusal.Refusal.TheVariants.{Memory, Words, Volume, Leaves, Input, Output, Tree}
use Rattle.refusals.specs.Refusal.{status_of}
use Rattle.agglo_program.specs.Flaws.{Start, FromFile, FromNumbers, start_of, statuses_from, RefusesStart, MayEndWith}
use Rattle.agglo_program.specs.Run.{RefusesRun}
use Rattle.agglo_program.proofs.FlawKinds.{volume_kind, cut_kind, tree_kind}

-- any task may be done, or end for want of memory, or for a fault of the outputs
done_from : (start : Start) → Contains (statuses_from start) 0
done_from (FromFile statuses refusal_of judged name) = Contains-append_left (0 ∷ 1 ∷ 5 ∷ 6 ∷ []) statuses 0 (0, lit≤ tt, refl)
done_from (FromNumbers statuses cause) = Contains-append_left (0 ∷ 1 ∷ 6 ∷ []) statuses 0 (0, lit≤ tt, refl)

pub may_be_done : (task : Task) → MayEndWith task 0
may_be_done task = done_from (start_of task)

lacks_memory_from : (start : Start) → Contains (statuses_from start) 1
lacks_memory_from (FromFile statuses refusal_of judged name) = Contains-append_left (0 ∷ 1 ∷ 5 ∷ 6 ∷ []) statuses 1 (1, lit≤ tt, refl)
lacks_memory_from (FromNumbers statuses cause) = Contains-append_left (0 ∷ 1 ∷ 6 ∷ []) statuses 1 (1, lit≤ tt, refl)

may_lack_memory : (task : Task) → MayEndWith task 1
may_lack_memory task = lacks_memory_from (start_of task)

stops_from : (start : Start) → Contains (statuses_from start) 6
stops_from (FromFile statuses refusal_of judged name) = Contains-append_left (0 ∷ 1 ∷ 5 ∷ 6 ∷ []) statuses 6 (3, lit≤ tt, refl)
stops_from (FromNumbers statuses cause) = Contains-append_left (0 ∷ 1 ∷ 6 ∷ []) statuses 6 (2, lit≤ tt, refl)

may_stop : (task : Task) → MayEndWith task 6
may_stop task = stops_from (start_of task)

-- before the answer is known
starts : (task : Task) (refusal : Refusal) (s t : DeskState) → RefusesStart task refusal s t → MayEndWith task (status_of refusal)
starts task Memory s t f = may_lack_memory task
starts task Output s t f = may_stop task
starts (Basins settings) (Volume fault) s t f = (4, lit≤ tt, refl)
starts (Basins settings) Input s t f = (2, lit≤ tt, refl)
starts (Basins settings) Words s t f = absurd (volume_kind Words f.0)
starts (Basins settings) (Leaves leaves) s t f = absurd (volume_kind (Leaves leaves) f.0)
starts (Basins settings) (Tree fault) s t f = absurd (volume_kind (Tree fault) f.0)
starts (Segment settings) (Volume fault) s t f = (4, lit≤ tt, refl)
starts (Segment settings) (Leaves leaves) s t f = (5, lit≤ tt, refl)
starts (Segment settings) Input s t f = (2, lit≤ tt, refl)
starts (Segment settings) Words s t f = absurd (cut_kind settings.chunk Words f.0)
starts (Segment settings) (Tree fault) s t f = absurd (cut_kind settings.chunk (Tree fault) f.0)
starts (Make settings) (Leaves leaves) s t f = cc f.0
starts (Make settings) Words s t f = absurd f
starts (Make settings) (Volume fault) s t f = absurd f
starts (Make settings) Input s t f = absurd f
starts (Make settings) (Tree fault) s t f = absurd f
starts (Trial settings) (Leaves leaves) s t f = (3, lit≤ tt, refl)
starts (Trial settings) Words s t f = absurd f
starts (Trial settings) (Volume fault) s t f = absurd f
starts (Trial settings) Input s t f = absurd f
starts (Trial settings) (Tree fault) s t f = absurd f
starts (Show tree) Input s t f = (2, lit≤ tt, refl)
starts (Show tree) (Tree fault) s t f = (4, lit≤ tt, refl)
starts (Show tree) Words s t f = absurd (tree_kind Words f.0)
starts (Show tree) (Volume fault) s t f = absurd (tree_kind (Volume fault) f.0)
starts (Show tree) (Leaves leaves) s t f = absurd (tree_kind (Leaves leaves) f.0)

-- words spell one task, and that is the one that ended
runs : (refusal : Refusal) (words : List (List ℕ)) (s t : DeskState) → OneTask → RefusesRun words refusal s t
    → (task : Task) → Spells words task → MayEndWith task (status_of refusal)
runs Memory words s t one f task spelled = may_lack_memory task
runs Words words s t one f task spelled = absurd (f.0 task spelled)
runs Output words s t one f task spelled = may_stop task
runs (Volume fault) words s t one f task spelled =
    subst (λ (task : Task). MayEndWith task 3) (one words f.task task f.spelled spelled) (starts f.task (Volume fault) s t f.refused)
runs (Leaves leaves) words s t one f task spelled =
    subst (λ (task : Task). MayEndWith task 4) (one words f.task task f.spelled spelled) (starts f.task (Leaves leaves) s t f.refused)
runs Input words s t one f task spelled =
    subst (λ (task : Task). MayEndWith task 5) (one words f.task task f.spelled spelled) (starts f.task Input s t f.refused)
runs (Tree fault) words s t one f task spelled =
    subst (λ (task : Task). MayEndWith task 7) (one words f.task task f.spelled spelled) (starts f.task (Tree fault) s t f.refused)

pub kinds_told : (refusal : Refusal) (words : List (List ℕ)) (s t : DeskState) (status : ℕ) → status ≡ status_of refusal → OneTask
    → RefusesRun words refusal s t → (task : Task) → Spells words task → MayEndWith task status
kinds_told refusal words s t status is one f task spelled =
    subst (λ (n : ℕ). MayEndWith task n) (sym is) (runs refusal words s t one f task spelled)
