-- A task whose answer was found, and then written or not.
use Rattle.std.proofs.Common.{◌≡◌, Result, Ok, Err, MatchResult, sym, subst}
use Rattle.std.specs.Result.{IsErrAnd}
use Rattle.std.proofs.lemmas.Result.{err_from_is_err_and}
use Rattle.command_words.specs.Words.{Task}
use Rattle.seg_io.specs.Desk.{DeskState}
use Rattle.refusals.specs.declared.refusal.Refusal.{Refusal}
use Rattle.refusals.specs.declared.refusal.Refusal.TheVariants.{Output}
use Rattle.agglo_program.specs.Answers.{Finds}
use Rattle.agglo_program.specs.Run.{RefusesTask, TaskEnds}
use Rattle.agglo_program.specs.Writing.{Answer, WritesAll, StopsWriting}

-- each fault of the call that writes is told as one of the outputs
pub done_or_stopped : {X E : Type 0} (told : E → Refusal → Type 0) (write : Result X E) (result : Result X Refusal) (task : Task)
    (answer : Answer) (s m t : DeskState) → Finds task answer s m
    → MatchResult write (λ _. WritesAll answer m t) (λ _. StopsWriting answer m t)
    → MatchResult write (λ x. result ≡ Ok x) (λ e. IsErrAnd result (told e)) → ((e : E) (d : Refusal) → told e d → d ≡ Output)
    → TaskEnds task result s t
done_or_stopped {X = X} told (Ok x) result task answer s m t found wrote is output =
    subst (λ (r : Result X Refusal). TaskEnds task r s t) (sym is)
    (record { mid = m; answer = answer; found = found; wrote = wrote })
done_or_stopped {X = X} told (Err e) result task answer s m t found stopped is output =
    let d = err_from_is_err_and result is in
    subst (λ (r : Result X Refusal). TaskEnds task r s t) (sym d.1)
    (subst (λ (refusal : Refusal). RefusesTask task refusal s t) (sym (output e d.0 d.2))
    (record { mid = m; answer = answer; found = found; stopped = stopped }))
