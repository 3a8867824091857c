use Rattle.std.proofs.Common.{[], ◌∷◌, ◌++◌, refl}
use Rattle.std.proofs.lemmas.Result.{err_from_is_err_and}
use Rattle.refusals.specs.Line.{digits_of}
use Rattle.refusals.proofs.Putting.{rest_fails, front_fails, rest_put}
use Rattle.refusals.proofs.telling.put_line.Goals as goal

pub returns-in_err-put_number : goal.returns-in_err-put_number
returns-in_err-put_number g c =
    let p = err_from_is_err_and c.from_residual-in_err-put_number.result c.from_residual-in_err-put_number.ensures.1 in
    let line = c.args.line.now in
    rw p.1 (rest_fails line.before.now _ (digits_of line.number ++ (line.after.now ++ 10 ∷ [])) _ _ _ _ _ _ c.as_bytes.ensures.value
    c.in_ok-put.ensures
    (front_fails (digits_of line.number) (line.after.now ++ 10 ∷ []) _ _ _ _ _ refl c.in_err-put_number.ensures))

pub returns-in_err-put-2 : goal.returns-in_err-put-2
returns-in_err-put-2 g c =
    let p = err_from_is_err_and c.from_residual-in_err-put-2.result c.from_residual-in_err-put-2.ensures.1 in
    let line = c.args.line.now in
    rw p.1 (rest_fails line.before.now _ (digits_of line.number ++ (line.after.now ++ 10 ∷ [])) _ _ _ _ _ _ c.as_bytes.ensures.value
    c.in_ok-put.ensures
    (rest_fails (digits_of line.number) _ (line.after.now ++ 10 ∷ []) _ _ _ _ _ _ refl c.in_ok-put_number.ensures
    (front_fails line.after.now (10 ∷ []) _ _ _ _ _ c.as_bytes-2.ensures.value c.in_err-put-2.ensures)))

pub returns : goal.returns
returns g c =
    let line = c.args.line.now in
    rest_put c.put-3.result line.before.now _ (digits_of line.number ++ (line.after.now ++ 10 ∷ [])) _ _ _ _ _ _ c.as_bytes.ensures.value
    c.in_ok-put.ensures
    (rest_put c.put-3.result (digits_of line.number) _ (line.after.now ++ 10 ∷ []) _ _ _ _ _ _ refl c.in_ok-put_number.ensures
    (rest_put c.put-3.result line.after.now _ (10 ∷ []) _ _ _ _ _ _ c.as_bytes-2.ensures.value c.in_ok-put-2.ensures c.put-3.ensures))
