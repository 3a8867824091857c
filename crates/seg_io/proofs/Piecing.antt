-- Puts one after another, and a finish at their end: what a caller that streams through a Piecer cites.
use Rattle.std.proofs.Common.{◌≡◌, ℕ, ◌≤◌, Bool, true, Result, MatchResult, List, [], ◌++◌, length, ◌+◌, ◌-◌, take, drop, refl, sym, ap, subst, ◌∙◌, append_assoc}
use Rattle.std.proofs.Math.Seq.{take-add}
use Rattle.std.proofs.lemmas.Result.{MatchResult-weaker}
use Rattle.std.proofs.lemmas.List.{append-nil, take_all, take_rest, take-append-drop}
use Rattle.seg_io.specs.declared.port.Port.{Port}
use Rattle.seg_io.specs.Desk.{DeskState, IsOpen, appended, FailsAfterWriting}
use Rattle.seg_io.specs.Piecing.{PiecerState, new_piecer, Puts, FailsToPut}
use Rattle.seg_io.proofs.States.{appended-none, appended-appended, IsOpen-appended, FailsAfterWriting-later, FailsAfterWriting-sooner}

-- nothing was put yet
pub Puts-none : (p : PiecerState) (s : DeskState) → Puts [] p p s s
Puts-none p s = record {
  written = [];
  gained = sym (append-nil p.held);
  after = sym (appended-none p.port s);
  kept = refl;
}

-- a put after others
pub Puts-more : (a b : List ℕ) (p q r : PiecerState) (s t u : DeskState)
    → Puts a p q s t → Puts b q r t u → Puts (a ++ b) p r s u
Puts-more a b p q r s t u x y =
    let port : q.port ≡ p.port = ap (λ (z : PiecerState). z.port) x.kept in
    record {
      written = x.written ++ y.written;
      gained = append_assoc x.written y.written r.held ∙ (ap (λ (l : List ℕ). x.written ++ l) y.gained
          ∙ (sym (append_assoc x.written q.held b) ∙ (ap (λ (l : List ℕ). l ++ b) x.gained ∙ append_assoc p.held a b)));
      after = y.after ∙ (ap (λ (z : Port). appended z y.written t) port
          ∙ (ap (appended p.port y.written) x.after ∙ appended-appended p.port x.written y.written s));
      kept = y.kept ∙ ap (λ (z : PiecerState). record z { held = r.held }) x.kept;
    }

-- the port is open still, and no put failed
pub Puts-open : (a : List ℕ) (p q : PiecerState) (s t : DeskState) → Puts a p q s t → IsOpen p.port s → IsOpen q.port t
Puts-open a p q s t x o =
    let port : q.port ≡ p.port = ap (λ (z : PiecerState). z.port) x.kept in
    subst (λ (z : Port). IsOpen z t) (sym port) (subst (IsOpen p.port) (sym x.after) (IsOpen-appended p.port p.port x.written s o))

pub Puts-sound : (a : List ℕ) (p q : PiecerState) (s t : DeskState) → Puts a p q s t → q.failed ≡ p.failed
Puts-sound a p q s t x = ap (λ (z : PiecerState). z.failed) x.kept

-- the rest of what the puts wrote, which is written now or where a write of it fails
rest_fails : (a rest : List ℕ) (p q : PiecerState) (s t u : DeskState) (x : Puts a p q s t)
    → FailsAfterWriting q.port rest t u → FailsAfterWriting p.port (x.written ++ rest) s u
rest_fails a rest p q s t u x f =
    FailsAfterWriting-later p.port x.written rest s t u x.after
    (subst (λ (z : Port). FailsAfterWriting z rest t u) (ap (λ (z : PiecerState). z.port) x.kept) f)

-- a put after others fails
pub Puts-fails : (a b : List ℕ) (p q r : PiecerState) (s t u : DeskState)
    → Puts a p q s t → FailsToPut b q r t u → FailsToPut (a ++ b) p r s u
Puts-fails a b p q r s t u x f =
    let all : x.written ++ (q.held ++ b) ≡ p.held ++ (a ++ b) =
    sym (append_assoc x.written q.held b) ∙ (ap (λ (l : List ℕ). l ++ b) x.gained ∙ append_assoc p.held a b) in
    record {
      after = subst (λ (l : List ℕ). FailsAfterWriting p.port l s u) all (rest_fails a (q.held ++ b) p q s t u x f.after);
      marked = f.marked ∙ ap (λ (z : PiecerState). record z { held = r.held; failed = true }) x.kept;
    }

-- a put of more bytes fails where a put of their front does
pub FailsToPut-sooner : (a b : List ℕ) (p q : PiecerState) (s t : DeskState) → FailsToPut a p q s t → FailsToPut (a ++ b) p q s t
FailsToPut-sooner a b p q s t f = record {
  after = subst (λ (l : List ℕ). FailsAfterWriting p.port l s t) (append_assoc p.held a b)
      (FailsAfterWriting-sooner p.port (p.held ++ a) b s t f.after);
  marked = f.marked;
}

-- the finish after the puts
pub Puts-finish : (a : List ℕ) (p q : PiecerState) (s t u : DeskState)
    → Puts a p q s t → u ≡ appended q.port q.held t → u ≡ appended p.port (p.held ++ a) s
Puts-finish a p q s t u x e =
    e ∙ (ap (λ (z : PiecerState). appended z.port q.held t) x.kept
    ∙ (ap (appended p.port q.held) x.after ∙ (appended-appended p.port x.written q.held s
    ∙ ap (λ (l : List ℕ). appended p.port l s) x.gained)))

-- the finish after the puts fails
pub Puts-fails_finish : (a : List ℕ) (p q : PiecerState) (s t u : DeskState)
    → Puts a p q s t → FailsAfterWriting q.port q.held t u → FailsAfterWriting p.port (p.held ++ a) s u
Puts-fails_finish a p q s t u x f =
    subst (λ (l : List ℕ). FailsAfterWriting p.port l s u) x.gained (rest_fails a q.held p q s t u x f)

-- a full piece that fails to be written
pub full_fails : (before : PiecerState) (port : Port) (held piece rest bytes : List ℕ) (f : Bool) (k m : ℕ) (s t : DeskState)
    → record { port = port; held = held; failed = f } ≡ before → take m piece ≡ held ++ take k bytes → length piece ≤ m
    → FailsAfterWriting port piece s t → FailsToPut bytes before (record { port = port; held = rest; failed = true }) s t
full_fails before port held piece rest bytes f k m s t e front full x =
    let whole : piece ≡ held ++ take k bytes = sym (take_all m piece full) ∙ front in
    let all : (held ++ take k bytes) ++ drop k bytes ≡ held ++ bytes =
    append_assoc held (take k bytes) (drop k bytes) ∙ ap (λ (l : List ℕ). held ++ l) (take-append-drop k bytes) in
    let y : FailsAfterWriting port (held ++ bytes) s t =
    subst (λ (l : List ℕ). FailsAfterWriting port l s t) all
    (FailsAfterWriting-sooner port (held ++ take k bytes) (drop k bytes) s t
    (subst (λ (l : List ℕ). FailsAfterWriting port l s t) whole x)) in
    let now : PiecerState = record { port = port; held = rest; failed = true } in
    subst (λ (b : PiecerState). FailsToPut bytes b now s t) e (record { after = y; marked = refl })

-- one turn of a put that takes a list in several turns
pub put_turn : (bytes : List ℕ) (n k : ℕ) (p q r : PiecerState) (s t u : DeskState)
    → Puts (take n bytes) p q s t → Puts (take k (take (length bytes - n) (drop n bytes))) q r t u
    → Puts (take (n + k) bytes) p r s u
put_turn bytes n k p q r s t u x y =
    subst (λ (l : List ℕ). Puts l p r s u) (sym (take-add n k bytes)) (Puts-more (take n bytes) (take k (drop n bytes)) p q r s t u x
    (subst (λ (l : List ℕ). Puts (take k l) q r t u) (take_rest bytes n) y))

pub put_turn_fails : (bytes : List ℕ) (n : ℕ) (p q r : PiecerState) (s t u : DeskState)
    → Puts (take n bytes) p q s t → FailsToPut (take (length bytes - n) (drop n bytes)) q r t u
    → FailsToPut bytes p r s u
put_turn_fails bytes n p q r s t u x f =
    subst (λ (l : List ℕ). FailsToPut l p r s u) (take-append-drop n bytes) (Puts-fails (take n bytes) (drop n bytes) p q r s t u x
    (subst (λ (l : List ℕ). FailsToPut l q r t u) (take_rest bytes n) f))

-- The finish of a new Piecer after these puts: all that was put, or a prefix of it.
pub finish_all : {X E : Type 0} (r : Result X E) (port : Port) (a : List ℕ) (p q : PiecerState) (s t u : DeskState)
    → p ≡ new_piecer port → Puts a p q s t
    → MatchResult r (λ _. u ≡ appended q.port q.held t) (λ _. FailsAfterWriting q.port q.held t u)
    → MatchResult r (λ _. u ≡ appended port a s) (λ _. FailsAfterWriting port a s u)
finish_all r port a p q s t u e x m =
    let y : Puts a (new_piecer port) q s t = subst (λ (z : PiecerState). Puts a z q s t) e x in
    MatchResult-weaker r m (λ _ w. Puts-finish a (new_piecer port) q s t u y w)
    (λ _ f. Puts-fails_finish a (new_piecer port) q s t u y f)

-- A put that fails, of a new Piecer after these puts: a prefix of all that was put.
pub put_fails : (port : Port) (a b : List ℕ) (p q r : PiecerState) (s t u : DeskState)
    → p ≡ new_piecer port → Puts a p q s t → FailsToPut b q r t u → FailsAfterWriting port (a ++ b) s u
put_fails port a b p q r s t u e x f =
    let y : Puts a (new_piecer port) q s t = subst (λ (z : PiecerState). Puts a z q s t) e x in
    let g : FailsToPut (a ++ b) (new_piecer port) r s u = Puts-fails a b (new_piecer port) q r s t u y f in g.after
