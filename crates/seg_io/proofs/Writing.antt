-- A list of bytes that is being written, piece by piece.
use Rattle.std.proofs.Common.{◌≡◌, ℕ, ◌+◌, ◌≤◌, List, ◌++◌, length, take, drop, sym, ap, ◌∙◌, subst, arith, length-take, length-drop}
use Rattle.std.proofs.Math.Seq.{take-add}
use Rattle.std.proofs.lemmas.List.{take_all, take-take, take-append-drop}
use Rattle.seg_io.specs.declared.port.Port.{Port}
use Rattle.seg_io.specs.Desk.{DeskState, IsOpen, appended, Writes, FailsToWrite, FailsAfterWriting, faults_at, with_faults}
use Rattle.seg_io.proofs.States.{appended-none, appended-appended, IsOpen-appended, FailsAfterWriting-later}

-- the first n bytes were written
pub record HasWritten (n : ℕ) (port : Port) (bytes : List ℕ) (old now : DeskState) : Type 0 where
  pub most : n ≤ length bytes
  pub after : now ≡ appended port (take n bytes) old

pub nothing_written : (port : Port) (bytes : List ℕ) (s : DeskState) → HasWritten 0 port bytes s s
nothing_written port bytes s = record { most = omega arith; after = sym (appended-none port s) }

-- a write that took k bytes of the next ones
pub written_more : (n m k : ℕ) (port : Port) (bytes : List ℕ) (old now new : DeskState) → HasWritten n port bytes old now
    → Writes k port (take m (drop n bytes)) now new → HasWritten (n + k) port bytes old new
written_more n m k port bytes old now new h w =
    let short : k ≤ m = omega (arith, w.most, length-take m (drop n bytes)) in
    let same : take n bytes ++ take k (take m (drop n bytes)) ≡ take (n + k) bytes =
    ap (λ (l : List ℕ). take n bytes ++ l) (take-take k m (drop n bytes) short) ∙ sym (take-add n k bytes) in
    record {
      most = omega (arith, w.most, h.most, length-take m (drop n bytes), length-drop n bytes);
      after = w.after ∙ (ap (appended port (take k (take m (drop n bytes)))) h.after
          ∙ (appended-appended port (take n bytes) (take k (take m (drop n bytes))) old
          ∙ ap (λ (l : List ℕ). appended port l old) same));
    }

pub still_open : (n : ℕ) (port : Port) (bytes : List ℕ) (old now : DeskState) → HasWritten n port bytes old now
    → IsOpen port old → IsOpen port now
still_open n port bytes old now h o = subst (IsOpen port) (sym h.after) (IsOpen-appended port port (take n bytes) old o)

-- all bytes were written
pub written_whole : (n : ℕ) (port : Port) (bytes : List ℕ) (old now : DeskState) → HasWritten n port bytes old now
    → length bytes ≤ n → now ≡ appended port bytes old
written_whole n port bytes old now h full = h.after ∙ ap (λ (l : List ℕ). appended port l old) (take_all n bytes full)

-- a write failed
pub fails_after : (n : ℕ) (port : Port) (bytes : List ℕ) (old now new : DeskState) → HasWritten n port bytes old now
    → FailsToWrite port now new → FailsAfterWriting port bytes old new
fails_after n port bytes old now new h f =
    subst (λ (l : List ℕ). FailsAfterWriting port l old new) (take-append-drop n bytes)
    (FailsAfterWriting-later port (take n bytes) (drop n bytes) old now new h.after (record {
      written = 0;
      most = omega arith;
      fault = f.fault;
      after = f.after ∙ ap (with_faults port (faults_at port new)) (sym (appended-none port now));
    }))
