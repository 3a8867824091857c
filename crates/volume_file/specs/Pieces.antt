-- What the steps of reading a body do.
use Rattle.std.specs.Prelude.{◌≡◌, ℕ, ◌+◌, ◌<◌, ◌≤◌, nat_lt, Bool, List, ◌++◌, length, take, min, IfSome}
use Rattle.seg_io.specs.Desk.{DeskState, taken, TakesSome, FailsAfterReading}
use Rattle.volume_file.specs.declared.fault.VolumeFault.{VolumeFault}
use Rattle.volume_file.specs.declared.fault.VolumeFault.TheVariants.{Truncated, Read, Memory}

-- The first n bytes of the input were read, and taken off.
pub record ReadsBytes (n : ℕ) (bytes : List ℕ) (old new : DeskState) : Type 0 where
  pub counted : length bytes ≡ n
  pub there : IfSome old.input (λ input. n ≤ length input)
  pub says : IfSome old.input (λ input. bytes ≡ take n input)
  pub after : new ≡ taken n old

-- There were fewer than n bytes. All were taken off.
pub record FindsTooFew (n got : ℕ) (old new : DeskState) : Type 0 where
  pub few : got < n
  pub short : IfSome old.input (λ input. length input < n)
  pub all : IfSome old.input (λ input. got ≡ length input)
  pub after : new ≡ taken n old

-- n bytes were not read: there were fewer, a read failed, or there was no memory
abbrev pub FailsToReadBytes : ℕ → VolumeFault → DeskState → DeskState → Type 0
FailsToReadBytes n (Truncated got) old new = FindsTooFew n got old new
FailsToReadBytes n Read old new = FailsAfterReading (λ _. n) old new
FailsToReadBytes n Memory old new = TakesSome old new
FailsToReadBytes n fault old new = ⊥

-- The first `got` bytes of the input, at most `count`, were appended and taken off; there are fewer only
-- where the input came to its end.
pub record AppendsPiece (got count : ℕ) (before after : List ℕ) (old new : DeskState) : Type 0 where
  pub room : got ≤ count
  pub counted : length after ≡ length before + count
  pub front : IfSome old.input (λ input. take (length before + got) after ≡ before ++ take got input)
  pub all : IfSome old.input (λ input. got ≡ min count (length input))
  pub moved : new ≡ taken got old

-- nothing was appended: a read failed, or there was no memory, and then nothing was read
abbrev pub FailsToAppend : ℕ → VolumeFault → DeskState → DeskState → Type 0
FailsToAppend count Read old new = FailsAfterReading (λ _. count) old new
FailsToAppend count Memory old new = new ≡ old
FailsToAppend count fault old new = ⊥

-- Whether the input had a byte. One was taken off.
pub record FindsMore (more : Bool) (old new : DeskState) : Type 0 where
  pub whether : IfSome old.input (λ input. more ≡ nat_lt 0 (length input))
  pub after : new ≡ taken 1 old
