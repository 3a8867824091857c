-- How a run reads its input.
use Rattle.std.specs.Prelude.{◌≡◌, ℕ, ◌<◌, ◌⊎◌, List, [], drop, true, Option, Some, IsSome, IfSome}
use Rattle.std.specs.Option.{option_and_then}
use Rattle.agglo_model.specs.Count.{Rose}
use Rattle.seg_io.specs.Desk.{DeskState, file_named, FailsToOpenInput}

-- the bytes of the file that the desk has under this name, where it tells its files
abbrev pub file_of : DeskState → List ℕ → Option (List ℕ)
file_of s name = option_and_then (λ files. file_named files name) s.files

-- Where the desk tells its files, it has one of this name.
abbrev pub HasFile : DeskState → List ℕ → Type 0
HasFile s name = IfSome s.files (λ files. IsSome (file_named files name))

-- nothing changed but the input: what is written, and what is open to be written, is as before
abbrev pub OnlyInputChanges : DeskState → DeskState → Type 0
OnlyInputChanges old new = new ≡ record old {
  input_faults = new.input_faults;
  misses = new.misses;
  has_input = new.has_input;
  input = new.input;
}

-- The file of this name was opened, and its bytes are as `Are` says. Some of them were read.
pub record OpensFile (name : List ℕ) (Are : List ℕ → Type 0) (old new : DeskState) : Type 0 where
  pub found : HasFile old name
  pub bytes : IfSome (file_of old name) Are
  pub after : new ≡ record old { has_input = true; input = new.input }

-- The file of this name was read to its end, and its bytes are as `Are` says.
pub record ReadsFile (name : List ℕ) (Are : List ℕ → Type 0) (old new : DeskState) : Type 0 where
  pub opened : OpensFile name Are old new
  pub ended : IfSome (file_of old name) (λ _. new.input ≡ Some [])

-- The file of this name was opened, and its bytes are as `Are` says. As many of them were taken as `judged` says,
-- or all where there are fewer.
pub record JudgesFile (name : List ℕ) (Are : List ℕ → Type 0) (judged : List ℕ → ℕ) (old new : DeskState) : Type 0 where
  pub opened : OpensFile name Are old new
  pub left : IfSome (file_of old name) (λ bytes. new.input ≡ Some (drop (judged bytes) bytes))

-- Of these bytes fewer were taken than `judged` says. The others are left of the input.
pub record IsUnjudged (judged : List ℕ → ℕ) (s : DeskState) (bytes : List ℕ) : Type 0 where
  pub read : ℕ
  pub few : read < judged bytes
  pub left : s.input ≡ Some (drop read bytes)

-- The file of this name was opened, and a read failed before the bytes that decide were taken.
pub record FailsUnjudged (judged : List ℕ → ℕ) (name : List ℕ) (old new : DeskState) : Type 0 where
  pub found : HasFile old name
  pub unjudged : IfSome (file_of old name) (IsUnjudged judged new)
  pub fault : Rose old.input_faults new.input_faults
  pub after : new ≡ record old { input_faults = new.input_faults; has_input = true; input = new.input }

-- The input failed: no file was opened, or a read of it failed before it was judged.
abbrev pub FailsToReadFile : (List ℕ → ℕ) → List ℕ → DeskState → DeskState → Type 0
FailsToReadFile judged name old new = FailsToOpenInput name old new ⊎ FailsUnjudged judged name old new
