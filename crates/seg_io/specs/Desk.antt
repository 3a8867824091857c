-- What a desk means: its state, and what each call does to that state.
use Rattle.std.specs.Prelude.{◌≡◌, ℕ, ◌<◌, ◌≤◌, Bool, true, false, List, [], ◌∷◌, ◌++◌, length, take, drop, min, find, All, ◌⊎◌, Option, IsSome, IfSome, MatchOption}
use Rattle.std.specs.Option.{option_map}
use Rattle.std.specs.Str.{bytes_eq}
use Rattle.agglo_model.specs.Count.{Rose}
use Rattle.seg_io.specs.declared.port.Port.{Port}
use Rattle.seg_io.specs.declared.port.Port.TheVariants.{Labels, Tree, Volume, Note, Trouble}

-- a file that a desk has: its name and its bytes
pub record File : Type 0 where
  pub name : List ℕ
  pub bytes : List ℕ

-- a port that was opened, and the name that it was opened under
pub record Opened : Type 0 where
  pub port : Port
  pub name : List ℕ

-- All that a desk means. None stands for what the desk does not tell.
pub record DeskState : Type 0 where
  -- the three counts of faults
  pub input_faults : ℕ
  pub output_faults : ℕ
  pub trouble_faults : ℕ
  -- the files by name, and how often a name was asked for that no file has
  pub files : Option (List File)
  pub misses : ℕ
  -- whether an input is open, and what is left of it
  pub has_input : Bool
  pub input : Option (List ℕ)
  -- what was written on each port since it was opened
  pub labels : Option (List ℕ)
  pub tree : Option (List ℕ)
  pub volume : Option (List ℕ)
  pub note : Option (List ℕ)
  pub trouble : Option (List ℕ)
  -- the ports that were opened so far
  pub opened : List Opened

-- the bytes of the file of this name
abbrev pub file_named : List File → List ℕ → Option (List ℕ)
file_named files name = option_map (λ file. file.bytes) (find (λ file. bytes_eq file.name name) files)

-- whether the port stands in the list
abbrev pub IsListed : Port → List Opened → Type 0
IsListed port [] = ⊥
IsListed port (opened ∷ others) = (opened.port ≡ port) ⊎ IsListed port others

-- a port is open: standard output and standard error always, others once they were opened
abbrev pub IsOpen : Port → DeskState → Type 0
IsOpen Labels s = IsListed Labels s.opened
IsOpen Tree s = IsListed Tree s.opened
IsOpen Volume s = IsListed Volume s.opened
IsOpen Note s = Unit {0}
IsOpen Trouble s = Unit {0}

-- the port is a file that may be opened, and is not open
abbrev pub CanOpen : Port → DeskState → Type 0
CanOpen Labels s = ¬ (IsListed Labels s.opened)
CanOpen Tree s = ¬ (IsListed Tree s.opened)
CanOpen Volume s = ¬ (IsListed Volume s.opened)
CanOpen Note s = ⊥
CanOpen Trouble s = ⊥

-- what was written on a port, and the state with other bytes there
abbrev pub written_at : Port → DeskState → Option (List ℕ)
written_at Labels s = s.labels
written_at Tree s = s.tree
written_at Volume s = s.volume
written_at Note s = s.note
written_at Trouble s = s.trouble

abbrev pub with_written : Port → Option (List ℕ) → DeskState → DeskState
with_written Labels bytes s = record s { labels = bytes }
with_written Tree bytes s = record s { tree = bytes }
with_written Volume bytes s = record s { volume = bytes }
with_written Note bytes s = record s { note = bytes }
with_written Trouble bytes s = record s { trouble = bytes }

-- the count that a write on the port belongs to, and the state with another value of it
abbrev pub faults_at : Port → DeskState → ℕ
faults_at Labels s = s.output_faults
faults_at Tree s = s.output_faults
faults_at Volume s = s.output_faults
faults_at Note s = s.output_faults
faults_at Trouble s = s.trouble_faults

abbrev pub with_faults : Port → ℕ → DeskState → DeskState
with_faults Labels n s = record s { output_faults = n }
with_faults Tree n s = record s { output_faults = n }
with_faults Volume n s = record s { output_faults = n }
with_faults Note n s = record s { output_faults = n }
with_faults Trouble n s = record s { trouble_faults = n }

-- the state with these bytes added at the end of a port
abbrev pub appended : Port → List ℕ → DeskState → DeskState
appended port bytes s = with_written port (option_map (λ written. written ++ bytes) (written_at port s)) s

-- the state with the first k bytes of the input taken off
abbrev pub taken : ℕ → DeskState → DeskState
taken k s = record s { input = option_map (drop k) s.input }

-- the state with nothing left of the input
abbrev pub emptied : DeskState → DeskState
emptied s = record s { input = option_map (λ _. []) s.input }

-- some bytes were taken off the input, and nothing else happened
pub record TakesSome (old new : DeskState) : Type 0 where
  pub count : ℕ
  pub after : new ≡ taken count old

-- An input was opened: the file of that name, where files are told.
pub record OpensInput (name : List ℕ) (old new : DeskState) : Type 0 where
  pub found : IfSome old.files (λ files. IsSome (file_named files name))
  pub file : IfSome old.files (λ files. new.input ≡ file_named files name)
  pub after : new ≡ record old { has_input = true; input = new.input }

-- No input was opened, and none is open. A name that no file has is a miss.
pub record FailsToOpenInput (name : List ℕ) (old new : DeskState) : Type 0 where
  pub fault : Rose old.input_faults new.input_faults
  pub misses : IfSome old.files (λ files. MatchOption (file_named files name) (Rose old.misses new.misses) (λ _. new.misses ≡ old.misses))
  pub after : new ≡ record old { input_faults = new.input_faults; misses = new.misses; has_input = false; input = new.input }

-- k bytes were read to the front of a buffer, none only at the end of the input.
pub record Reads (k : ℕ) (buffer : List ℕ) (filled : List ℕ) (old new : DeskState) : Type 0 where
  pub room : k ≤ length buffer
  pub there : IfSome old.input (λ bytes. k ≤ length bytes)
  pub front : IfSome old.input (λ bytes. take k filled ≡ take k bytes)
  pub none_left : IfSome old.input (λ bytes. k ≡ 0 → bytes ≡ [])
  pub after : new ≡ taken k old

-- a buffer was filled with bytes, as far as the input went
pub record Fills (k : ℕ) (buffer : List ℕ) (filled : List ℕ) (old new : DeskState) : Type 0 where
  pub room : k ≤ length buffer
  pub front : IfSome old.input (λ bytes. take k filled ≡ take k bytes)
  pub all : IfSome old.input (λ bytes. k ≡ min (length buffer) (length bytes))
  pub fit : All (λ byte. byte < 256) (take k filled)
  pub after : new ≡ taken k old

-- a read failed, and took nothing
pub record FailsToRead (old new : DeskState) : Type 0 where
  pub fault : Rose old.input_faults new.input_faults
  pub after : new ≡ record old { input_faults = new.input_faults }

-- A read of several pieces failed. Bytes were taken, but fewer than the reader wants of such an input.
pub record FailsAfterReading (wanted : List ℕ → ℕ) (old new : DeskState) : Type 0 where
  pub read : ℕ
  pub few : IfSome old.input (λ bytes. read < wanted bytes)
  pub fault : Rose old.input_faults new.input_faults
  pub after : new ≡ record (taken read old) { input_faults = new.input_faults }

-- a port was opened under this name, with nothing written
pub record OpensOutput (port : Port) (name : List ℕ) (old new : DeskState) : Type 0 where
  pub empty : IfSome (written_at port new) (λ bytes. bytes ≡ [])
  pub after : new ≡ record (with_written port (written_at port new) old) { opened = old.opened ++ record { port = port; name = name } ∷ [] }

-- no port was opened
pub record FailsToOpenOutput (old new : DeskState) : Type 0 where
  pub fault : Rose old.output_faults new.output_faults
  pub after : new ≡ record old { output_faults = new.output_faults }

-- the first k bytes were written, at least one
pub record Writes (k : ℕ) (port : Port) (bytes : List ℕ) (old new : DeskState) : Type 0 where
  pub some : 1 ≤ k
  pub most : k ≤ length bytes
  pub after : new ≡ appended port (take k bytes) old

-- a write failed, after the first `written` of the bytes
pub record FailsAfterWriting (port : Port) (bytes : List ℕ) (old new : DeskState) : Type 0 where
  pub written : ℕ
  pub most : written ≤ length bytes
  pub fault : Rose (faults_at port old) (faults_at port new)
  pub after : new ≡ with_faults port (faults_at port new) (appended port (take written bytes) old)

-- a write failed, and wrote nothing
pub record FailsToWrite (port : Port) (old new : DeskState) : Type 0 where
  pub fault : Rose (faults_at port old) (faults_at port new)
  pub after : new ≡ with_faults port (faults_at port new) old
