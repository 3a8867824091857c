-- What a desk in memory means: all that its calls go by, and the state of a desk that it is.
use Rattle.std.specs.Prelude.{◌≡◌, ℕ, slice_index_or, ◌+◌, ◌-◌, ◌^◌, ◌==◌, ◌≤◌, ◌<◌, ◌⊎◌, true, Bool, false, if◌then◌else◌, List, [], ◌∷◌, ◌++◌, take, drop, length, min, Some, None}
use Rattle.std.specs.Option.{unwrap_or, is_some}
use Rattle.std.specs.List.{list_any}
use Rattle.seg_io.specs.declared.port.Port.{Port}
use Rattle.seg_io.specs.declared.port.Port.TheVariants.{Labels, Tree, Volume, Note, Trouble}
use Rattle.seg_io.specs.Desk.{DeskState, File, Opened, IsListed, file_named}

-- a count that goes up by one, and stands still at its last value
abbrev pub one_more : ℕ → ℕ
one_more n = min (n + 1) (2 ^ 64 - 1)

-- The calls of one kind: how many were made, and of each that is to fail, how many come before it.
pub record CallsMade : Type 0 where
  pub made : ℕ
  pub failing : List ℕ

abbrev pub no_calls : CallsMade
no_calls = record { made = 0; failing = [] }

-- whether the next call was told to fail
abbrev pub is_due : CallsMade → Bool
is_due calls = list_any (λ before. before == calls.made) calls.failing

abbrev pub counted : CallsMade → CallsMade
counted calls = record calls { made = one_more calls.made }

-- the n-th call is to fail, from 1; there is none before the first
abbrev pub told : ℕ → CallsMade → CallsMade
told n calls = if n == 0 then calls else record calls { failing = calls.failing ++ (n - 1) ∷ [] }

-- what was written on a port, the room for it, and the writes that were made on it
pub record OutputState : Type 0 where
  pub bytes : List ℕ
  pub room : ℕ
  pub calls : CallsMade

abbrev pub new_output : ℕ → OutputState
new_output room = record { bytes = []; room = room; calls = no_calls }

pub record OutputsState : Type 0 where
  pub labels : OutputState
  pub tree : OutputState
  pub volume : OutputState
  pub note : OutputState
  pub trouble : OutputState

abbrev pub new_outputs : ℕ → OutputsState
new_outputs room = record {
  labels = new_output room;
  tree = new_output room;
  volume = new_output room;
  note = new_output room;
  trouble = new_output room;
}

abbrev pub output_at : Port → OutputsState → OutputState
output_at Labels s = s.labels
output_at Tree s = s.tree
output_at Volume s = s.volume
output_at Note s = s.note
output_at Trouble s = s.trouble

abbrev pub with_output : Port → OutputState → OutputsState → OutputsState
with_output Labels output s = record s { labels = output }
with_output Tree output s = record s { tree = output }
with_output Volume output s = record s { volume = output }
with_output Note output s = record s { note = output }
with_output Trouble output s = record s { trouble = output }

-- a write on a port fails exactly where it was told to, or no room is left
abbrev pub IsRefused : OutputState → Type 0
IsRefused output = (is_due output.calls ≡ true) ⊎ (output.room ≤ length output.bytes)

-- how many of these bytes a write takes, of which a call takes no more than `most`
abbrev pub write_length : ℕ → List ℕ → OutputState → ℕ
write_length most bytes output = min (min (length bytes) most) (output.room - length output.bytes)

-- The bytes are written as far as they go; a write that is refused leaves them as they were.
pub record WritesOutput (k most : ℕ) (bytes : List ℕ) (old new : OutputState) : Type 0 where
  pub taken : k ≡ write_length most bytes old
  pub refused : ¬ (IsRefused old)
  pub after : new ≡ record old { bytes = old.bytes ++ take k bytes; calls = counted old.calls }

pub record RefusesOutput (old new : OutputState) : Type 0 where
  pub refused : IsRefused old
  pub after : new ≡ record old { calls = counted old.calls }

-- the files, the newest first, and the input that is open
pub record InputState : Type 0 where
  pub files : List File
  pub has_input : Bool
  pub left : List ℕ

-- the bytes of the file at a place in the list
abbrev pub bytes_at : ℕ → List File → List ℕ
bytes_at place files = (slice_index_or files place (record { name = []; bytes = [] })).bytes

-- the ports that were opened, and the most bytes that a name has
pub record OpenedState : Type 0 where
  pub list : List Opened
  pub room : ℕ

-- the port is a file that may be opened, and stands not in the list
abbrev pub IsFresh : Port → List Opened → Type 0
IsFresh Labels list = ¬ (IsListed Labels list)
IsFresh Tree list = ¬ (IsListed Tree list)
IsFresh Volume list = ¬ (IsListed Volume list)
IsFresh Note list = ⊥
IsFresh Trouble list = ⊥

-- 1 where the two are the same port of a file, and else 0
abbrev pub same_port : Port → Port → ℕ
same_port Labels Labels = 1
same_port Tree Tree = 1
same_port Volume Volume = 1
same_port _ _ = 0

-- how often a port stands in the list
abbrev pub times_listed : Port → List Opened → ℕ
times_listed port [] = 0
times_listed port (opened ∷ others) = same_port port opened.port + times_listed port others

-- each of the three ports that may be opened stands there at most once, and no other
pub record AreDistinct (list : List Opened) : Type 0 where
  pub all : length list ≡ times_listed Labels list + times_listed Tree list + times_listed Volume list
  pub labels : times_listed Labels list ≤ 1
  pub tree : times_listed Tree list ≤ 1
  pub volume : times_listed Volume list ≤ 1

-- A desk in memory: the most bytes that a call takes, what it holds, its counts, and its calls.
pub record MemoryState : Type 0 where
  pub most : ℕ
  pub input : InputState
  pub opened : OpenedState
  pub outputs : OutputsState
  pub input_faults : ℕ
  pub output_faults : ℕ
  pub trouble_faults : ℕ
  pub misses : ℕ
  pub opening_in : CallsMade
  pub reading : CallsMade
  pub opening_out : CallsMade

-- a new one has no file, no input, no port opened, no fault, and room for so many bytes on each port and in each name
abbrev pub new_memory : ℕ → MemoryState
new_memory room = record {
  most = 2 ^ 64 - 1;
  input = record { files = []; has_input = false; left = [] };
  opened = record { list = []; room = room };
  outputs = new_outputs room;
  input_faults = 0;
  output_faults = 0;
  trouble_faults = 0;
  misses = 0;
  opening_in = no_calls;
  reading = no_calls;
  opening_out = no_calls;
}

-- it tells everything
abbrev pub desk_state : MemoryState → DeskState
desk_state m = record {
  input_faults = m.input_faults;
  output_faults = m.output_faults;
  trouble_faults = m.trouble_faults;
  files = Some m.input.files;
  misses = m.misses;
  has_input = m.input.has_input;
  input = Some m.input.left;
  labels = Some m.outputs.labels.bytes;
  tree = Some m.outputs.tree.bytes;
  volume = Some m.outputs.volume.bytes;
  note = Some m.outputs.note.bytes;
  trouble = Some m.outputs.trouble.bytes;
  opened = m.opened.list;
}

-- what lets a call fail, and nothing else does
abbrev pub CannotOpenInput : List ℕ → MemoryState → Type 0
CannotOpenInput name m = (is_due m.opening_in ≡ true) ⊎ (file_named m.input.files name ≡ None)

abbrev pub CannotRead : MemoryState → Type 0
CannotRead m = is_due m.reading ≡ true

abbrev pub CannotOpenOutput : List ℕ → MemoryState → Type 0
CannotOpenOutput name m = (is_due m.opening_out ≡ true) ⊎ (m.opened.room < length name)

-- Each call, done and failed. A call that fails raises its count by one, or leaves it at its last value.
pub record OpensInputExactly (name : List ℕ) (old new : MemoryState) : Type 0 where
  pub allowed : ¬ (CannotOpenInput name old)
  pub after : new ≡ record old {
    opening_in = counted old.opening_in;
    input = record old.input { has_input = true; left = unwrap_or (file_named old.input.files name) [] };
  }

pub record FailsToOpenInputExactly (name : List ℕ) (old new : MemoryState) : Type 0 where
  pub refused : CannotOpenInput name old
  pub after : new ≡ record old {
    opening_in = counted old.opening_in;
    input = record old.input { has_input = false; left = [] };
    input_faults = one_more old.input_faults;
    misses = if is_some (file_named old.input.files name) then old.misses else one_more old.misses;
  }

pub record ReadsExactly (k : ℕ) (buffer filled : List ℕ) (old new : MemoryState) : Type 0 where
  pub allowed : ¬ (CannotRead old)
  pub taken : k ≡ min (min (length buffer) old.most) (length old.input.left)
  pub front : take k filled ≡ take k old.input.left
  pub after : new ≡ record old {
    reading = counted old.reading;
    input = record old.input { left = drop k old.input.left };
  }

pub record FailsToReadExactly (old new : MemoryState) : Type 0 where
  pub refused : CannotRead old
  pub after : new ≡ record old { reading = counted old.reading; input_faults = one_more old.input_faults }

pub record OpensOutputExactly (port : Port) (name : List ℕ) (old new : MemoryState) : Type 0 where
  pub allowed : ¬ (CannotOpenOutput name old)
  pub after : new ≡ record old {
    opening_out = counted old.opening_out;
    outputs = with_output port (record (output_at port old.outputs) { bytes = [] }) old.outputs;
    opened = record old.opened { list = old.opened.list ++ record { port = port; name = name } ∷ [] };
  }

pub record FailsToOpenOutputExactly (name : List ℕ) (old new : MemoryState) : Type 0 where
  pub refused : CannotOpenOutput name old
  pub after : new ≡ record old { opening_out = counted old.opening_out; output_faults = one_more old.output_faults }

pub record WritesExactly (k : ℕ) (port : Port) (bytes : List ℕ) (old new : MemoryState) : Type 0 where
  pub output : WritesOutput k old.most bytes (output_at port old.outputs) (output_at port new.outputs)
  pub after : new ≡ record old { outputs = with_output port (output_at port new.outputs) old.outputs }

-- the state with one more fault of the count that a write on the port belongs to
abbrev pub with_write_fault : Port → MemoryState → MemoryState
with_write_fault Labels m = record m { output_faults = one_more m.output_faults }
with_write_fault Tree m = record m { output_faults = one_more m.output_faults }
with_write_fault Volume m = record m { output_faults = one_more m.output_faults }
with_write_fault Note m = record m { output_faults = one_more m.output_faults }
with_write_fault Trouble m = record m { trouble_faults = one_more m.trouble_faults }

pub record FailsToWriteExactly (port : Port) (old new : MemoryState) : Type 0 where
  pub output : RefusesOutput (output_at port old.outputs) (output_at port new.outputs)
  pub after : new ≡ with_write_fault port (record old { outputs = with_output port (output_at port new.outputs) old.outputs })
