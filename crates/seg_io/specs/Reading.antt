-- What is left of an input that is a place in a file.
use Rattle.std.specs.Prelude.{◌≤◌, ◌<◌, Bool, true, false, List, [], ℕ, drop, length, Option, Some, None}
use Rattle.seg_io.specs.Desk.{File}
use Rattle.seg_io.specs.InMemory.{bytes_at}
use Rattle.seg_io.specs.declared.input_files.Cursor.{Cursor}

-- whether an input is open
abbrev pub is_open : Option Cursor → Bool
is_open None = false
is_open (Some cursor) = true

-- the bytes of its file from the place on, and none where no input is open
abbrev pub left_of : List File → Option Cursor → List ℕ
left_of files None = []
left_of files (Some cursor) = drop cursor.at (bytes_at cursor.file files)

-- the place is one in a file that there is
abbrev pub IsCursorIn : List File → Option Cursor → Type 0
IsCursorIn files None = Unit {0}
IsCursorIn files (Some cursor) = (cursor.file < length files) × (cursor.at ≤ length (bytes_at cursor.file files))
