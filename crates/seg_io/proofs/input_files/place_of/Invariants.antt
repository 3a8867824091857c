use Rattle.std.proofs.Common.{◌≡◌, drop}
use Rattle.seg_io.specs.Desk.{file_named}
use Rattle.seg_io.proofs.input_files.place_of.Given as goal

abbrev pub invariant-loop-place : goal.invariant-loop-place
invariant-loop-place l = file_named (drop l.place l.files) l.name ≡ file_named l.files l.name
