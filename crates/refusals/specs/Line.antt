-- A line made of a text, or of a number between two texts.
use Rattle.std.specs.Prelude.{ℕ, List, [], ◌∷◌, ◌++◌, Option, Some, None}
use Rattle.std.specs.Fmt.{decimal}
use Rattle.refusals.specs.declared.line.Line.{Line}

abbrev pub digits_of : Option ℕ → List ℕ
digits_of None = []
digits_of (Some n) = decimal n

-- its bytes, with the line feed
abbrev pub line_bytes : Line → List ℕ
line_bytes line = line.before.now ++ (digits_of line.number ++ (line.after.now ++ 10 ∷ []))
