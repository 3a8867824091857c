-- The words of the command line, as the lists of bytes that the definitions speak of.
use Rattle.std.specs.Prelude.{ℕ, List, map, String, string_bytes}
use Rattle.std.specs.declared.alloc.Global.{Global}

abbrev pub texts : List (String Global) → List (List ℕ)
texts words = map string_bytes words
