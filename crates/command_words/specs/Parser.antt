-- The parser of a command, as the crate `clap` knows it.
use Rattle.std.specs.Prelude.{◌≢◌, List, map, [], Some, true, slice_index}
use Rattle.clap.specs.Walk.{Rule, Text}
use Rattle.clap.specs.Simple.{App, new_rule, new_shape}
use Rattle.command_words.specs.Parts.{IsWithout}

-- an option with a long name, which is required and takes one value
abbrev pub option_rule : Text → Rule
option_rule name = record (new_rule name) { long = Some name; required = true }

-- a command with these options, which reads all words that it is given, and has no help or version
abbrev pub parser_of : Text → List Text → App
parser_of command names = record {
  top = record (new_shape command) {
    rules = map option_rule names;
    no_binary_name = true;
    disable_help_flag = true;
    disable_version_flag = true;
  };
  subs = [];
}

-- a name of an option, without its dashes: it is not empty, and has no `=`
pub record IsOptionName (name : Text) : Type 0 where
  pub filled : name ≢ []
  pub without : IsWithout 61 name

-- a value that does not begin with `-`
abbrev pub IsPlain : Text → Type 0
IsPlain value = slice_index value 0 ≢ 45
