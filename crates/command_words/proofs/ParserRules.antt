-- The parser of a command whose options are long names that are required and take one value: its rules, and what the values
-- that were met make of its rows.
use Rattle.std.proofs.Common.{◌≡◌, ◌≢◌, ℕ, ◌||◌, ◌&&◌, Bool, true, false, not, cond, true≢false, List, [], ◌∷◌, ◌++◌, ◌+◌, ◌<◌, length, take, get_or, map, All, AllPairs, Contains, append-nil, is_some, Some, None, refl, sym, ap, ap₂, ◌∙◌, arith, zero, suc}
use Rattle.std.specs.List.{list_any, list_all, find, count_by}
use Rattle.std.specs.Str.{bytes_eq}
use Rattle.std.proofs.lemmas.Bool.{or_parts}
use Rattle.std.proofs.lemmas.List.{map-append, take_more}
use Rattle.std.proofs.lemmas.Slice.Eq.{bytes_eq-Decides}
use Rattle.std.proofs.lemmas.List.Elements.{All-tail}
use Rattle.clap.specs.Walk.{Rule, Row, Text, arg_by_id, arg_by_long, arg_by_short, arg_by_index, used, has_row, without, at_row, is_early_multiple}
use Rattle.clap.specs.Walk.{with_values, more_values, has_long}
use Rattle.clap.specs.Simple.{App, Shape, new_shape, built, filled_from, is_buildable, is_ready, is_ready_leaf, with_rule}
use Rattle.clap.specs.Faults.{use_fault, is_simple_and_free, is_free_app}
use Rattle.clap.specs.Kinds.{Kinds, or_else}
use Rattle.clap.specs.declared.builder.action.ArgAction.TheVariants.{Set}
use Rattle.clap.specs.declared.builder.value_parser.ValueParser.TheVariants as vp
use Rattle.clap.specs.declared.builder.value_parser.Reading.TheVariants as reading
use Rattle.clap.specs.declared.parser.matches.ValueSource.TheVariants.{CommandLine}
use Rattle.clap.specs.declared.error.kind.ErrorKind.TheVariants as kind
use Rattle.command_words.specs.Words.{Given}
use Rattle.command_words.specs.declared.options.OptionName.{OptionName}
use Rattle.command_words.specs.Slots.{IsMissing, spelled}
use Rattle.command_words.specs.Parser.{option_rule, parser_of}

-- an option as the parser has it once it is built
abbrev pub built_rule : Text → Rule
built_rule name = record (option_rule name) {
  action = Some Set;
  parser = Some vp.String;
  range = Some (record { start_inclusive = 1; end_inclusive = 1 });
}

-- the whole of it
abbrev pub built_shape : Text → List Text → Shape
built_shape command names = record (new_shape command) {
  rules = map built_rule names;
  no_binary_name = true;
  disable_help_flag = true;
  disable_help_subcommand = true;
  disable_version_flag = true;
  is_built = true;
}

filled_rules : (i : ℕ) (names : List Text) → filled_from i (map option_rule names) ≡ map built_rule names
filled_rules i [] = refl
filled_rules i (name ∷ names) = ap (λ rules. built_rule name ∷ rules) (filled_rules i names)

pub built_is : (command : Text) (names : List Text) → built (parser_of command names) ≡ record { top = built_shape command names; subs = [] }
built_is command names = λ i. record { top = record (built_shape command names) { rules = filled_rules 1 names i }; subs = [] }

-- ---- the parser is one of those whose answers are known

all_pass : {X : Type 0} (f : Text → X) (p : X → Bool) → ((name : Text) → p (f name) ≡ true) → (names : List Text) → list_all p (map f names) ≡ true
all_pass f p pass [] = refl
all_pass f p pass (name ∷ names) = ap₂ (λ a b. a && b) (pass name) (all_pass f p pass names)

none_pass : {X : Type 0} (f : Text → X) (p : X → Bool) → ((name : Text) → p (f name) ≡ false) → (names : List Text) → list_any p (map f names) ≡ false
none_pass f p fail [] = refl
none_pass f p fail (name ∷ names) = ap₂ (λ a b. a || b) (fail name) (none_pass f p fail names)

simple_rest : Bool → App → Bool
simple_rest simple b = (simple && (is_ready b.top && list_all is_ready_leaf b.subs)) && is_free_app b

pub is_known_parser : (command : Text) (names : List Text) → is_simple_and_free (parser_of command names) ≡ true
unfolding simple_rest
is_known_parser command names =
    let rules = map built_rule names in
    let simple = all_pass option_rule (λ r. r.is_simple) (λ name. refl) names in
    let ready = all_pass built_rule (λ r. r.is_simple) (λ name. refl) names in
    let late = none_pass built_rule (is_early_multiple (count_by (λ a. is_some a.index) rules)) (λ name. refl) names in
    let free = all_pass built_rule (λ r. r.is_free) (λ name. refl) names in
    ap (simple_rest (is_buildable (parser_of command names))) (built_is command names)
    ∙ (λ i. ((simple i && true) && ((ready i && not (late i)) && true)) && (free i && true))

-- ---- which rule a name has

-- the name is one of these
abbrev pub is_name_of : List Text → Text → Bool
is_name_of names name = list_any (λ n. bytes_eq n name) names

found_rule : (pass : Rule → Text → Bool) → ((n name : Text) → pass (built_rule n) name ≡ bytes_eq n name) → (names : List Text) (name : Text)
    → find (λ r. pass r name) (map built_rule names) ≡ cond (is_name_of names name) (Some (built_rule name)) None
found_rule pass same [] name = refl
found_rule pass same (n ∷ names) name = by_test (bytes_eq n name) refl (found_rule pass same names name)
  where
    by_test : (b : Bool) → bytes_eq n name ≡ b
        → find (λ r. pass r name) (map built_rule names) ≡ cond (is_name_of names name) (Some (built_rule name)) None
        → find (λ r. pass r name) (map built_rule (n ∷ names)) ≡ cond (is_name_of (n ∷ names) name) (Some (built_rule name)) None
    by_test true e later =
        let is = (bytes_eq-Decides n name).0 e in
        rw (same n name, e) (ap (λ (t : Text). Some (built_rule t)) is)
    by_test false e later = rw (same n name, e) later

pub rule_by_long : (names : List Text) (name : Text) → arg_by_long (map built_rule names) name ≡ cond (is_name_of names name) (Some (built_rule name)) None
rule_by_long = found_rule (λ r name. not (is_some r.index) && has_long r name) (λ n name. or_none (bytes_eq n name))
  where
    or_none : (b : Bool) → (b || false) ≡ b
    or_none true = refl
    or_none false = refl

pub rule_by_id : (names : List Text) (name : Text) → arg_by_id (map built_rule names) name ≡ cond (is_name_of names name) (Some (built_rule name)) None
rule_by_id = found_rule (λ r id. bytes_eq r.id id) (λ n name. refl)

pub no_rule_by_short : (names : List Text) (c : ℕ) → arg_by_short (map built_rule names) c ≡ None
no_rule_by_short [] c = refl
no_rule_by_short (n ∷ names) c = no_rule_by_short names c

pub no_rule_by_index : (names : List Text) (i : ℕ) → arg_by_index (map built_rule names) i ≡ None
no_rule_by_index [] i = refl
no_rule_by_index (n ∷ names) i = no_rule_by_index names i

-- ---- rows

-- the row of an option that is given
abbrev pub row_of : Given → Row
row_of o = record {
  id = o.name;
  values = o.value ∷ [];
  count = None;
  source = Some CommandLine;
  reading = reading.AsWritten;
}

-- options whose names differ, each one of these
pub record AreSome (names : List Text) (given : List Given) : Type 0 where
  pub known : All (λ o. Contains names o.name) given
  pub once : AllPairs (λ o p. o.name ≢ p.name) given

pub missing_row : (given : List Given) (name : Text) → has_row name (map row_of given) ≡ false → IsMissing given name
missing_row [] name none k d lt = absurd (omega arith)
missing_row (o ∷ given) name none zero d lt = λ e. true≢false (sym ((bytes_eq-Decides o.name name).1 e)
    ∙ (or_parts (bytes_eq o.name name) (has_row name (map row_of given)) none).0)
missing_row (o ∷ given) name none (suc k) d lt =
    missing_row given name (or_parts (bytes_eq o.name name) (has_row name (map row_of given)) none).1 k d (omega arith)

pub row_missing : (given : List Given) (name : Text) → IsMissing given name → has_row name (map row_of given) ≡ false
row_missing [] name none = refl
row_missing (o ∷ given) name none = by_test (bytes_eq o.name name) refl (row_missing given name (All-tail (λ p. p.name ≢ name) o given none))
  where
    by_test : (b : Bool) → bytes_eq o.name name ≡ b → has_row name (map row_of given) ≡ false
        → (bytes_eq o.name name || has_row name (map row_of given)) ≡ false
    by_test true e later = absurd (none 0 o (omega arith) ((bytes_eq-Decides o.name name).0 e))
    by_test false e later = rw e later

-- the parser adds the row of an option that was not given yet
at_end : (id : Text) (change : Row → List Row) (missing rows : List Row) → has_row id rows ≡ false → at_row id change missing rows ≡ rows ++ missing
at_end id change missing [] none = refl
at_end id change missing (r ∷ rows) none =
    let both = or_parts (bytes_eq r.id id) (has_row id rows) none in
    rw both.0 (ap (λ l. r ∷ l) (at_end id change missing rows both.1))

kept : (id : Text) (rows : List Row) → has_row id rows ≡ false → without id rows ≡ rows
kept id rows none = at_end id (λ _. []) [] rows none ∙ append-nil rows

pub row_added : (o : Given) (given : List Given) → has_row o.name (map row_of given) ≡ false
    → used (built_rule o.name) (o.value ∷ []) (map row_of given) ≡ map row_of (given ++ o ∷ [])
row_added o given none =
    ap (with_values o.name reading.AsWritten CommandLine (o.value ∷ [])) (kept o.name (map row_of given) none)
    ∙ at_end o.name (more_values CommandLine (o.value ∷ [])) (row_of o ∷ []) (map row_of given) none
    ∙ sym (map-append row_of given (o ∷ []))

-- ---- one use of an option

pub or_none : (kinds : Kinds) → or_else kinds [] ≡ kinds
or_none [] = refl
or_none (k ∷ kinds) = refl

-- an option may be given once
pub use_is : (name value : Text) (rows : List Row) → use_fault false (built_rule name) (value ∷ []) rows
    ≡ cond (has_row name rows) (kind.ArgumentConflict ∷ []) []
use_is name value rows = by_test (has_row name rows)
  where
    by_test : (b : Bool) → or_else (cond (b && true) (kind.ArgumentConflict ∷ []) []) [] ≡ cond b (kind.ArgumentConflict ∷ []) []
    by_test true = refl
    by_test false = refl

-- ---- one option more

pub parser_push : (command : Text) (options : List OptionName) (i : ℕ) (d : OptionName) → i < length options
    → parser_of command (map spelled (take (i + 1) options))
    ≡ with_rule (parser_of command (map spelled (take i options))) (option_rule (spelled (get_or options i d)))
parser_push command options i d lt =
    let names : map spelled (take (i + 1) options) ≡ map spelled (take i options) ++ spelled (get_or options i d) ∷ [] =
    ap (map spelled) (take_more options i d lt) ∙ map-append spelled (take i options) (get_or options i d ∷ []) in
    ap (parser_of command) names
    ∙ ap (λ rules. record {
      top = record (new_shape command) {
        rules = rules;
        no_binary_name = true;
        disable_help_flag = true;
        disable_version_flag = true;
      };
      subs = [];
    }) (map-append option_rule (map spelled (take i options)) (spelled (get_or options i d) ∷ []))

pub adds_option : (command : Text) (options : List OptionName) (i : ℕ) (d : OptionName) (old new : App) (rule : Rule) → i < length options
    → old ≡ parser_of command (map spelled (take i options)) → new ≡ with_rule old rule → rule ≡ option_rule (spelled (get_or options i d))
    → new ≡ parser_of command (map spelled (take (i + 1) options))
adds_option command options i d old new rule lt was adds is =
    adds ∙ (λ j. with_rule (was j) (is j)) ∙ sym (parser_push command options i d lt)
