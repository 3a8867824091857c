-- The parser of a command takes words exactly where they are its options, each given once, and tells their values.
use Rattle.std.proofs.Common.{◌≡◌, ◌≢◌, ◌↔◌, inl, inr, codes, ◌||◌, ◌&&◌, Bool, true, false, not, cond, true≢false, List, [], ◌∷◌, map, get_or, All, Contains, Option, Some, None, is_some, MatchOption, refl, sym, ap, ◌∙◌, subst, arith, zero, suc}
use Rattle.std.specs.List.{flat_map, fold, find, list_any}
use Rattle.std.specs.Option.{option_map, option_map_or, option_and_then}
use Rattle.std.specs.Prelude.{slice_get}
use Rattle.std.specs.Str.{bytes_eq}
use denote.Ref.{Bor}
use Rattle.std.proofs.lemmas.Bool.{or_parts}
use Rattle.std.proofs.lemmas.Slice.Eq.{bytes_eq-Decides}
use Rattle.std.proofs.lemmas.List.Elements.{All-tail, All-cons}
use Rattle.std.proofs.Math.Bool.{or-true}
use Rattle.agglo_model.proofs.Members.{contains_head, contains_tail}
use Rattle.clap.specs.Walk.{Held, Row, Text, finished, first_of, has_row, nothing_held, rows_after, settled, walk, with_default}
use Rattle.clap.specs.Walk.{rows_of}
use Rattle.clap.specs.Simple.{App, is_simple, built, entered, matches_of, names_of}
use Rattle.clap.specs.Faults.{built_fault, check_fault, defaults_fault, entered_fault, fault_of, level_fault, settle_fault, walk_fault, given_default_fault, is_simple_and_free, is_free_app}
use Rattle.clap.specs.Takes.{is_given}
use Rattle.clap.specs.Kinds.{Kinds, HasKind, or_else}
use Rattle.clap.specs.Matches.{first_value}
use Rattle.clap.specs.Values.{kind_of}
use Rattle.clap.specs.declared.error.Error.{Error}
use Rattle.clap.specs.declared.parser.matches.Found.{Found}
use Rattle.clap.proofs.WalkLemmas.{both, first_value-rows}
use Rattle.command_words.specs.declared.job.WordsFault.{WordsFault}
use Rattle.command_words.specs.declared.job.WordsFault.TheVariants.{NoSettings, Memory}
use Rattle.command_words.specs.declared.options.OptionName.{OptionName}
use Rattle.clap.specs.Facts.{explicit_source}
use Rattle.clap.specs.declared.error.kind.ErrorKind.TheVariants as kind
use Rattle.command_words.specs.Words.{Given, given_words, AreOptionsOf, HasValue, IsBare, Dashes}
use Rattle.command_words.specs.Slots.{IsMissing, IsSlot, ReadsOptions, RefusesOptions, slot_of, spelled}
use Rattle.command_words.specs.Parser.{parser_of, IsPlain, IsOptionName}
use Rattle.command_words.proofs.Slots.{spelled_known}
use Rattle.command_words.proofs.ParserRules.{built_rule, built_shape, built_is, is_known_parser, row_of, AreSome}
use Rattle.command_words.proofs.GivenWords.{known_filled, known_without}
use Rattle.command_words.proofs.ParserTurns.{with_pending}
use Rattle.command_words.proofs.ParserReads.{walk_of, Ready, end_of, both_empty, NoDashes, takes_options}
use Rattle.command_words.proofs.ParserTakes.{takes_all, settles, settled_at}

-- ---- after the words

no_default : (name : Text) (rows : List Row) → with_default rows (built_rule name) ≡ rows
no_default name rows = by_test (has_row name rows)
  where
    by_test : (b : Bool) → cond b rows rows ≡ rows
    by_test true = refl
    by_test false = refl

finished_is : (names : List Text) (rows : List Row) → fold with_default rows (map built_rule names) ≡ rows
finished_is [] rows = refl
finished_is (name ∷ names) rows = ap (λ r. fold with_default r (map built_rule names)) (no_default name rows) ∙ finished_is names rows

no_default_fault : (names : List Text) (rows : List Row) → defaults_fault rows (map built_rule names) ≡ []
unfolding defaults_fault
no_default_fault [] rows = refl
no_default_fault (name ∷ names) rows =
    ap (λ b. or_else (cond b [] (given_default_fault (built_rule name) [])) (defaults_fault (with_default rows (built_rule name)) (map built_rule names)))
    (or-true (has_row name rows))
    ∙ no_default_fault names (with_default rows (built_rule name))

-- some option of these is not given
abbrev is_short_of : List Text → List Row → Bool
is_short_of names rows = list_any (λ a. a.required && not (is_given a.id rows)) (map built_rule names)

-- ---- the whole answer

abbrev answer : List Text → Kinds → Held → Kinds
answer names faults end = or_else faults (or_else (settle_fault (map built_rule names) false end)
    (cond (is_short_of names (settled (map built_rule names) end).rows) (kind.MissingRequiredArgument ∷ []) []))

fault_is : (command : Text) (names : List Text) (words : List Text) → fault_of (parser_of command names) words
    ≡ answer names (walk_fault (built_shape command names) [] (walk_of [] (Ready None)) words) (end_of names (walk_of [] (Ready None)) words)
fault_is command names words =
    let s = built_shape command names in
    let rules = map built_rule names in
    let end = end_of names (walk_of [] (Ready None)) words in
    ap (λ b. built_fault b nothing_held words) (built_is command names)
    ∙ no_stop (walk rules [] nothing_held words).stopped
    ∙ ap (λ d. or_else (walk_fault s [] (walk_of [] (Ready None)) words) (or_else (settle_fault rules false end)
    (or_else d (check_fault s (finished rules end) false)))) (no_default_fault names (settled rules end).rows)
    ∙ ap (λ rows. answer_of (is_short_of names rows)) (finished_is names (settled rules end).rows)
  where
    no_stop : (stop : Option (Text × List Text))
        → level_fault (built_shape command names) [] nothing_held words (is_some (entered (record { top = built_shape command names; subs = [] }) stop))
        (entered_fault (record { top = built_shape command names; subs = [] }) stop)
        ≡ level_fault (built_shape command names) [] nothing_held words false []
    no_stop None = refl
    no_stop (Some p) = refl

    answer_of : Bool → Kinds
    answer_of short = or_else (walk_fault (built_shape command names) [] (walk_of [] (Ready None)) words)
        (or_else (settle_fault (map built_rule names) false (end_of names (walk_of [] (Ready None)) words))
        (cond short (kind.MissingRequiredArgument ∷ []) []))

rows_are : (command : Text) (names : List Text) (words : List Text) → matches_of (parser_of command names) words
    ≡ (settled (map built_rule names) (end_of names (walk_of [] (Ready None)) words)).rows
rows_are command names words =
    ap (λ b. rows_after b.top.rules (names_of b) words) (built_is command names)
    ∙ finished_is names (settled (map built_rule names) (end_of names (walk_of [] (Ready None)) words)).rows

-- ---- options that are given, by their rows

given_row : (given : List Given) (name : Text) → is_given name (map row_of given) ≡ has_row name (map row_of given)
given_row [] name = refl
given_row (o ∷ given) name = by_test (bytes_eq o.name name) (given_row given name)
  where
    by_test : (b : Bool) → is_given name (map row_of given) ≡ has_row name (map row_of given)
        → option_map_or (λ (r : Row). explicit_source r.source) (cond b (Some (row_of o)) (find (λ (r : Row). bytes_eq r.id name) (map row_of given))) false
        ≡ (b || has_row name (map row_of given))
    by_test true e = refl
    by_test false e = e

row_named : (given : List Given) (name : Text) → has_row name (map row_of given) ≡ true → Contains (map (λ o. o.name) given) name
row_named [] name has = absurd (true≢false (sym has))
row_named (o ∷ given) name has = by_test (bytes_eq o.name name) refl (row_named given name) has
  where
    by_test : (b : Bool) → bytes_eq o.name name ≡ b → (has_row name (map row_of given) ≡ true → Contains (map (λ p. p.name) given) name)
        → (bytes_eq o.name name || has_row name (map row_of given)) ≡ true → Contains (map (λ p. p.name) (o ∷ given)) name
    by_test true e later both = subst (Contains (map (λ p. p.name) (o ∷ given))) ((bytes_eq-Decides o.name name).0 e)
        (contains_head o.name (map (λ p. p.name) given))
    by_test false e later both = contains_tail o.name name (map (λ p. p.name) given) (later (rw e at both))

named_row : (given : List Given) (name : Text) → Contains (map (λ o. o.name) given) name → has_row name (map row_of given) ≡ true
named_row [] name (k, lt, is) = absurd (omega arith)
named_row (o ∷ given) name (zero, lt, is) = rw ((bytes_eq-Decides o.name name).1 is) refl
named_row (o ∷ given) name (suc k, lt, is) = later (bytes_eq o.name name) (named_row given name (k, omega arith, is))
  where
    later : (b : Bool) → has_row name (map row_of given) ≡ true → (b || has_row name (map row_of given)) ≡ true
    later true e = refl
    later false e = e

missing_or : (name : Text) (rows : List Row) (b : Bool) → is_given name rows ≡ b → (not b) ≡ false → is_given name rows ≡ true
missing_or name rows true e f = e
missing_or name rows false e f = absurd (true≢false f)

all_given : (names : List Text) (given : List Given) → is_short_of names (map row_of given) ≡ false
    → All (λ name. Contains (map (λ o. o.name) given) name) names
all_given [] given short k d lt = absurd (omega arith)
all_given (name ∷ names) given short zero d lt =
    let both = or_parts (not (is_given name (map row_of given))) (is_short_of names (map row_of given)) short in
    row_named given name (sym (given_row given name) ∙ missing_or name (map row_of given) (is_given name (map row_of given)) refl both.0)
all_given (name ∷ names) given short (suc k) d lt =
    all_given names given (or_parts (not (is_given name (map row_of given))) (is_short_of names (map row_of given)) short).1 k d (omega arith)

given_all : (names : List Text) (given : List Given) → All (λ name. Contains (map (λ o. o.name) given) name) names
    → is_short_of names (map row_of given) ≡ false
given_all [] given all = refl
given_all (name ∷ names) given all =
    let here : is_given name (map row_of given) ≡ true = given_row given name ∙ named_row given name (all 0 name (omega arith)) in
    let rest = given_all names given (All-tail (Contains (map (λ o. o.name) given)) name names all) in
    λ i. not (here i) || rest i

-- ---- what an answer says

pub record Accepts (command : Text) (names : List Text) (words : List Text) : Type 0 where
  pub given : List Given
  pub words_are : words ≡ flat_map given_words given
  pub options_are : AreOptionsOf names given
  pub rows : matches_of (parser_of command names) words ≡ map row_of given

no_short : (b : Bool) → cond b (kind.MissingRequiredArgument ∷ []) [] ≡ [] → b ≡ false
no_short true e = cc e
no_short false e = refl

pub accepts : (command : Text) (names : List Text) (words : List Text) → NoDashes words
    → fault_of (parser_of command names) words ≡ [] → Accepts command names words
accepts command names words dashes none =
    let rules = map built_rule names in
    let end = end_of names (walk_of [] (Ready None)) words in
    let first = both_empty _ _ (sym (fault_is command names words) ∙ none) in
    let second = both_empty (settle_fault rules false end) (cond (is_short_of names (settled rules end).rows) (kind.MissingRequiredArgument ∷ []) []) first.1 in
    let reads = takes_options command names words [] (Ready None)
    (record { known = λ k d lt. absurd (omega arith); once = λ i j d order lt. absurd (omega arith) }) tt dashes first.0 second.0 in
    let short = no_short (is_short_of names (settled rules end).rows) second.1 in
    record {
      given = reads.more;
      words_are = reads.words_are;
      options_are = record {
        known = reads.some.known;
        once = reads.some.once;
        all = all_given names reads.more (ap (is_short_of names) (sym reads.rows) ∙ short);
      };
      rows = rows_are command names words ∙ reads.rows;
    }

pub no_fault : (command : Text) (names : List Text) (words : List Text) (given : List Given) → All IsOptionName names
    → words ≡ flat_map given_words given → AreOptionsOf names given → All (λ o. IsPlain o.value) given
    → fault_of (parser_of command names) words ≡ []
no_fault command names words given named are options plain =
    let rules = map built_rule names in
    let s = built_shape command names in
    let some : AreSome names given = record { known = options.known; once = options.once } in
    let taken = takes_all command names named given plain [] None words are some in
    let all : AreSome names (with_pending taken.last taken.left) = subst (AreSome names) (sym taken.all) some in
    let ends : settle_fault rules false (end_of names (walk_of [] (Ready None)) words) ≡ [] =
    ap (settle_fault rules false) taken.held ∙ settles names taken.last taken.left all in
    let rows : (settled rules (end_of names (walk_of [] (Ready None)) words)).rows ≡ map row_of given =
    ap (λ (h : Held). (settled rules h).rows) taken.held ∙ ap (λ (h : Held). h.rows) (settled_at names taken.last taken.left all)
    ∙ ap (map row_of) taken.all in
    let short = ap (is_short_of names) rows ∙ given_all names given options.all in
    fault_is command names words
    ∙ (λ i. or_else (taken.fault i) (or_else (ends i) (cond (short i) (kind.MissingRequiredArgument ∷ []) [])))

-- ---- values

abbrev IsFirst : List Given → Text → Option Text → Type 0
IsFirst given name first = MatchOption first (IsMissing given name) (HasValue given name)

first_slot : (given : List Given) (name : Text) → IsFirst given name (first_of name (map row_of given))
first_slot [] name = λ k d lt. absurd (omega arith)
first_slot (o ∷ given) name = by_test (bytes_eq o.name name) refl (first_slot given name)
  where
    later : (other : bytes_eq o.name name ≡ false) (first : Option Text) → IsFirst given name first → IsFirst (o ∷ given) name first
    later other None missing = All-cons (λ p. p.name ≢ name) o given (λ is. true≢false (sym ((bytes_eq-Decides o.name name).1 is) ∙ other)) missing
    later other (Some v) (p, there, named, valued) = (p, contains_tail o p given there, named, valued)

    by_test : (b : Bool) → bytes_eq o.name name ≡ b → IsFirst given name (first_of name (map row_of given))
        → IsFirst (o ∷ given) name (option_and_then (λ (r : Row). slice_get r.values 0)
        (cond b (Some (row_of o)) (find (λ (r : Row). bytes_eq r.id name) (map row_of given))))
    by_test true e first = (o, contains_head o given, (bytes_eq-Decides o.name name).0 e, refl)
    by_test false e first = later e (first_of name (map row_of given)) first

-- what the parser tells of an option is the value that it is given
pub slot_is : (given : List Given) (name : Text) (slot : Option (Bor Text)) → option_map (λ s. s.now) slot ≡ first_of name (map row_of given)
    → IsSlot given name slot
slot_is given name None e = subst (IsFirst given name) (sym e) (first_slot given name)
slot_is given name (Some value) e = subst (IsFirst given name) (sym e) (first_slot given name)

-- ---- what the program's parser says

named_options : (options : List OptionName) → All IsOptionName (map spelled options)
named_options [] k d lt = absurd (omega arith)
named_options (n ∷ options) zero d lt = record {
  filled = known_filled (spelled n) (spelled_known n);
  without = known_without (spelled n) (spelled_known n);
}
named_options (n ∷ options) (suc k) d lt = named_options options k d (omega arith)

no_dashes : (words : List Text) → All (λ word. ¬ (IsBare word)) words → NoDashes words
no_dashes words none k d lt = by_test (bytes_eq (get_or words k d) (codes "--")) refl
  where
    by_test : (b : Bool) → bytes_eq (get_or words k d) (codes "--") ≡ b → b ≡ false
    by_test true e = absurd (none k d lt (Dashes ((bytes_eq-Decides (get_or words k d) (codes "--")).0 e)))
    by_test false e = refl

pub read_by : (command : Text) (names : List Text) (words : List Text) (app : App) (found : Found) (values : List (Option (Bor Text)))
    → app ≡ parser_of command names → All (λ word. ¬ (IsBare word)) words → (is_simple_and_free app ≡ true → fault_of app words ≡ [])
    → (is_simple app ≡ true → rows_of found ≡ matches_of app words)
    → ((option : OptionName) → option_map (λ value. value.now) (slot_of values option) ≡ first_value found (spelled option))
    → ReadsOptions names words values
read_by command names words app found values is none fault rows told =
    let free : is_simple_and_free app ≡ true = ap is_simple_and_free is ∙ is_known_parser command names in
    let simple : is_simple app ≡ true = (both (is_simple app) (is_free_app (built app)) free).0 in
    let read = accepts command names words (no_dashes words none) (sym (ap (λ a. fault_of a words) is) ∙ fault free) in
    let rows_now : rows_of found ≡ map row_of read.given = rows simple ∙ ap (λ a. matches_of a words) is ∙ read.rows in
    record {
      options = read.given;
      words_are = read.words_are;
      options_are = read.options_are;
      slots = record {
        once = read.options_are.once;
        slots = λ n. slot_is read.given (spelled n) (slot_of values n)
            (told n ∙ first_value-rows found (spelled n) ∙ ap (first_of (spelled n)) rows_now);
      };
    }

pub refused_by : (command : Text) (options : List OptionName) (words : List Text) (app : App) (error : Error) (fault : WordsFault)
    → app ≡ parser_of command (map spelled options) → (is_simple_and_free app ≡ true → HasKind (fault_of app words) error)
    → (fault ≡ Memory) ↔ (kind_of error ≡ kind.OutOfMemory) → RefusesOptions (map spelled options) words fault
refused_by command options words app error Memory is kinds told = tt
refused_by command options words app error NoSettings is kinds told = λ given are named words_are.
    let names = map spelled options in
    let free : is_simple_and_free app ≡ true = ap is_simple_and_free is ∙ is_known_parser command names in
    let none : fault_of app words ≡ [] = ap (λ a. fault_of a words) is
    ∙ no_fault command names words given (named_options options) words_are are (λ k d lt. (named k d lt).no_option) in
    elim (subst (λ (k : Kinds). HasKind k error) none (kinds free)) [
      | inl memory ↦ cc (told.1 memory)
      | inr among ↦ among
    ]
