-- What the parser of a command makes of one word, by where it stands.
use Rattle.std.proofs.Common.{◌≡◌, ◌≢◌, ℕ, ◌||◌, Bool, true, false, cond, true≢false, List, [], ◌∷◌, ◌++◌, map, length, Contains, codes, Option, Some, None, IfSome, refl, sym, ap, ◌∙◌, arith, zero, suc}
use Rattle.std.specs.Option.{option_map_or}
use Rattle.std.specs.Str.{bytes_eq, chars}
use Rattle.std.specs.Prelude.{slice_get, drop, encode_utf8, nat_lt}
use Rattle.clap.specs.declared.error.kind.ErrorKind.{ErrorKind}
use Rattle.std.proofs.lemmas.Slice.Eq.{bytes_eq-Decides}
use Rattle.std.proofs.lemmas.List.Quantifiers.{all_pairs_push}
use Rattle.std.proofs.lemmas.List.Elements.{All-push}
use Rattle.clap.specs.Lexer.{long_of, short_of}
use Rattle.clap.specs.Walk.{Held, Rule, Row, Step, Text, Waiting, Walk, idle, option, positional, next, trailing, plain, arg_by_id, arg_by_long, after_flag, after_step, bundle_met, bundle_step, has_row, long_met, long_or_other, option_word, plain_word, pushed, reacted, settled, used_by_id, short_or_plain, subcommand_met, subcommand_or_other, walked}
use Rattle.clap.specs.Simple.{Shape}
use Rattle.clap.specs.Faults.{flag_word_fault, flags_fault, long_fault, other_fault, react_fault, settle_fault, step_fault, stray_fault, turn_fault, use_fault, bundle_step_fault, short_fault, positional_fault}
use Rattle.clap.specs.Kinds.{Kinds, or_else}
use Rattle.clap.specs.declared.error.kind.ErrorKind.TheVariants as kind
use Rattle.command_words.specs.Words.{Given}
use Rattle.command_words.specs.Slots.{IsMissing}
use Rattle.command_words.proofs.ParserRules.{built_rule, built_shape, is_name_of, rule_by_id, rule_by_long, no_rule_by_short, no_rule_by_index, row_of, AreSome, missing_row, row_added, or_none, use_is}

-- between two words, with nothing of what comes after the options
abbrev pub walk_at : Held → Waiting → Walk
walk_at held waiting = record { held = held; waiting = waiting; position = 1; is_trailing = false; stopped = None }

no_command : (waiting : Waiting) (word : Text) → subcommand_met [] waiting word ≡ None
no_command idle word = refl
no_command (option id) word = refl
no_command positional word = refl

pub turn_is : (s : Shape) (h : Held) (waiting : Waiting) (word : Text) (long : Option (Text × Option Text)) → bytes_eq word (codes "--") ≡ false
    → long_of word ≡ long → turn_fault s [] (walk_at h waiting) word ≡ or_else (flag_word_fault s.rules s.args_override_self long word h)
    (step_fault s 1 (long_or_other s.rules waiting word long h).0 (long_or_other s.rules waiting word long h).1)
turn_is s h waiting word long other is =
    (λ i. or_else (other_fault s (no_command waiting word i) word h)
    (step_fault s 1 (subcommand_or_other s.rules (no_command waiting word i) waiting 1 word h).0
    (subcommand_or_other s.rules (no_command waiting word i) waiting 1 word h).1))
    ∙ (λ i. or_else (cond (other i) [] (flag_word_fault s.rules s.args_override_self (is i) word h))
    (step_fault s 1 (cond (other i) (h, trailing 1) (long_or_other s.rules waiting word (is i) h)).0
    (cond (other i) (h, trailing 1) (long_or_other s.rules waiting word (is i) h)).1))

pub walked_is : (rules : List Rule) (h : Held) (waiting : Waiting) (word : Text) (long : Option (Text × Option Text))
    → bytes_eq word (codes "--") ≡ false → long_of word ≡ long
    → walked rules [] (walk_at h waiting) word
    ≡ after_step rules word (walk_at h waiting) (long_or_other rules waiting word long h).0 (long_or_other rules waiting word long h).1
unfolding walked
walked_is rules h waiting word long other is =
    (λ i. after_step rules word (walk_at h waiting) (subcommand_or_other rules (no_command waiting word i) waiting 1 word h).0
    (subcommand_or_other rules (no_command waiting word i) waiting 1 word h).1)
    ∙ (λ i. after_step rules word (walk_at h waiting) (cond (other i) (h, trailing 1) (long_or_other rules waiting word (is i) h)).0
    (cond (other i) (h, trailing 1) (long_or_other rules waiting word (is i) h)).1)

-- ---- the option of a name

pub known_name : (names : List Text) (name : Text) → Contains names name → is_name_of names name ≡ true
known_name [] name (k, lt, is) = absurd (omega arith)
known_name (n ∷ names) name (zero, lt, is) = rw ((bytes_eq-Decides n name).1 is) refl
known_name (n ∷ names) name (suc k, lt, is) = later (bytes_eq n name) (known_name names name (k, omega arith, is))
  where
    later : (b : Bool) → is_name_of names name ≡ true → (b || is_name_of names name) ≡ true
    later true e = refl
    later false e = e

pub name_known : (names : List Text) (name : Text) → is_name_of names name ≡ true → Contains names name
name_known [] name known = absurd (true≢false (sym known))
name_known (n ∷ names) name known = by_test (bytes_eq n name) refl (name_known names name) known
  where
    by_test : (b : Bool) → bytes_eq n name ≡ b → (is_name_of names name ≡ true → Contains names name)
        → (bytes_eq n name || is_name_of names name) ≡ true → Contains (n ∷ names) name
    by_test true e later both = (0, omega arith, (bytes_eq-Decides n name).0 e)
    by_test false e later both =
        let c = later (rw e at both) in
        (suc c.0, (let lt = c.1 in omega arith), c.2)

rule_of_id : (names : List Text) (name : Text) → Contains names name → arg_by_id (map built_rule names) name ≡ Some (built_rule name)
rule_of_id names name known = rule_by_id names name ∙ ap (λ b. cond b (Some (built_rule name)) None) (known_name names name known)

rule_of_long : (names : List Text) (name : Text) → Contains names name → arg_by_long (map built_rule names) name ≡ Some (built_rule name)
rule_of_long names name known = rule_by_long names name ∙ ap (λ b. cond b (Some (built_rule name)) None) (known_name names name known)

-- ---- where the parser stands

abbrev pub pending_of : Option Given → Option (Text × List Text)
pending_of None = None
pending_of (Some o) = Some (o.name, o.value ∷ [])

-- these options were given, and perhaps one more, whose row is not there yet
abbrev pub held_at : List Given → Option Given → Held
held_at given pending = record { rows = map row_of given; pending = pending_of pending; skip = 0 }

abbrev pub with_pending : List Given → Option Given → List Given
with_pending given None = given
with_pending given (Some o) = given ++ o ∷ []

-- an option of this name waits for its value
abbrev pub held_waiting : List Given → Text → Held
held_waiting given name = record { rows = map row_of given; pending = Some (name, []); skip = 0 }

-- the one more option has its row now
pub record IsSettled (names : List Text) (given : List Given) (pending : Option Given) : Type 0 where
  pub held : settled (map built_rule names) (held_at given pending) ≡ held_at (with_pending given pending) None
  pub some : AreSome names (with_pending given pending)

pub some_push : (names : List Text) (given : List Given) (o : Given) → AreSome names given → Contains names o.name → IsMissing given o.name
    → AreSome names (given ++ o ∷ [])
some_push names given o some known none = record {
  known = All-push (λ p. Contains names p.name) given o some.known known;
  once = all_pairs_push (λ p q. p.name ≢ q.name) given o some.once none;
}

pub settle_is : (names : List Text) (given : List Given) (o : Given) → Contains names o.name
    → settle_fault (map built_rule names) false (held_at given (Some o)) ≡ cond (has_row o.name (map row_of given)) (kind.ArgumentConflict ∷ []) []
settle_is names given o known =
    ap (λ rule. option_map_or (λ a. use_fault false a (o.value ∷ []) (map row_of given)) rule []) (rule_of_id names o.name known)
    ∙ use_is o.name o.value (map row_of given)

pub no_conflict : (b : Bool) → cond b (kind.ArgumentConflict ∷ []) [] ≡ [] → b ≡ false
no_conflict true e = cc e
no_conflict false e = refl

pub settled_is : (names : List Text) (given : List Given) (o : Given) → Contains names o.name → has_row o.name (map row_of given) ≡ false
    → settled (map built_rule names) (held_at given (Some o)) ≡ held_at (given ++ o ∷ []) None
settled_is names given o known none =
    let at : List Row → Held = λ rows. record { rows = rows; pending = None; skip = 0 } in
    ap (λ rule. at (used_by_id rule (o.value ∷ []) (map row_of given))) (rule_of_id names o.name known)
    ∙ ap at (row_added o given none)

pub settle : (names : List Text) (given : List Given) (pending : Option Given) → AreSome names given → IfSome pending (λ o. Contains names o.name)
    → settle_fault (map built_rule names) false (held_at given pending) ≡ [] → IsSettled names given pending
settle names given None some known fault = record { held = refl; some = some }
settle names given (Some o) some known fault =
    let none = no_conflict (has_row o.name (map row_of given)) (sym (settle_is names given o known) ∙ fault) in
    record {
      held = settled_is names given o known none;
      some = some_push names given o some known (missing_row given o.name none);
    }

pub no_value_fault : (names : List Text) (given : List Given) (name : Text) → Contains names name
    → settle_fault (map built_rule names) false (held_waiting given name) ≡ kind.InvalidValue ∷ []
no_value_fault names given name known =
    ap (λ rule. option_map_or (λ a. use_fault false a [] (map row_of given)) rule []) (rule_of_id names name known)

-- ---- turns

-- `--name=value`
pub joined_fault : (command : Text) (names : List Text) (h : Held) (waiting : Waiting) (word name v : Text) → bytes_eq word (codes "--") ≡ false
    → long_of word ≡ Some (name, Some v) → Contains names name
    → turn_fault (built_shape command names) [] (walk_at h waiting) word ≡ react_fault (map built_rule names) false (built_rule name) (v ∷ []) h
joined_fault command names h waiting word name v other is known =
    let rules = map built_rule names in
    let s = built_shape command names in
    let r = rule_of_long names name known in
    turn_is s h waiting word (Some (name, Some v)) other is
    ∙ (λ i. or_else (long_fault rules false (r i) (Some v) h)
    (step_fault s 1 (after_flag rules waiting word (long_met rules (r i) (Some v) h).0 (long_met rules (r i) (Some v) h).1).0
    (after_flag rules waiting word (long_met rules (r i) (Some v) h).0 (long_met rules (r i) (Some v) h).1).1))
    ∙ or_none (react_fault rules false (built_rule name) (v ∷ []) h)

pub joined_walked : (names : List Text) (h : Held) (waiting : Waiting) (word name v : Text) → bytes_eq word (codes "--") ≡ false
    → long_of word ≡ Some (name, Some v) → Contains names name
    → walked (map built_rule names) [] (walk_at h waiting) word ≡ walk_at (reacted (map built_rule names) (built_rule name) (v ∷ []) h) idle
joined_walked names h waiting word name v other is known =
    let rules = map built_rule names in
    let r = rule_of_long names name known in
    walked_is rules h waiting word (Some (name, Some v)) other is
    ∙ (λ i. after_step rules word (walk_at h waiting)
    (after_flag rules waiting word (long_met rules (r i) (Some v) h).0 (long_met rules (r i) (Some v) h).1).0
    (after_flag rules waiting word (long_met rules (r i) (Some v) h).0 (long_met rules (r i) (Some v) h).1).1)

-- `--name`
pub alone_fault : (command : Text) (names : List Text) (h : Held) (waiting : Waiting) (word name : Text) → bytes_eq word (codes "--") ≡ false
    → long_of word ≡ Some (name, None) → Contains names name
    → turn_fault (built_shape command names) [] (walk_at h waiting) word ≡ settle_fault (map built_rule names) false h
alone_fault command names h waiting word name other is known =
    let rules = map built_rule names in
    let s = built_shape command names in
    let r = rule_of_long names name known in
    turn_is s h waiting word (Some (name, None)) other is
    ∙ (λ i. or_else (long_fault rules false (r i) None h)
    (step_fault s 1 (after_flag rules waiting word (long_met rules (r i) None h).0 (long_met rules (r i) None h).1).0
    (after_flag rules waiting word (long_met rules (r i) None h).0 (long_met rules (r i) None h).1).1))
    ∙ or_none (settle_fault rules false h)

pub alone_walked : (names : List Text) (h : Held) (waiting : Waiting) (word name : Text) → bytes_eq word (codes "--") ≡ false
    → long_of word ≡ Some (name, None) → Contains names name
    → walked (map built_rule names) [] (walk_at h waiting) word
    ≡ walk_at (record (settled (map built_rule names) h) { pending = Some (name, []) }) (option name)
alone_walked names h waiting word name other is known =
    let rules = map built_rule names in
    let r = rule_of_long names name known in
    walked_is rules h waiting word (Some (name, None)) other is
    ∙ (λ i. after_step rules word (walk_at h waiting)
    (after_flag rules waiting word (long_met rules (r i) None h).0 (long_met rules (r i) None h).1).0
    (after_flag rules waiting word (long_met rules (r i) None h).0 (long_met rules (r i) None h).1).1)

-- a name that is no option's
pub unknown_fault : (command : Text) (names : List Text) (h : Held) (waiting : Waiting) (word name : Text) (v : Option Text)
    → bytes_eq word (codes "--") ≡ false → long_of word ≡ Some (name, v) → is_name_of names name ≡ false
    → turn_fault (built_shape command names) [] (walk_at h waiting) word ≡ kind.UnknownArgument ∷ []
unknown_fault command names h waiting word name v other is unknown =
    let rules = map built_rule names in
    let s = built_shape command names in
    let r = rule_by_long names name ∙ ap (λ b. cond b (Some (built_rule name)) None) unknown in
    turn_is s h waiting word (Some (name, v)) other is
    ∙ (λ i. or_else (long_fault rules false (r i) v h)
    (step_fault s 1 (after_flag rules waiting word (long_met rules (r i) v h).0 (long_met rules (r i) v h).1).0
    (after_flag rules waiting word (long_met rules (r i) v h).0 (long_met rules (r i) v h).1).1))

-- a word with one dash is no option; where it is not refused it is read as one without
pub data OneDash (names : List Text) (h : Held) (waiting : Waiting) (word : Text) (short : Option Text) : Type 0 where
  Refused : option_map_or (λ flags. flags_fault (map built_rule names) false (length flags) flags 0 h) short [] ≡ kind.UnknownArgument ∷ []
      → OneDash names h waiting word short
  Plain : option_map_or (λ flags. flags_fault (map built_rule names) false (length flags) flags 0 h) short [] ≡ []
      → short_or_plain (map built_rule names) waiting word short h ≡ plain_word (map built_rule names) waiting word h
      → OneDash names h waiting word short

-- with nothing of a bundle that is left
abbrev pub fresh : List Row → Option (Text × List Text) → Held
fresh rows pending = record { rows = rows; pending = pending; skip = 0 }

flags_by : (names : List Text) (rows : List Row) (p : Option (Text × List Text)) (waiting : Waiting) (word flags : Text) (n : ℕ) (c : Option ℕ)
    → length flags ≡ n → slice_get (chars flags) 0 ≡ c → OneDash names (fresh rows p) waiting word (Some flags)
unfolding flags_fault bundle_met
flags_by names rows p waiting word flags zero c e f =
    let rules = map built_rule names in
    let h = fresh rows p in
    Plain (ap (λ n. flags_fault rules false n flags 0 h) e)
    (ap (λ n. after_flag rules waiting word (bundle_met rules n flags 0 plain h).0 (bundle_met rules n flags 0 plain h).1) e)
flags_by names rows p waiting word flags (suc k) None e f =
    let rules = map built_rule names in
    let h = fresh rows p in
    Plain (ap (λ n. flags_fault rules false n flags 0 h) e ∙ ap (λ c. bundle_step_fault rules false c flags 0 h (flags_fault rules false k)) f)
    (ap (λ n. after_flag rules waiting word (bundle_met rules n flags 0 plain h).0 (bundle_met rules n flags 0 plain h).1) e
    ∙ ap (λ c. after_flag rules waiting word (bundle_step rules c flags 0 plain h (bundle_met rules k)).0
    (bundle_step rules c flags 0 plain h (bundle_met rules k)).1) f)
flags_by names rows p waiting word flags (suc k) (Some x) e f =
    let rules = map built_rule names in
    let h = fresh rows p in
    let rest = drop (length (encode_utf8 x)) flags in
    Refused (ap (λ n. flags_fault rules false n flags 0 h) e ∙ ap (λ c. bundle_step_fault rules false c flags 0 h (flags_fault rules false k)) f
    ∙ ap (λ rule. short_fault rules false rule rest h (flags_fault rules false k rest 0)) (no_rule_by_short names x))

one_dash : (names : List Text) (rows : List Row) (p : Option (Text × List Text)) (waiting : Waiting) (word : Text) (short : Option Text)
    → OneDash names (fresh rows p) waiting word short
one_dash names rows p waiting word None = Plain refl refl
one_dash names rows p waiting word (Some flags) = flags_by names rows p waiting word flags (length flags) (slice_get (chars flags) 0) refl refl

-- a word that is no option, where no value is waited for
pub stray_word : (command : Text) (names : List Text) (rows : List Row) (p : Option (Text × List Text)) (word : Text)
    → bytes_eq word (codes "--") ≡ false → long_of word ≡ None
    → turn_fault (built_shape command names) [] (walk_at (fresh rows p) idle) word ≡ kind.UnknownArgument ∷ []
stray_word command names rows p word other is =
    let rules = map built_rule names in
    let s = built_shape command names in
    let h = fresh rows p in
    turn_is s h idle word None other is
    ∙ elim (one_dash names rows p idle word (short_of word)) [
      | Refused e ↦ ap (λ kinds. or_else kinds (step_fault s 1 (short_or_plain rules idle word (short_of word) h).0
          (short_or_plain rules idle word (short_of word) h).1)) e
      | Plain e is ↦ (λ i. or_else (e i) (step_fault s 1 (is i).0 (is i).1))
          ∙ ap (λ rule. option_map_or (λ a. positional_fault rules false a h) rule (stray_fault s)) (no_rule_by_index names 1)
    ]

-- the value that an option waits for
pub data NextWord (command : Text) (names : List Text) (given : List Given) (name word : Text) : Type 0 where
  RefusedWord : turn_fault (built_shape command names) [] (walk_at (held_waiting given name) (option name)) word ≢ []
      → NextWord command names given name word
  Value : turn_fault (built_shape command names) [] (walk_at (held_waiting given name) (option name)) word ≡ []
      → walked (map built_rule names) [] (walk_at (held_waiting given name) (option name)) word
      ≡ walk_at (held_at given (Some (record { name = name; value = word; is_one_word = false }))) idle
      → NextWord command names given name word

cons_some : (k : ErrorKind) (kinds : Kinds) → k ∷ kinds ≢ []
cons_some k kinds e = cc e

pub plain_value : (names : List Text) (given : List Given) (name word : Text) → Contains names name
    → plain_word (map built_rule names) (option name) word (held_waiting given name)
    ≡ (held_at given (Some (record { name = name; value = word; is_one_word = false })), next idle)
plain_value names given name word known =
    let h = held_waiting given name in
    ap (λ rule. ((option_word rule name word h).0, next (option_word rule name word h).1)) (rule_of_id names name known)
    ∙ ap (λ same. (pushed name word h, next (cond (nat_lt (cond same 1 0) 1) (option name) idle))) ((bytes_eq-Decides name name).1 refl)

pub value_word : (command : Text) (names : List Text) (given : List Given) (name word : Text) → Contains names name
    → bytes_eq word (codes "--") ≡ false → long_of word ≡ None → NextWord command names given name word
value_word command names given name word known other is =
    let rules = map built_rule names in
    let s = built_shape command names in
    let h = held_waiting given name in
    let turn = turn_is s h (option name) word None other is in
    elim (one_dash names (map row_of given) (Some (name, [])) (option name) word (short_of word)) [
      | Refused e ↦ RefusedWord (λ none. cons_some kind.UnknownArgument [] (sym (turn
          ∙ ap (λ kinds. or_else kinds (step_fault s 1 (short_or_plain rules (option name) word (short_of word) h).0
          (short_or_plain rules (option name) word (short_of word) h).1)) e) ∙ none))
      | Plain e same ↦ Value
          (turn ∙ (λ i. or_else (e i) (step_fault s 1 ((same ∙ plain_value names given name word known) i).0
          ((same ∙ plain_value names given name word known) i).1)))
          (walked_is rules h (option name) word None other is
          ∙ ap (λ (m : Held × Step). after_step rules word (walk_at h (option name)) m.0 m.1) (same ∙ plain_value names given name word known))
    ]

-- an option where a value is waited for
pub option_for_value : (command : Text) (names : List Text) (given : List Given) (name word : Text) (p : Text × Option Text) → Contains names name
    → bytes_eq word (codes "--") ≡ false → long_of word ≡ Some p
    → turn_fault (built_shape command names) [] (walk_at (held_waiting given name) (option name)) word ≢ []
option_for_value command names given name word p known other is none =
    by_name (is_name_of names p.0) refl p.1 refl
  where
    by_name : (b : Bool) → is_name_of names p.0 ≡ b → (v : Option Text) → p.1 ≡ v → ⊥
    by_name false e v f = cons_some kind.UnknownArgument [] (sym (unknown_fault command names (held_waiting given name) (option name) word p.0 p.1 other is e) ∙ none)
    by_name true e None f = cons_some kind.InvalidValue [] (sym (no_value_fault names given name known)
        ∙ sym (alone_fault command names (held_waiting given name) (option name) word p.0 other (is ∙ ap (λ v. Some (p.0, v)) f) (name_known names p.0 e)) ∙ none)
    by_name true e (Some v) f = cons_some kind.InvalidValue [] (
        ap (λ kinds. or_else kinds (use_fault false (built_rule p.0) (v ∷ []) (settled (map built_rule names) (held_waiting given name)).rows))
        (sym (no_value_fault names given name known))
        ∙ sym (joined_fault command names (held_waiting given name) (option name) word p.0 v other (is ∙ ap (λ w. Some (p.0, w)) f) (name_known names p.0 e)) ∙ none)
