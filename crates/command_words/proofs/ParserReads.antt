-- Words that the parser of a command takes are its options, and what it keeps are their values.
use Rattle.std.proofs.Common.{◌≡◌, ◌≢◌, Bool, true, false, List, [], ◌∷◌, ◌++◌, map, All, Contains, codes, Option, Some, None, IfSome, refl, sym, ap, ◌∙◌, subst, append_assoc, append-nil, arith, suc}
use Rattle.std.specs.List.{flat_map, fold}
use Rattle.std.specs.Str.{bytes_eq}
use Rattle.clap.specs.Lexer.{has_byte, long_of}
use Rattle.clap.specs.Walk.{Held, Text, Walk, idle, option, settled, used, walked}
use Rattle.clap.specs.declared.error.kind.ErrorKind.{ErrorKind}
use Rattle.clap.specs.declared.error.kind.ErrorKind.TheVariants as kind
use Rattle.clap.specs.Faults.{settle_fault, turn_fault, use_fault, walk_fault}
use Rattle.clap.specs.Kinds.{Kinds, or_else}
use Rattle.command_words.specs.Words.{Given, given_words}
use Rattle.command_words.proofs.GivenWords.{dashed}
use Rattle.command_words.proofs.LongWords.{LongForm, Long, NoLong, long_form, long_alone, long_joined, cut_at_equals}
use Rattle.command_words.proofs.ParserRules.{built_rule, built_shape, is_name_of, row_of, AreSome, missing_row, row_added, use_is}
use Rattle.command_words.proofs.ParserTurns.{walk_at, held_at, with_pending, pending_of, held_waiting, fresh, settle, no_conflict, some_push, name_known, joined_fault, joined_walked, alone_fault, alone_walked, unknown_fault, stray_word, RefusedWord, Value, value_word, option_for_value, no_value_fault}

pub both_empty : (a b : Kinds) → or_else a b ≡ [] → (a ≡ []) × (b ≡ [])
both_empty [] b e = (refl, e)
both_empty (k ∷ a) b e = cc e

-- where the parser stands between two words: ready for an option, or for the value of one
pub data Stand : Type 0 where
  Ready : Option Given → Stand
  Waits : Text → Stand

abbrev pub walk_of : List Given → Stand → Walk
walk_of given (Ready pending) = walk_at (held_at given pending) idle
walk_of given (Waits name) = walk_at (held_waiting given name) (option name)

abbrev pub before : List Given → Stand → List Given
before given (Ready pending) = with_pending given pending
before given (Waits name) = given

-- the word of an option that waits for its value
abbrev pub begun : Stand → List Text
begun (Ready pending) = []
begun (Waits name) = dashed name ∷ []

abbrev pub IsKnown : List Text → Stand → Type 0
IsKnown names (Ready pending) = IfSome pending (λ o. Contains names o.name)
IsKnown names (Waits name) = Contains names name

-- the words after the options of `given` are options too, and all have their rows at the end
pub record Reads (names : List Text) (given : List Given) (words : List Text) (end : Held) : Type 0 where
  pub more : List Given
  pub words_are : words ≡ flat_map given_words more
  pub some : AreSome names (given ++ more)
  pub rows : (settled (map built_rule names) end).rows ≡ map row_of (given ++ more)

abbrev pub end_of : List Text → Walk → List Text → Held
end_of names w words = (fold (walked (map built_rule names) []) w words).held

-- what the first word is, where the parser is ready for an option
pub data FirstWord (names : List Text) (given : List Given) (word : Text) (after : Walk) : Type 0 where
  Joined : (o : Given) → word ∷ [] ≡ given_words o → AreSome names (given ++ o ∷ []) → after ≡ walk_of (given ++ o ∷ []) (Ready None)
      → FirstWord names given word after
  Alone : (name : Text) → word ≡ dashed name → Contains names name → AreSome names given → after ≡ walk_of given (Waits name)
      → FirstWord names given word after

joined_word : (command : Text) (names : List Text) (given : List Given) (pending : Option Given) (word text : Text) → AreSome names given
    → IfSome pending (λ o. Contains names o.name) → bytes_eq word (codes "--") ≡ false → word ≡ dashed text → (has : has_byte 61 text ≡ true)
    → Contains names (cut_at_equals text has).name
    → turn_fault (built_shape command names) [] (walk_of given (Ready pending)) word ≡ []
    → FirstWord names (with_pending given pending) word (walked (map built_rule names) [] (walk_of given (Ready pending)) word)
joined_word command names given pending word text some known other is has named fault =
    let c = cut_at_equals text has in
    let h = held_at given pending in
    let rules = map built_rule names in
    let o : Given = record { name = c.name; value = c.value; is_one_word = true } in
    let long : long_of word ≡ Some (c.name, Some c.value) = ap long_of is ∙ long_joined text has in
    let faults = both_empty (settle_fault rules false h) (use_fault false (built_rule c.name) (c.value ∷ []) (settled rules h).rows)
    (sym (joined_fault command names h idle word c.name c.value other long named) ∙ fault) in
    let settles = settle names given pending some known faults.0 in
    let none = no_conflict _ (sym (use_is c.name c.value (map row_of (with_pending given pending)))
    ∙ ap (λ (s : Held). use_fault false (built_rule c.name) (c.value ∷ []) s.rows) (sym settles.held) ∙ faults.1) in
    Joined o
    (λ i. (is ∙ ap dashed c.parts ∙ sym (append_assoc (dashed c.name) (61 ∷ []) c.value)) i ∷ [])
    (some_push names (with_pending given pending) o settles.some named (missing_row (with_pending given pending) c.name none))
    (joined_walked names h idle word c.name c.value other long named
    ∙ ap (λ (s : Held). walk_at (record { rows = used (built_rule c.name) (c.value ∷ []) s.rows; pending = None; skip = s.skip }) idle) settles.held
    ∙ ap (λ rows. walk_at (fresh rows None) idle) (row_added o (with_pending given pending) none))

alone_word : (command : Text) (names : List Text) (given : List Given) (pending : Option Given) (word text : Text) → AreSome names given
    → IfSome pending (λ o. Contains names o.name) → bytes_eq word (codes "--") ≡ false → word ≡ dashed text → text ≢ [] → has_byte 61 text ≡ false
    → Contains names text → turn_fault (built_shape command names) [] (walk_of given (Ready pending)) word ≡ []
    → FirstWord names (with_pending given pending) word (walked (map built_rule names) [] (walk_of given (Ready pending)) word)
alone_word command names given pending word text some known other is filled none named fault =
    let h = held_at given pending in
    let long : long_of word ≡ Some (text, None) = ap long_of is ∙ long_alone text filled none in
    let settles = settle names given pending some known (sym (alone_fault command names h idle word text other long named) ∙ fault) in
    Alone text is named settles.some
    (alone_walked names h idle word text other long named
    ∙ ap (λ (s : Held). walk_at (record s { pending = Some (text, []) }) (option text)) settles.held)

cons_not : (k : ErrorKind) (kinds faults : Kinds) → faults ≡ k ∷ kinds → faults ≡ [] → ⊥
cons_not k kinds faults e f = cc (sym e ∙ f)

first_word : (command : Text) (names : List Text) (given : List Given) (pending : Option Given) (word : Text) → AreSome names given
    → IfSome pending (λ o. Contains names o.name) → bytes_eq word (codes "--") ≡ false
    → turn_fault (built_shape command names) [] (walk_of given (Ready pending)) word ≡ []
    → FirstWord names (with_pending given pending) word (walked (map built_rule names) [] (walk_of given (Ready pending)) word)
first_word command names given pending word some known other fault = by_form (long_form word)
  where
    by_name : (text : Text) → word ≡ dashed text → text ≢ [] → (has : Bool) → has_byte 61 text ≡ has
        → FirstWord names (with_pending given pending) word (walked (map built_rule names) [] (walk_of given (Ready pending)) word)
    by_name text is filled true has = by_known (is_name_of names (cut_at_equals text has).name) refl
      where
        by_known : (b : Bool) → is_name_of names (cut_at_equals text has).name ≡ b
            → FirstWord names (with_pending given pending) word (walked (map built_rule names) [] (walk_of given (Ready pending)) word)
        by_known true e = joined_word command names given pending word text some known other is has (name_known names (cut_at_equals text has).name e) fault
        by_known false e = absurd (cons_not kind.UnknownArgument [] _ (unknown_fault command names (held_at given pending) idle word (cut_at_equals text has).name
            (Some (cut_at_equals text has).value) other (ap long_of is ∙ long_joined text has) e) fault)
    by_name text is filled false none = by_known (is_name_of names text) refl
      where
        by_known : (b : Bool) → is_name_of names text ≡ b
            → FirstWord names (with_pending given pending) word (walked (map built_rule names) [] (walk_of given (Ready pending)) word)
        by_known true e = alone_word command names given pending word text some known other is filled none (name_known names text e) fault
        by_known false e = absurd (cons_not kind.UnknownArgument [] _ (unknown_fault command names (held_at given pending) idle word text
            None other (ap long_of is ∙ long_alone text filled none) e) fault)

    by_form : LongForm word → FirstWord names (with_pending given pending) word (walked (map built_rule names) [] (walk_of given (Ready pending)) word)
    by_form (Long text is filled) = by_name text is filled (has_byte 61 text) refl
    by_form (NoLong none) = absurd (cons_not kind.UnknownArgument [] _ (stray_word command names (map row_of given) (pending_of pending) word other none) fault)

-- the value that is waited for
next_word : (command : Text) (names : List Text) (given : List Given) (name word : Text) → Contains names name → bytes_eq word (codes "--") ≡ false
    → turn_fault (built_shape command names) [] (walk_of given (Waits name)) word ≡ []
    → walked (map built_rule names) [] (walk_of given (Waits name)) word
    ≡ walk_of given (Ready (Some (record { name = name; value = word; is_one_word = false })))
next_word command names given name word known other fault = by_form (long_form word)
  where
    by_long : (l : Option (Text × Option Text)) → long_of word ≡ l → walked (map built_rule names) [] (walk_of given (Waits name)) word
        ≡ walk_of given (Ready (Some (record { name = name; value = word; is_one_word = false })))
    by_long None e = elim (value_word command names given name word known other e) [
      | RefusedWord refused ↦ absurd (refused fault)
      | Value none is ↦ is
    ]
    by_long (Some p) e = absurd (option_for_value command names given name word p known other e fault)

    by_form : LongForm word → walked (map built_rule names) [] (walk_of given (Waits name)) word
        ≡ walk_of given (Ready (Some (record { name = name; value = word; is_one_word = false })))
    by_form form = by_long (long_of word) refl

-- ---- all words

abbrev pub NoDashes : List Text → Type 0
NoDashes words = All (λ word. bytes_eq word (codes "--") ≡ false) words

abbrev pub Takes : Text → List Text → List Given → Stand → List Text → Type 0
Takes command names given stand words = AreSome names given → IsKnown names stand → NoDashes words
    → walk_fault (built_shape command names) [] (walk_of given stand) words ≡ []
    → settle_fault (map built_rule names) false (end_of names (walk_of given stand) words) ≡ []
    → Reads names (before given stand) (begun stand ++ words) (end_of names (walk_of given stand) words)

-- one option more
reads_more : (names : List Text) (given : List Given) (o : Given) (words rest : List Text) (end : Held) → words ≡ given_words o ++ rest
    → Reads names (given ++ o ∷ []) rest end → Reads names given words end
reads_more names given o words rest end e r =
    let same : (given ++ o ∷ []) ++ r.more ≡ given ++ o ∷ r.more = append_assoc given (o ∷ []) r.more in
    record {
      more = o ∷ r.more;
      words_are = e ∙ ap (λ l. given_words o ++ l) r.words_are;
      some = subst (AreSome names) same r.some;
      rows = r.rows ∙ ap (map row_of) same;
    }

first_taken : (command : Text) (names : List Text) (given : List Given) (pending : Option Given) (word : Text) (rest : List Text)
    → ((later : List Given) (stand : Stand) → Takes command names later stand rest) → Takes command names given (Ready pending) (word ∷ rest)
unfolding walk_fault
first_taken command names given pending word rest later some known dashes fault ends =
    let rules = map built_rule names in
    let s = built_shape command names in
    let w = walk_of given (Ready pending) in
    let faults = both_empty (turn_fault s [] w word) (walk_fault s [] (walked rules [] w word) rest) fault in
    by_word (walked rules [] w word) (first_word command names given pending word some known (dashes 0 word (omega arith)) faults.0) faults.1 ends
  where
    others : NoDashes rest
    others k d lt = dashes (suc k) d (omega arith)

    by_word : (after : Walk) → FirstWord names (with_pending given pending) word after → walk_fault (built_shape command names) [] after rest ≡ []
        → settle_fault (map built_rule names) false (end_of names after rest) ≡ []
        → Reads names (with_pending given pending) (word ∷ rest) (end_of names after rest)
    by_word after (Joined o words more is) walks settles =
        let now = with_pending given pending ++ o ∷ [] in
        reads_more names (with_pending given pending) o (word ∷ rest) rest (end_of names after rest) (ap (λ l. l ++ rest) words)
        (subst (λ w. Reads names now rest (end_of names w rest)) (sym is)
        (later now (Ready None) more tt others
        (subst (λ w. walk_fault (built_shape command names) [] w rest ≡ []) is walks)
        (subst (λ w. settle_fault (map built_rule names) false (end_of names w rest) ≡ []) is settles)))
    by_word after (Alone name words named more is) walks settles =
        let now = with_pending given pending in
        subst (λ w. Reads names now (word ∷ rest) (end_of names w rest)) (sym is)
        (subst (λ t. Reads names now (t ∷ rest) (end_of names (walk_of now (Waits name)) rest)) (sym words)
        (later now (Waits name) more named others
        (subst (λ w. walk_fault (built_shape command names) [] w rest ≡ []) is walks)
        (subst (λ w. settle_fault (map built_rule names) false (end_of names w rest) ≡ []) is settles)))

value_taken : (command : Text) (names : List Text) (given : List Given) (name word : Text) (rest : List Text)
    → ((later : List Given) (stand : Stand) → Takes command names later stand rest) → Takes command names given (Waits name) (word ∷ rest)
unfolding walk_fault
value_taken command names given name word rest later some known dashes fault ends =
    let rules = map built_rule names in
    let s = built_shape command names in
    let w = walk_of given (Waits name) in
    let o : Given = record { name = name; value = word; is_one_word = false } in
    let faults = both_empty (turn_fault s [] w word) (walk_fault s [] (walked rules [] w word) rest) fault in
    let is = next_word command names given name word known (dashes 0 word (omega arith)) faults.0 in
    reads_more names given o (dashed name ∷ word ∷ rest) rest (end_of names (walked rules [] w word) rest) refl
    (subst (λ v. Reads names (given ++ o ∷ []) rest (end_of names v rest)) (sym is)
    (later given (Ready (Some o)) some known (λ k d lt. dashes (suc k) d (omega arith))
    (subst (λ v. walk_fault s [] v rest ≡ []) is faults.1)
    (subst (λ v. settle_fault rules false (end_of names v rest) ≡ []) is ends)))

pub takes_options : (command : Text) (names : List Text) (words : List Text) (given : List Given) (stand : Stand) → Takes command names given stand words
takes_options command names [] given (Ready pending) some known dashes fault ends =
    let settles = settle names given pending some known ends in
    record {
      more = [];
      words_are = refl;
      some = subst (AreSome names) (sym (append-nil (with_pending given pending))) settles.some;
      rows = ap (λ (s : Held). s.rows) settles.held ∙ ap (map row_of) (sym (append-nil (with_pending given pending)));
    }
takes_options command names [] given (Waits name) some known dashes fault ends =
    absurd (cons_not kind.InvalidValue [] _ (no_value_fault names given name known) ends)
takes_options command names (word ∷ rest) given (Ready pending) some known dashes fault ends =
    first_taken command names given pending word rest (takes_options command names rest) some known dashes fault ends
takes_options command names (word ∷ rest) given (Waits name) some known dashes fault ends =
    value_taken command names given name word rest (takes_options command names rest) some known dashes fault ends
