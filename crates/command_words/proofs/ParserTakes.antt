-- The parser of a command takes its options, in any order and form.
use Rattle.std.proofs.Common.{◌≡◌, ◌≢◌, ◌==◌, false, cond, List, [], ◌∷◌, ◌++◌, map, length, get_or, All, AllPairs, Contains, codes, Option, Some, None, IfSome, refl, sym, ap, ◌∙◌, subst, append_assoc, append-nil, arith, zero, suc}
use Rattle.std.specs.List.{flat_map}
use Rattle.std.specs.Option.{option_map_or}
use Rattle.std.specs.Str.{bytes_eq}
use Rattle.std.proofs.lemmas.Bool.Decides.{nat_tests}
use Rattle.std.proofs.lemmas.List.{get_or_default}
use Rattle.std.proofs.lemmas.List.Elements.{Contains-push, All-tail, All-contains}
use Rattle.agglo_model.proofs.Members.{all_pairs_tail}
use Rattle.clap.specs.Lexer.{long_of, short_of}
use Rattle.clap.specs.Walk.{Held, Step, Text, idle, option, after_step, settled, short_or_plain, used, walked}
use Rattle.clap.specs.Faults.{settle_fault, step_fault, turn_fault, use_fault, flags_fault, walk_fault}
use Rattle.clap.specs.Kinds.{or_else}
use Rattle.clap.specs.declared.error.kind.ErrorKind.TheVariants as kind
use Rattle.command_words.specs.Words.{Given, given_words}
use Rattle.command_words.specs.Slots.{IsMissing}
use Rattle.command_words.specs.Parser.{IsPlain, IsOptionName}
use Rattle.command_words.proofs.OneReading.{apart_from_front}
use Rattle.command_words.proofs.GivenWords.{dashed, OneWord, TwoWords, form_of}
use Rattle.command_words.proofs.LongWords.{long_alone, long_of_parts, no_equals}
use Rattle.command_words.proofs.ParserRules.{built_rule, built_shape, row_of, AreSome, row_missing, row_added, use_is}
use Rattle.command_words.proofs.ParserTurns.{walk_at, held_at, with_pending, held_waiting, fresh, settle, settle_is, turn_is, walked_is, joined_fault, joined_walked, alone_fault, alone_walked, plain_value}
use Rattle.command_words.proofs.ParserReads.{walk_of, Ready, Waits, end_of}

-- ---- parts of lists

all_front : {X : Type 0} (P : X → Type 0) (a b : List X) → All P (a ++ b) → All P a
all_front P [] b all k d lt = absurd (omega arith)
all_front P (x ∷ a) b all zero d lt = all 0 d (omega arith)
all_front P (x ∷ a) b all (suc k) d lt = all_front P a b (All-tail P x (a ++ b) all) k d (omega arith)

pairs_head : {X : Type 0} (R : X → X → Type 0) (x : X) (xs : List X) → AllPairs R (x ∷ xs) → All (R x) xs
pairs_head R x xs pairs k d lt = pairs 0 (suc k) d (omega arith) (omega arith)

pairs_front : {X : Type 0} (R : X → X → Type 0) (a b : List X) → AllPairs R (a ++ b) → AllPairs R a
pairs_front R [] b pairs i j d order lt = absurd (omega arith)
pairs_front R (x ∷ a) b pairs zero zero d order lt = absurd (omega arith)
pairs_front R (x ∷ a) b pairs zero (suc j) d order lt = all_front (R x) a b (pairs_head R x (a ++ b) pairs) j d (omega arith)
pairs_front R (x ∷ a) b pairs (suc i) zero d order lt = absurd (omega arith)
pairs_front R (x ∷ a) b pairs (suc i) (suc j) d order lt =
    pairs_front R a b (all_pairs_tail R x (a ++ b) pairs) i j d (omega arith) (omega arith)

some_front : (names : List Text) (a b : List Given) → AreSome names (a ++ b) → AreSome names a
some_front names a b some = record {
  known = all_front (λ o. Contains names o.name) a b some.known;
  once = pairs_front (λ o p. o.name ≢ p.name) a b some.once;
}

missing_before : (names : List Text) (given : List Given) (o : Given) (more : List Given) → AreSome names (given ++ o ∷ more) → IsMissing given o.name
missing_before names given o more some k d lt =
    apart_from_front given o more some.once (get_or given k d) (k, lt, get_or_default given k (get_or given k d) d lt)

-- ---- an option that is pending

known_pending : (names : List Text) (given : List Given) (pending : Option Given) → AreSome names (with_pending given pending)
    → IfSome pending (λ o. Contains names o.name)
known_pending names given None some = tt
known_pending names given (Some o) some = All-contains (λ p. Contains names p.name) (given ++ o ∷ []) o some.known (Contains-push given o)

without_pending : (names : List Text) (given : List Given) (pending : Option Given) → AreSome names (with_pending given pending) → AreSome names given
without_pending names given None some = some
without_pending names given (Some o) some = some_front names given (o ∷ []) some

pub settles : (names : List Text) (given : List Given) (pending : Option Given) → AreSome names (with_pending given pending)
    → settle_fault (map built_rule names) false (held_at given pending) ≡ []
settles names given None some = refl
settles names given (Some o) some =
    settle_is names given o (known_pending names given (Some o) some)
    ∙ ap (λ b. cond b (kind.ArgumentConflict ∷ []) []) (row_missing given o.name (missing_before names given o [] some))

pub settled_at : (names : List Text) (given : List Given) (pending : Option Given) → AreSome names (with_pending given pending)
    → settled (map built_rule names) (held_at given pending) ≡ held_at (with_pending given pending) None
settled_at names given pending some =
    (settle names given pending (without_pending names given pending some) (known_pending names given pending some) (settles names given pending some)).held

-- ---- words

no_dashes : (text : Text) → text ≢ [] → bytes_eq (dashed text) (codes "--") ≡ false
no_dashes [] filled = absurd (filled refl)
no_dashes (x ∷ text) filled = refl

filled_parts : (name value : Text) → name ++ 61 ∷ value ≢ []
filled_parts [] value e = cc e
filled_parts (x ∷ name) value e = cc e

record IsPlainWord (word : Text) : Type 0 where
  pub other : bytes_eq word (codes "--") ≡ false
  pub long : long_of word ≡ None
  pub short : short_of word ≡ None

plain_word_is : (word : Text) → IsPlain word → IsPlainWord word
plain_word_is [] plain = record { other = refl; long = refl; short = refl }
plain_word_is (x ∷ xs) plain =
    let no : (x == 45) ≡ false = grind (arith, nat_tests) in
    record { other = rw no refl; long = rw no refl; short = rw no refl }

-- the words of these options are taken, and all of them are held at the end
pub record TakesAll (command : Text) (names : List Text) (given : List Given) (pending : Option Given) (more : List Given) (words : List Text) : Type 0 where
  pub fault : walk_fault (built_shape command names) [] (walk_of given (Ready pending)) words ≡ []
  pub last : List Given
  pub left : Option Given
  pub all : with_pending last left ≡ with_pending given pending ++ more
  pub held : end_of names (walk_of given (Ready pending)) words ≡ held_at last left

abbrev TakesMore : Text → List Text → List Given → Type 0
TakesMore command names more = (given : List Given) (pending : Option Given) (words : List Text) → words ≡ flat_map given_words more
    → AreSome names (with_pending given pending ++ more) → TakesAll command names given pending more words

one_word : (command : Text) (names : List Text) (given : List Given) (pending : Option Given) (o : Given) (more : List Given) (words : List Text)
    → words ≡ flat_map given_words more → AreSome names (with_pending given pending ++ o ∷ more) → IsOptionName o.name → Contains names o.name
    → TakesMore command names more → TakesAll command names given pending (o ∷ more) (dashed (o.name ++ 61 ∷ o.value) ∷ words)
unfolding walk_fault
one_word command names given pending o more words rest some named known later =
    let rules = map built_rule names in
    let s = built_shape command names in
    let now = with_pending given pending in
    let word = dashed (o.name ++ 61 ∷ o.value) in
    let before = some_front names now (o ∷ more) some in
    let other = no_dashes (o.name ++ 61 ∷ o.value) (filled_parts o.name o.value) in
    let long = long_of_parts o.name o.value named.without in
    let none = row_missing now o.name (missing_before names now o more some) in
    let held = settled_at names given pending before in
    let first_use : use_fault false (built_rule o.name) (o.value ∷ []) (settled rules (held_at given pending)).rows ≡ [] =
    ap (λ (h : Held). use_fault false (built_rule o.name) (o.value ∷ []) h.rows) held ∙ use_is o.name o.value (map row_of now)
    ∙ ap (λ b. cond b (kind.ArgumentConflict ∷ []) []) none in
    let turn : turn_fault s [] (walk_of given (Ready pending)) word ≡ [] =
    joined_fault command names (held_at given pending) idle word o.name o.value other long known
    ∙ (λ i. or_else (settles names given pending before i) (first_use i)) in
    let walk : walked rules [] (walk_of given (Ready pending)) word ≡ walk_of (now ++ o ∷ []) (Ready None) =
    joined_walked names (held_at given pending) idle word o.name o.value other long known
    ∙ ap (λ (h : Held). walk_at (record { rows = used (built_rule o.name) (o.value ∷ []) h.rows; pending = None; skip = h.skip }) idle) held
    ∙ ap (λ rows. walk_at (fresh rows None) idle) (row_added o now none) in
    let same : (now ++ o ∷ []) ++ more ≡ now ++ o ∷ more = append_assoc now (o ∷ []) more in
    let r = later (now ++ o ∷ []) None words rest (subst (AreSome names) (sym same) some) in
    record {
      fault = (λ i. or_else (turn i) (walk_fault s [] (walk i) words)) ∙ r.fault;
      last = r.last;
      left = r.left;
      all = r.all ∙ same;
      held = ap (λ w. end_of names w words) walk ∙ r.held;
    }

two_words : (command : Text) (names : List Text) (given : List Given) (pending : Option Given) (o : Given) (more : List Given) (words : List Text)
    → words ≡ flat_map given_words more → AreSome names (with_pending given pending ++ o ∷ more) → IsOptionName o.name → Contains names o.name
    → IsPlain o.value → TakesMore command names more → TakesAll command names given pending (o ∷ more) (dashed o.name ∷ o.value ∷ words)
unfolding walk_fault
two_words command names given pending o more words rest some named known plain later =
    let rules = map built_rule names in
    let s = built_shape command names in
    let now = with_pending given pending in
    let before = some_front names now (o ∷ more) some in
    let other = no_dashes o.name named.filled in
    let long = long_alone o.name named.filled (no_equals o.name named.without) in
    let turn = alone_fault command names (held_at given pending) idle (dashed o.name) o.name other long known ∙ settles names given pending before in
    let walk : walked rules [] (walk_of given (Ready pending)) (dashed o.name) ≡ walk_of now (Waits o.name) =
    alone_walked names (held_at given pending) idle (dashed o.name) o.name other long known
    ∙ ap (λ (h : Held). walk_at (record h { pending = Some (o.name, []) }) (option o.name)) (settled_at names given pending before) in
    let v = plain_word_is o.value plain in
    let h = held_waiting now o.name in
    let met = ap (λ short. short_or_plain rules (option o.name) o.value short h) v.short ∙ plain_value names now o.name o.value known in
    let value_turn : turn_fault s [] (walk_of now (Waits o.name)) o.value ≡ [] =
    turn_is s h (option o.name) o.value None v.other v.long
    ∙ (λ i. or_else (option_map_or (λ flags. flags_fault rules false (length flags) flags 0 h) (v.short i) [])
    (step_fault s 1 (met i).0 (met i).1)) in
    let value_walk : walked rules [] (walk_of now (Waits o.name)) o.value ≡ walk_of now (Ready (Some o)) =
    walked_is rules h (option o.name) o.value None v.other v.long
    ∙ ap (λ (m : Held × Step). after_step rules o.value (walk_at h (option o.name)) m.0 m.1) met in
    let same : (now ++ o ∷ []) ++ more ≡ now ++ o ∷ more = append_assoc now (o ∷ []) more in
    let r = later now (Some o) words rest (subst (AreSome names) (sym same) some) in
    record {
      fault = (λ i. or_else (turn i) (walk_fault s [] (walk i) (o.value ∷ words)))
          ∙ (λ i. or_else (value_turn i) (walk_fault s [] (value_walk i) words)) ∙ r.fault;
      last = r.last;
      left = r.left;
      all = r.all ∙ same;
      held = ap (λ w. end_of names w (o.value ∷ words)) walk ∙ ap (λ w. end_of names w words) value_walk ∙ r.held;
    }

pub takes_all : (command : Text) (names : List Text) → All IsOptionName names → (more : List Given) → All (λ o. IsPlain o.value) more
    → TakesMore command names more
unfolding walk_fault
takes_all command names named [] plain given pending words e some = subst (TakesAll command names given pending []) (sym e) (record {
  fault = refl;
  last = given;
  left = pending;
  all = sym (append-nil (with_pending given pending));
  held = refl;
})
takes_all command names named (o ∷ more) plain given pending words e some =
    let known = All-contains (λ p. Contains names p.name) (with_pending given pending ++ o ∷ more) o some.known (middle (with_pending given pending)) in
    let name = All-contains IsOptionName names o.name named known in
    let later = takes_all command names named more (All-tail (λ p. IsPlain p.value) o more plain) in
    elim (form_of o (flat_map given_words more) words e) [
      | OneWord f ↦ subst (TakesAll command names given pending (o ∷ more)) (sym f)
          (one_word command names given pending o more (flat_map given_words more) refl some name known later)
      | TwoWords f ↦ subst (TakesAll command names given pending (o ∷ more)) (sym f)
          (two_words command names given pending o more (flat_map given_words more) refl some name known (plain 0 o (omega arith)) later)
    ]
  where
    middle : (front : List Given) → Contains (front ++ o ∷ more) o
    middle [] = (0, omega arith, refl)
    middle (p ∷ front) = let c = middle front in (suc c.0, (let lt = c.1 in omega arith), c.2)
