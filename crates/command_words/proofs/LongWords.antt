-- Words that name an option by two dashes, as the parser cuts them.
use Rattle.std.proofs.Common.{◌≡◌, ◌≢◌, ℕ, zero, suc, ◌+◌, ◌==◌, ◌||◌, Bool, true, false, cond, true≢false, List, [], ◌∷◌, ◌++◌, take, drop, Some, None, refl, sym, ap, ap₂, ◌∙◌, subst, arith}
use Rattle.std.specs.List.{before_first, after_first, position_or_len}
use Rattle.std.proofs.lemmas.Bool.{eqb-true, eqb-false}
use Rattle.clap.specs.Lexer.{has_byte, name_and_value, long_of}
use Rattle.command_words.specs.Parts.{IsWithout}
use Rattle.command_words.proofs.Cuts.{cut_once, no_parts}
use Rattle.command_words.proofs.GivenWords.{dashed}

-- a text with `=` is what stands before the first one, and what stands after it
pub record IsCutAtEquals (text : List ℕ) : Type 0 where
  pub name : List ℕ
  pub value : List ℕ
  pub parts : text ≡ name ++ 61 ∷ value
  pub without : IsWithout 61 name
  pub before : before_first (λ x. x == 61) text ≡ name
  pub after : after_first (λ x. x == 61) text ≡ value

without_more : (x : ℕ) (xs : List ℕ) → x ≢ 61 → IsWithout 61 xs → IsWithout 61 (x ∷ xs)
without_more x xs other without zero below = other
without_more x xs other without (suc i) below = without i (omega arith)

before_more : (x : ℕ) (xs : List ℕ) → (x == 61) ≡ false → before_first (λ y. y == 61) (x ∷ xs) ≡ x ∷ before_first (λ y. y == 61) xs
before_more x xs e =
    let k = position_or_len (λ y. y == 61) xs in
    let more : 1 + k ≡ suc k = omega arith in
    rw e (ap (λ n. take n (x ∷ xs)) more)

after_more : (x : ℕ) (xs : List ℕ) → (x == 61) ≡ false → after_first (λ y. y == 61) (x ∷ xs) ≡ after_first (λ y. y == 61) xs
after_more x xs e =
    let k = position_or_len (λ y. y == 61) xs in
    let more : (1 + k) + 1 ≡ suc (k + 1) = omega arith in
    rw e (ap (λ n. drop n (x ∷ xs)) more)

or_rest : (a b : Bool) → a ≡ false → (a || b) ≡ true → b ≡ true
or_rest true b e h = absurd (true≢false e)
or_rest false b e h = h

pub cut_at_equals : (text : List ℕ) → has_byte 61 text ≡ true → IsCutAtEquals text
cut_at_equals [] has = absurd (true≢false (sym has))
cut_at_equals (x ∷ xs) has = by_test (x == 61) refl (λ e. cut_at_equals xs (or_rest (x == 61) (has_byte 61 xs) e has))
  where
    by_test : (b : Bool) → (x == 61) ≡ b → ((x == 61) ≡ false → IsCutAtEquals xs) → IsCutAtEquals (x ∷ xs)
    by_test true e later = record {
      name = [];
      value = xs;
      parts = ap (λ y. y ∷ xs) (eqb-true x 61 e);
      without = λ i below. absurd (omega arith);
      before = rw e refl;
      after = rw e refl;
    }
    by_test false e later =
        let rest = later e in
        record {
          name = x ∷ rest.name;
          value = rest.value;
          parts = ap (λ t. x ∷ t) rest.parts;
          without = without_more x rest.name (eqb-false x 61 e) rest.without;
          before = before_more x xs e ∙ ap (λ t. x ∷ t) rest.before;
          after = after_more x xs e ∙ rest.after;
        }

pub before_all : (text : List ℕ) → has_byte 61 text ≡ false → before_first (λ x. x == 61) text ≡ text
before_all [] none = refl
before_all (x ∷ xs) none =
    let both = parts (x == 61) (has_byte 61 xs) none in
    before_more x xs both.0 ∙ ap (λ t. x ∷ t) (before_all xs both.1)
  where
    parts : (a b : Bool) → (a || b) ≡ false → (a ≡ false) × (b ≡ false)
    parts true b e = absurd (true≢false e)
    parts false b e = (refl, e)

-- a text without `=` has none by the test
pub no_equals : (text : List ℕ) → IsWithout 61 text → has_byte 61 text ≡ false
no_equals text without = by_test (has_byte 61 text) refl
  where
    by_test : (b : Bool) → has_byte 61 text ≡ b → b ≡ false
    by_test true e = let c = cut_at_equals text e in absurd (no_parts 61 text c.name c.value without c.parts)
    by_test false e = refl

some_equals : (name value : List ℕ) → has_byte 61 (name ++ 61 ∷ value) ≡ true
some_equals [] value = refl
some_equals (x ∷ name) value = later (x == 61) (some_equals name value)
  where
    later : (a : Bool) → has_byte 61 (name ++ 61 ∷ value) ≡ true → (a || has_byte 61 (name ++ 61 ∷ value)) ≡ true
    later true e = refl
    later false e = e

-- ---- the words

dashed_long : (text : List ℕ) → text ≢ [] → long_of (dashed text) ≡ Some (name_and_value text)
dashed_long [] some = absurd (some refl)
dashed_long (x ∷ text) some = refl

-- `--name`
pub long_alone : (text : List ℕ) → text ≢ [] → has_byte 61 text ≡ false → long_of (dashed text) ≡ Some (text, None)
long_alone text some none = dashed_long text some
    ∙ ap₂ (λ (b : List ℕ) (has : Bool). Some (b, cond has (Some (after_first (λ x. x == 61) text)) None)) (before_all text none) none

-- `--name=value`
pub long_joined : (text : List ℕ) → (has : has_byte 61 text ≡ true)
    → long_of (dashed text) ≡ Some ((cut_at_equals text has).name, Some (cut_at_equals text has).value)
long_joined text has =
    let c = cut_at_equals text has in
    dashed_long text (λ e. true≢false (sym has ∙ ap (has_byte 61) e))
    ∙ ap (λ (h : Bool). Some (before_first (λ x. x == 61) text, cond h (Some (after_first (λ x. x == 61) text)) None)) has
    ∙ ap₂ (λ (b a : List ℕ). Some (b, Some a)) c.before c.after

pub long_of_parts : (name value : List ℕ) → IsWithout 61 name → long_of (dashed (name ++ 61 ∷ value)) ≡ Some (name, Some value)
long_of_parts name value without =
    let has = some_equals name value in
    let c = cut_at_equals (name ++ 61 ∷ value) has in
    let same = cut_once 61 c.name c.value name value (sym c.parts) c.without without in
    long_joined (name ++ 61 ∷ value) has ∙ ap₂ (λ (n v : List ℕ). Some (n, Some v)) same.0 same.1

-- a word is `--` and a text, or no option of this form
pub data LongForm (word : List ℕ) : Type 0 where
  Long : (text : List ℕ) → word ≡ dashed text → text ≢ [] → LongForm word
  NoLong : long_of word ≡ None → LongForm word

pub long_form : (word : List ℕ) → LongForm word
long_form [] = NoLong refl
long_form (x ∷ xs) = first (x == 45) refl
  where
    second : (e : (x == 45) ≡ true) (ys : List ℕ) → xs ≡ ys → LongForm (x ∷ xs)
    second e [] is = NoLong (subst (λ l. long_of (x ∷ l) ≡ None) (sym is) (rw e refl))
    second e (y ∷ ys) is = subst (λ l. LongForm (x ∷ l)) (sym is) (by_second (y == 45) refl)
      where
        third : (f : (y == 45) ≡ true) (zs : List ℕ) → ys ≡ zs → LongForm (x ∷ y ∷ ys)
        third f [] ends = NoLong (subst (λ l. long_of (x ∷ y ∷ l) ≡ None) (sym ends) (rw (e, f) refl))
        third f (z ∷ zs) ends = Long ys (λ i. eqb-true x 45 e i ∷ eqb-true y 45 f i ∷ ys) (λ none. cc (sym ends ∙ none))

        by_second : (b : Bool) → (y == 45) ≡ b → LongForm (x ∷ y ∷ ys)
        by_second true f = third f ys refl
        by_second false f = NoLong (rw (e, f) refl)

    first : (b : Bool) → (x == 45) ≡ b → LongForm (x ∷ xs)
    first true e = second e xs refl
    first false e = NoLong (rw e refl)
