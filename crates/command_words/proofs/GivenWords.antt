-- Words are cut into options in one way.
use Rattle.std.proofs.Common.{◌≡◌, ◌≢◌, ℕ, zero, suc, Bool, true, false, cond, eqb, List, [], ◌∷◌, ◌++◌, Contains, codes, refl, sym, ap, ◌∙◌, subst, append_assoc, arith}
use Rattle.std.specs.List.{list_any}
use Rattle.std.proofs.lemmas.Bool.{eqb-false, or_parts}
use Rattle.command_words.specs.Words.{Given, given_words}
use Rattle.command_words.specs.Parts.{IsWithout}
use Rattle.command_words.specs.Slots.{option_names}
use Rattle.command_words.proofs.Cuts.{cut_once, no_parts, same_first, same_rest}

-- the dashes before a name
abbrev pub dashed : List ℕ → List ℕ
dashed text = 45 ∷ 45 ∷ text

-- ---- names of options have no `=`

pub name_cases : (P : List ℕ → Type 0) → P (codes "volume") → P (codes "labels") → P (codes "tree") → P (codes "low")
    → P (codes "merge") → P (codes "chunk") → P (codes "workers") → P (codes "start") → P (codes "dims") → (name : List ℕ) → Contains option_names name → P name
name_cases P a b c d e f g h j name (zero, lt, is) = subst P is a
name_cases P a b c d e f g h j name (suc zero, lt, is) = subst P is b
name_cases P a b c d e f g h j name (suc (suc zero), lt, is) = subst P is c
name_cases P a b c d e f g h j name (suc (suc (suc zero)), lt, is) = subst P is d
name_cases P a b c d e f g h j name (suc (suc (suc (suc zero))), lt, is) = subst P is e
name_cases P a b c d e f g h j name (suc (suc (suc (suc (suc zero)))), lt, is) = subst P is f
name_cases P a b c d e f g h j name (suc (suc (suc (suc (suc (suc zero))))), lt, is) = subst P is g
name_cases P a b c d e f g h j name (suc (suc (suc (suc (suc (suc (suc zero)))))), lt, is) = subst P is h
name_cases P a b c d e f g h j name (suc (suc (suc (suc (suc (suc (suc (suc zero))))))), lt, is) = subst P is j
name_cases P a b c d e f g h j name (suc (suc (suc (suc (suc (suc (suc (suc (suc k)))))))), lt, is) = absurd (omega arith)

-- a test of the same
pub without_by_test : (c : ℕ) (xs : List ℕ) → list_any (λ b. eqb b c) xs ≡ false → IsWithout c xs
without_by_test c [] test i below = absurd (omega arith)
without_by_test c (x ∷ xs) test zero below = eqb-false x c (or_parts (eqb x c) (list_any (λ b. eqb b c) xs) test).0
without_by_test c (x ∷ xs) test (suc i) below =
    without_by_test c xs (or_parts (eqb x c) (list_any (λ b. eqb b c) xs) test).1 i (omega arith)

pub known_without : (name : List ℕ) → Contains option_names name → IsWithout 61 name
known_without name known = name_cases (IsWithout 61)
    (without_by_test 61 (codes "volume") refl)
    (without_by_test 61 (codes "labels") refl)
    (without_by_test 61 (codes "tree") refl)
    (without_by_test 61 (codes "low") refl)
    (without_by_test 61 (codes "merge") refl)
    (without_by_test 61 (codes "chunk") refl)
    (without_by_test 61 (codes "workers") refl)
    (without_by_test 61 (codes "start") refl)
    (without_by_test 61 (codes "dims") refl)
    name known

pub known_filled : (name : List ℕ) → Contains option_names name → name ≢ []
known_filled = name_cases (λ name. name ≢ []) (λ e. cc e) (λ e. cc e) (λ e. cc e) (λ e. cc e) (λ e. cc e) (λ e. cc e) (λ e. cc e) (λ e. cc e) (λ e. cc e)

-- ---- one option

-- an option as one word, and as two
one_word : List ℕ → List ℕ → List ℕ
one_word name value = ((codes "--" ++ name) ++ codes "=") ++ value

one_word_is : (name value : List ℕ) → ((codes "--" ++ name) ++ codes "=") ++ value ≡ dashed (name ++ 61 ∷ value)
one_word_is name value = append_assoc (dashed name) (61 ∷ []) value

pub same_dashed : (a b : List ℕ) → dashed a ≡ dashed b → a ≡ b
same_dashed a b e = cc

-- what the words of an option are, by its form
pub data Form (o : Given) (rest : List (List ℕ)) (words : List (List ℕ)) : Type 0 where
  OneWord : words ≡ dashed (o.name ++ 61 ∷ o.value) ∷ rest → Form o rest words
  TwoWords : words ≡ dashed o.name ∷ o.value ∷ rest → Form o rest words

form_by : (b : Bool) (o : Given) (rest words : List (List ℕ)) → o.is_one_word ≡ b
    → words ≡ given_words o ++ rest → Form o rest words
form_by true o rest words is e = OneWord (e ∙ ap (λ b. cond b ((((codes "--" ++ o.name) ++ codes "=") ++ o.value) ∷ []) ((codes "--" ++ o.name) ∷ o.value ∷ []) ++ rest) is
    ∙ ap (λ w. w ∷ rest) (one_word_is o.name o.value))
form_by false o rest words is e = TwoWords (e ∙ ap (λ b. cond b ((((codes "--" ++ o.name) ++ codes "=") ++ o.value) ∷ []) ((codes "--" ++ o.name) ∷ o.value ∷ []) ++ rest) is)

pub form_of : (o : Given) (rest words : List (List ℕ)) → words ≡ given_words o ++ rest → Form o rest words
form_of o rest words e = form_by o.is_one_word o rest words refl e

-- what both forms come to: the same name, the same value, the same rest
pub record SameOption (o p : Given) (rest more : List (List ℕ)) : Type 0 where
  pub names : o.name ≡ p.name
  pub values : o.value ≡ p.value
  pub rests : rest ≡ more

pub same_option : (o p : Given) (rest more words : List (List ℕ)) → Contains option_names o.name → Contains option_names p.name
    → Form o rest words → Form p more words → SameOption o p rest more
same_option o p rest more words known_o known_p (OneWord e) (OneWord f) =
    let both = sym e ∙ f in
    let texts = same_dashed (o.name ++ 61 ∷ o.value) (p.name ++ 61 ∷ p.value) (same_first _ _ rest more both) in
    let parts = cut_once 61 o.name o.value p.name p.value texts (known_without o.name known_o) (known_without p.name known_p) in
    record { names = parts.0; values = parts.1; rests = same_rest _ _ rest more both }
same_option o p rest more words known_o known_p (OneWord e) (TwoWords f) =
    let both = sym f ∙ e in
    absurd (no_parts 61 p.name o.name o.value (known_without p.name known_p)
    (same_dashed p.name (o.name ++ 61 ∷ o.value) (same_first _ _ (p.value ∷ more) rest both)))
same_option o p rest more words known_o known_p (TwoWords e) (OneWord f) =
    let both = sym e ∙ f in
    absurd (no_parts 61 o.name p.name p.value (known_without o.name known_o)
    (same_dashed o.name (p.name ++ 61 ∷ p.value) (same_first _ _ (o.value ∷ rest) more both)))
same_option o p rest more words known_o known_p (TwoWords e) (TwoWords f) =
    let both = sym e ∙ f in
    let later = same_rest _ _ (o.value ∷ rest) (p.value ∷ more) both in
    record {
      names = same_dashed o.name p.name (same_first _ _ (o.value ∷ rest) (p.value ∷ more) both);
      values = same_first o.value p.value rest more later;
      rests = same_rest o.value p.value rest more later;
    }

-- no words are no option
pub no_words : (o : Given) (rest : List (List ℕ)) → ¬ ([] ≡ given_words o ++ rest)
no_words o rest e = elim (form_of o rest [] e) [ OneWord f ↦ cc f | TwoWords f ↦ cc f ]
