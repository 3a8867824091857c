-- Words that are bare stand in no settings.
use Rattle.std.proofs.Common.{◌≡◌, ◌≢◌, ℕ, zero, suc, List, [], ◌∷◌, ◌++◌, length, All, ◌==◌, ◌↔◌, Bool, false, true≢false, IsTrue, not, get_or, take, drop, ◌-◌, ◌≤◌, String, string_bytes, Contains, codes, refl, sym, ap, ◌∙◌, subst, arith, Result, Ok, Err}
use Rattle.std.specs.List.{flat_map}
use Rattle.std.specs.declared.alloc.Global.{Global}
use Rattle.std.proofs.lemmas.List.{take_all}
use Rattle.command_words.specs.Texts.{texts}
use Rattle.std.proofs.lemmas.Bool.Decides.{nat_tests}
use Rattle.std.proofs.lemmas.List.Elements.{All-tail, All-cons}
use Rattle.command_words.specs.Words.{Given, given_words, IsBare, Dashes, NoValue, IsName, Task, Spells, AreNoSettings, MayBeSettings, command_of}
use Rattle.command_words.specs.Parts.{IsWithout}
use Rattle.command_words.specs.Slots.{option_names}
use Rattle.command_words.proofs.Cuts.{cut_once, no_parts, same_rest}
use Rattle.command_words.proofs.GivenWords.{dashed, known_without, OneWord, TwoWords, form_of, known_filled, same_dashed}
use Rattle.command_words.proofs.PlainValues.{values_are_names}
use Rattle.command_words.specs.Jobs.{task_of, AnswersWords}
use Rattle.command_words.specs.declared.job.Job.{Job}
use Rattle.command_words.specs.declared.job.WordsFault.{WordsFault}
use Rattle.command_words.specs.declared.job.WordsFault.TheVariants.{NoSettings, Memory}
use Rattle.command_words.proofs.WholeWords.{command_known, gives_known}

no_value_is : (name : List ℕ) → (codes "--" ++ name) ++ codes "=" ≡ dashed (name ++ 61 ∷ [])
no_value_is name = refl

-- a word with `=`
pub bare_of_joined : (name value : List ℕ) → IsWithout 61 name → IsBare (dashed (name ++ 61 ∷ value)) → value ≡ []
bare_of_joined name value without (Dashes e) = absurd (filled name (same_dashed (name ++ 61 ∷ value) [] e))
  where
    filled : (n : List ℕ) → n ++ 61 ∷ value ≡ [] → ⊥
    filled [] f = cc f
    filled (x ∷ n) f = cc f
bare_of_joined name value without (NoValue other none e) =
    (cut_once 61 name value other [] (same_dashed (name ++ 61 ∷ value) (other ++ 61 ∷ []) (e ∙ no_value_is other)) without none).1

pub joined_bare : (name value : List ℕ) → IsWithout 61 name → value ≡ [] → IsBare (dashed (name ++ 61 ∷ value))
joined_bare name value without e = NoValue name without (ap (λ v. dashed (name ++ 61 ∷ v)) e)

-- a word without it
pub bare_of_alone : (text : List ℕ) → IsWithout 61 text → IsBare (dashed text) → text ≡ []
bare_of_alone text without (Dashes e) = same_dashed text [] e
bare_of_alone text without (NoValue other none e) =
    absurd (no_parts 61 text other [] without (same_dashed text (other ++ 61 ∷ []) (e ∙ no_value_is other)))

pub alone_bare : (text : List ℕ) → text ≡ [] → IsBare (dashed text)
alone_bare text e = Dashes (ap dashed e)

-- what the code tests
filled_test : (r : Bool) (text : List ℕ) → r ≡ not (length text == 0) → IsTrue r ↔ (text ≢ [])
filled_test r [] e = ((λ t. cc (sym t ∙ e)), (λ some. absurd (some refl)))
filled_test r (x ∷ text) e = ((λ t none. cc none), (λ some. e ∙ ap not (longer x text)))
  where
    longer : (y : ℕ) (ys : List ℕ) → (length (y ∷ ys) == 0) ≡ false
    longer y ys = grind (arith, nat_tests)

pub joined_test : (r : Bool) (word option name value : List ℕ) → word ≡ dashed option → option ≡ name ++ 61 ∷ value → IsWithout 61 name
    → r ≡ not (length value == 0) → IsTrue r ↔ (¬ (IsBare word))
joined_test r word option name value is parts without e =
    let at : word ≡ dashed (name ++ 61 ∷ value) = is ∙ ap dashed parts in
    let test = filled_test r value e in (
      (λ t bare. test.0 t (bare_of_joined name value without (subst IsBare at bare))),
      (λ plain. test.1 (λ none. plain (subst IsBare (sym at) (joined_bare name value without none)))),
    )

pub alone_test : (r : Bool) (word option : List ℕ) → word ≡ dashed option → IsWithout 61 option → r ≡ not (length option == 0)
    → IsTrue r ↔ (¬ (IsBare word))
alone_test r word option is without e =
    let test = filled_test r option e in (
      (λ t bare. test.0 t (bare_of_alone option without (subst IsBare is bare))),
      (λ plain. test.1 (λ none. plain (subst IsBare (sym is) (alone_bare option none)))),
    )

-- ---- words of settings

plain_value : (word : List ℕ) → IsName word → ¬ (IsBare word)
plain_value word name (Dashes e) = name.no_option (ap (λ w. get_or w 0 0) e)
plain_value word name (NoValue other none e) = name.no_option (ap (λ w. get_or w 0 0) e)

none_bare : (given : List Given) → All (λ o. Contains option_names o.name) given → All (λ o. IsName o.value) given
    → (words : List (List ℕ)) → words ≡ flat_map given_words given → All (λ word. ¬ (IsBare word)) words
none_bare [] known named words e = subst (All (λ word. ¬ (IsBare word))) (sym e) (λ k d lt. absurd (omega arith))
none_bare (o ∷ given) known named words e =
    let rest = flat_map given_words given in
    let later = none_bare given (All-tail (λ p. Contains option_names p.name) o given known) (All-tail (λ p. IsName p.value) o given named) rest refl in
    let without = known_without o.name (known 0 o (omega arith)) in
    let value : IsName o.value = named 0 o (omega arith) in
    elim (form_of o rest words e) [
      | OneWord f ↦ subst (All (λ word. ¬ (IsBare word))) (sym f) (All-cons (λ word. ¬ (IsBare word)) _ rest
          (λ bare. (let none = ap length (bare_of_joined o.name o.value without bare) in let some = value.some in omega (arith, none, some))) later)
      | TwoWords f ↦ subst (All (λ word. ¬ (IsBare word))) (sym f) (All-cons (λ word. ¬ (IsBare word)) _ (o.value ∷ rest)
          (λ bare. known_filled o.name (known 0 o (omega arith)) (bare_of_alone o.name without bare))
          (All-cons (λ word. ¬ (IsBare word)) o.value rest (plain_value o.value value) later))
    ]

-- no word of settings is bare
pub plain_words : (command : List ℕ) (words : List (List ℕ)) (task : Task) → Spells (command ∷ words) task → All (λ word. ¬ (IsBare word)) words
plain_words command words task s =
    none_bare s.options (gives_known s.options task s.gives).known (values_are_names s.options task s.gives) words
    (same_rest command (command_of task) words (flat_map given_words s.options) s.words_are)

-- settings may be settings, so words that may not be are refused
pub at_once : (r : Result Job WordsFault) (words : List (List ℕ)) → AnswersWords words r → ¬ (MayBeSettings words) → r ≡ Err NoSettings
at_once (Ok job) words s never = absurd (never (record {
  command = command_of (task_of job);
  others = flat_map given_words s.options;
  words_are = s.words_are;
  known = command_known (task_of job);
  none_bare = none_bare s.options (gives_known s.options (task_of job) s.gives).known (values_are_names s.options (task_of job) s.gives)
      (flat_map given_words s.options) refl;
}))
at_once (Err NoSettings) words s never = refl
at_once (Err Memory) words may never = absurd (never may)

-- ---- the words as the program has them

pub all_texts : (P : List ℕ → Type 0) (words : List (String Global)) → All (λ word. P (string_bytes word)) words → All P (texts words)
all_texts P [] all k d lt = absurd (omega arith)
all_texts P (w ∷ words) all zero d lt = all 0 w (omega arith)
all_texts P (w ∷ words) all (suc k) d lt = all_texts P words (λ j e below. all (suc j) e (omega arith)) k d (omega arith)

pub texts_all : (P : List ℕ → Type 0) (words : List (String Global)) → All P (texts words) → All (λ word. P (string_bytes word)) words
texts_all P [] all k d lt = absurd (omega arith)
texts_all P (w ∷ words) all zero d lt = all 0 (string_bytes w) (omega arith)
texts_all P (w ∷ words) all (suc k) d lt = texts_all P words (λ j e below. all (suc j) e (omega arith)) k d (omega arith)

-- the first of some words, and the others
pub first_word : (words : List (String Global)) (word : String Global) → 1 ≤ length words → word ≡ get_or words 0 word
    → texts words ≡ string_bytes word ∷ texts (take (length words - 1) (drop 1 words))
first_word [] word some is = absurd (omega arith)
first_word (w ∷ words) word some is =
    let len : length words ≤ length (w ∷ words) - 1 = omega arith in
    (λ i. string_bytes (sym is i) ∷ texts (sym (take_all (length (w ∷ words) - 1) words len) i))

-- a bare word is no setting's
pub bare_spells : (r : Bool) (command : List ℕ) (words : List (String Global)) → r ≡ false
    → IsTrue r ↔ All (λ word. ¬ (IsBare (string_bytes word))) words → AreNoSettings (command ∷ texts words)
bare_spells r command words bare test task s =
    true≢false (sym (test.1 (texts_all (λ word. ¬ (IsBare word)) words (plain_words command (texts words) task s))) ∙ bare)
