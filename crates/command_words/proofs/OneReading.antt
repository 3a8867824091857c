-- Words give options in one way, so what was read so far begins every reading.
use Rattle.std.proofs.Common.{◌≡◌, ◌≢◌, ℕ, zero, suc, List, [], ◌∷◌, ◌++◌, All, AllPairs, Contains, refl, sym, ap, ◌∙◌, subst, append_assoc, append-nil, arith}
use Rattle.std.specs.List.{flat_map}
use Rattle.std.proofs.lemmas.List.Elements.{All-tail}
use Rattle.agglo_model.proofs.Members.{contains_head, contains_tail, all_pairs_tail, all_pairs_head}
use Rattle.command_words.specs.Words.{Given, given_words}
use Rattle.command_words.specs.Slots.{option_names}
use Rattle.command_words.proofs.GivenWords.{same_option, form_of, no_words}
use Rattle.command_words.proofs.Slots.{AreKnownOnce}

-- the same names and values, one after another
pub SamePairs : List Given → List Given → Type 0
SamePairs [] [] = Unit {0}
SamePairs [] (p ∷ ps) = ⊥
SamePairs (o ∷ os) [] = ⊥
SamePairs (o ∷ os) (p ∷ ps) = (o.name ≡ p.name) × (o.value ≡ p.value) × SamePairs os ps

-- options that begin with others, by names and values
pub record BeginsWith (given options : List Given) (rest : List (List ℕ)) : Type 0 where
  pub front : List Given
  pub tail : List Given
  pub options_are : options ≡ front ++ tail
  pub same : SamePairs given front
  pub rest_is : rest ≡ flat_map given_words tail

pub begins_with : (given options : List Given) (rest words : List (List ℕ)) → words ≡ flat_map given_words given ++ rest
    → words ≡ flat_map given_words options → All (λ o. Contains option_names o.name) given
    → All (λ o. Contains option_names o.name) options → BeginsWith given options rest
unfolding SamePairs
begins_with [] options rest words e f known others = record {
  front = [];
  tail = options;
  options_are = refl;
  same = tt;
  rest_is = sym e ∙ f;
}
begins_with (o ∷ given) [] rest words e f known others =
    absurd (no_words o (flat_map given_words given ++ rest)
    (sym f ∙ e ∙ append_assoc (given_words o) (flat_map given_words given) rest))
begins_with (o ∷ given) (p ∷ options) rest words e f known others =
    let same = same_option o p (flat_map given_words given ++ rest) (flat_map given_words options) words
    (known 0 o (omega arith)) (others 0 p (omega arith))
    (form_of o (flat_map given_words given ++ rest) words (e ∙ append_assoc (given_words o) (flat_map given_words given) rest))
    (form_of p (flat_map given_words options) words f) in
    let later = begins_with given options rest (flat_map given_words options) (sym same.rests) refl
    (All-tail (λ q. Contains option_names q.name) o given known) (All-tail (λ q. Contains option_names q.name) p options others) in
    record {
      front = p ∷ later.front;
      tail = later.tail;
      options_are = ap (λ l. p ∷ l) later.options_are;
      same = (same.names, same.values, later.same);
      rest_is = later.rest_is;
    }

-- a name that is given is given in the same options
pub given_there : (given front : List Given) → SamePairs given front → (o : Given) → Contains given o
    → (p : Given) × Contains front p × (p.name ≡ o.name) × (p.value ≡ o.value)
unfolding SamePairs
given_there [] front same o (k, lt, is) = absurd (omega arith)
given_there (q ∷ given) [] same o there = absurd same
given_there (q ∷ given) (p ∷ front) same o (zero, lt, is) =
    (p, contains_head p front, sym same.0 ∙ ap (λ (g : Given). g.name) is, sym same.1 ∙ ap (λ (g : Given). g.value) is)
given_there (q ∷ given) (p ∷ front) same o (suc k, lt, is) =
    let later = given_there given front same.2 o (k, omega arith, is) in
    (later.0, contains_tail p later.0 front later.1, later.2, later.3)

-- and the other way round
pub same_swap : (given front : List Given) → SamePairs given front → SamePairs front given
unfolding SamePairs
same_swap [] [] same = tt
same_swap [] (p ∷ front) same = absurd same
same_swap (o ∷ given) [] same = absurd same
same_swap (o ∷ given) (p ∷ front) same = (sym same.0, sym same.1, same_swap given front same.2)

contains_middle : (front : List Given) (o : Given) (more : List Given) → Contains (front ++ o ∷ more) o
contains_middle [] o more = contains_head o more
contains_middle (q ∷ front) o more = contains_tail q o (front ++ o ∷ more) (contains_middle front o more)

-- of options that differ in names, those of the front differ from the first of the tail
pub apart_from_front : (front : List Given) (o : Given) (more : List Given) → AllPairs (λ p q. p.name ≢ q.name) (front ++ o ∷ more)
    → (p : Given) → Contains front p → p.name ≢ o.name
apart_from_front [] o more once p (k, lt, is) = absurd (omega arith)
apart_from_front (q ∷ front) o more once p (zero, lt, is) =
    subst (λ (g : Given). g.name ≢ o.name) is
    (all_pairs_head (λ p q. p.name ≢ q.name) q o (front ++ o ∷ more) once (contains_middle front o more))
apart_from_front (q ∷ front) o more once p (suc k, lt, is) =
    apart_from_front front o more (all_pairs_tail (λ p q. p.name ≢ q.name) q (front ++ o ∷ more) once) p (k, omega arith, is)

no_tail_left : (tail : List Given) → [] ≡ flat_map given_words tail → All (λ o. Contains option_names o.name) tail → tail ≡ []
no_tail_left [] e known = refl
no_tail_left (o ∷ tail) e known = absurd (no_words o (flat_map given_words tail) e)

all_of_tail : (front tail : List Given) → All (λ o. Contains option_names o.name) (front ++ tail) → All (λ o. Contains option_names o.name) tail
all_of_tail [] tail all = all
all_of_tail (q ∷ front) tail all = all_of_tail front tail (All-tail (λ o. Contains option_names o.name) q (front ++ tail) all)

-- two readings of the same words give the same names the same values
pub one_reading : (given options : List Given) (words : List (List ℕ)) → words ≡ flat_map given_words given
    → words ≡ flat_map given_words options → AreKnownOnce given → AreKnownOnce options → SamePairs given options
one_reading given options words e f known are =
    let b = begins_with given options [] words (e ∙ sym (append-nil (flat_map given_words given))) f known.known are.known in
    let none = no_tail_left b.tail b.rest_is (all_of_tail b.front b.tail (subst (All (λ o. Contains option_names o.name)) b.options_are are.known)) in
    subst (SamePairs given) (sym (append-nil b.front) ∙ ap (λ l. b.front ++ l) (sym none) ∙ sym b.options_are) b.same
