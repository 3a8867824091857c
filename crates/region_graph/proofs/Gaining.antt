-- Lists that gain elements one after another, in ascending order of a key: each key stands in the list once.
use Rattle.std.proofs.Common.{◌≡◌, ◌≢◌, inl, inr, ℕ, suc, ◌+◌, ◌-◌, ◌<◌, ◌≤◌, List, [], ◌∷◌, ◌++◌, length, get_or, set, take, refl, sym, ap, ◌∙◌, subst, arith}
use Rattle.std.specs.Prelude.{Contains, AllPairs, IsPermutation}
use Rattle.std.specs.List.Sorted.{IsNonDecreasingBy}
use Rattle.std.proofs.lemmas.Bool.{cases_lt}
use Rattle.std.proofs.lemmas.List.{get_or_at, get_or_append_left, get_or-take, get_or_default, length-take, set_split, take_more, take_all, drop_all, length_push}
use Rattle.std.proofs.lemmas.List.Elements.{Contains-get_or, Contains-append_left, Contains-push, Contains-push_cases}
use Rattle.std.proofs.lemmas.List.Quantifiers.{all_pairs_push}
use Rattle.agglo_model.proofs.Members.{contains_none}
use Rattle.region_graph.specs.Lists.{AreKeyed, TakesIn, Appends, Gains}

-- ---- a list by its last element

pub split_last : {X : Type 0} (xs : List X) (d : X) → 0 < length xs
    → xs ≡ take (length xs - 1) xs ++ get_or xs (length xs - 1) d ∷ []
split_last xs d some =
    let whole = take_all (length xs - 1 + 1) xs (omega arith) in
    sym whole ∙ take_more xs (length xs - 1) d (omega arith)

pub set_last : {X : Type 0} (xs : List X) (x : X) → 0 < length xs → set xs (length xs - 1) x ≡ take (length xs - 1) xs ++ x ∷ []
set_last xs x some =
    let none = drop_all (suc (length xs - 1)) xs (omega arith) in
    set_split xs (length xs - 1) x (omega arith) ∙ ap (λ ys. take (length xs - 1) xs ++ x ∷ ys) none

last_of : {X : Type 0} (xs others : List X) (last d : X) → xs ≡ others ++ last ∷ [] → get_or xs (length xs - 1) d ≡ last
last_of xs others last d is =
    let len = ap length is ∙ length_push others last in
    ap (λ ys. get_or ys (length xs - 1) d) is ∙ get_or_at others last [] d (length xs - 1) (omega (arith, len))

-- ---- how a list gains an element

unfoldable pub takes_in : {X : Type 0} (key : X → ℕ) (both : X → X → X) (x : X) (xs : List X) (last new : X) (n : ℕ)
    → length xs ≡ n → 0 < n → last ≡ get_or xs (n - 1) last → key last ≡ key x → new ≡ both last x
    → TakesIn key both x xs (set xs (n - 1) new)
takes_in key both x xs last new n len some at_last same new_is = record {
  others = take (length xs - 1) xs;
  last = last;
  was = split_last xs last (omega arith)
      ∙ ap (λ z. take (length xs - 1) xs ++ z ∷ []) (ap (λ k. get_or xs (k - 1) last) len ∙ sym at_last);
  same_key = same;
  is = ap (λ k. set xs (k - 1) new) (sym len) ∙ set_last xs new (omega arith)
      ∙ ap (λ z. take (length xs - 1) xs ++ z ∷ []) new_is;
}

pub appends : {X : Type 0} (key : X → ℕ) (both : X → X → X) (x : X) (xs ys : List X) (n : ℕ) → length xs ≡ n
    → ((last : X) → 0 < n → last ≡ get_or xs (n - 1) last → key last ≢ key x)
    → ys ≡ xs ++ x ∷ [] → Gains key both x xs ys
appends key both x xs ys n len other_key ys_is = inr (record {
  other_key = λ others last is.
      let longer = ap length is ∙ length_push others last in
      other_key last (omega (arith, longer, len)) (sym (ap (λ k. get_or xs (k - 1) last) (sym len) ∙ last_of xs others last last is));
  is = ys_is;
})

-- ---- lists in ascending order of the key

pub none_keyed : {X : Type 0} (key : X → ℕ) → AreKeyed key [] []
none_keyed key = record {
  ascend = λ i j d before below. absurd (omega arith);
  from = λ y inside. absurd (contains_none y inside);
}

front_pairs : {X : Type 0} (R : X → X → Type 0) (xs : List X) (x : X) → AllPairs R (xs ++ x ∷ []) → AllPairs R xs
front_pairs R xs x ordered i j d before below =
    let len = length_push xs x in
    subst (R (get_or xs i d)) (get_or_append_left xs (x ∷ []) d j below)
    (subst (λ y. R y (get_or (xs ++ x ∷ []) j d)) (get_or_append_left xs (x ∷ []) d i (omega arith))
    (ordered i j d before (omega (arith, len))))

-- the elements before the last come before it
before_last : {X : Type 0} (R : X → X → Type 0) (xs : List X) (x d : X) (k : ℕ) → AllPairs R (xs ++ x ∷ []) → k < length xs
    → R (get_or xs k d) x
before_last R xs x d k ordered below =
    let len = length_push xs x in
    subst (R (get_or xs k d)) (get_or_at xs x [] d (length xs) refl)
    (subst (λ y. R y (get_or (xs ++ x ∷ []) (length xs) d)) (get_or_append_left xs (x ∷ []) d k below)
    (ordered k (length xs) d below (omega (arith, len))))

-- the element at a place of a list to which x may be appended comes before x
comes_before : {X : Type 0} (key : X → ℕ) (x d : X) (xs ys : List X) (k : ℕ) → AllPairs (λ y z. key y < key z) xs
    → ((y : X) → Contains xs y → key y ≤ key x) → Appends key x xs ys → k < length xs → key (get_or xs k d) < key x
comes_before key x d xs ys k ordered low gained below =
    let last = get_or xs (length xs - 1) d in
    let split = split_last xs d (omega arith) in
    let other : key last ≢ key x = gained.other_key (take (length xs - 1) xs) last split in
    let most : key last ≤ key x = low last (Contains-get_or xs (length xs - 1) d (omega arith)) in
    elim (cases_lt k (length xs - 1)) [
      | inl earlier ↦
          let less : key (get_or xs k d) < key last = ordered k (length xs - 1) d earlier (omega arith) in
          omega arith
      | inr late ↦
          let same : k ≡ length xs - 1 = omega arith in
          subst (λ i. key (get_or xs i d) < key x) (sym same) (omega arith)
    ]

abbrev IsKeyOf : {X : Type 0} → (X → ℕ) → List X → X → Type 0
IsKeyOf {X} key done y = (x : X) × Contains done x × (key x ≡ key y)

key_before : {X : Type 0} (key : X → ℕ) (done : List X) (x y : X) → IsKeyOf key done y → IsKeyOf key (done ++ x ∷ []) y
key_before key done x y (z, inside, same) = (z, Contains-append_left done (x ∷ []) z inside, same)

key_here : {X : Type 0} (key : X → ℕ) (done : List X) (x y : X) → key x ≡ key y → IsKeyOf key (done ++ x ∷ []) y
key_here key done x y same = (x, Contains-push done x, same)

keys_taken : {X : Type 0} (key : X → ℕ) (both : X → X → X) (x : X) (done others : List X) (last new : X)
    → key last ≡ key x → key new ≡ key x → AreKeyed key done (others ++ last ∷ [])
    → AreKeyed key (done ++ x ∷ []) (others ++ new ∷ [])
keys_taken key both x done others last new same same_new keyed = record {
  ascend = all_pairs_push (λ y z. key y < key z) others new (front_pairs (λ y z. key y < key z) others last keyed.ascend)
      (λ k d below.
      let less : key (get_or others k d) < key last = before_last (λ y z. key y < key z) others last d k keyed.ascend below in
      omega arith);
  from = λ y inside. elim (Contains-push_cases others new y inside) [
    | inl earlier ↦ key_before key done x y (keyed.from y (Contains-append_left others (last ∷ []) y earlier))
    | inr here ↦ key_here key done x y (sym same_new ∙ ap key here)
  ];
}

keys_appended : {X : Type 0} (key : X → ℕ) (x : X) (done before after : List X) → AreKeyed key done before
    → ((y : X) → Contains before y → key y ≤ key x) → Appends key x before after → AreKeyed key (done ++ x ∷ []) (before ++ x ∷ [])
keys_appended key x done before after keyed low gained = record {
  ascend = all_pairs_push (λ y z. key y < key z) before x keyed.ascend
      (λ k d below. comes_before key x d before after k keyed.ascend low gained below);
  from = λ y inside. elim (Contains-push_cases before x y inside) [
    | inl earlier ↦ key_before key done x y (keyed.from y earlier)
    | inr here ↦ key_here key done x y (ap key here)
  ];
}

no_greater : {X : Type 0} (key : X → ℕ) (x y : X) (done : List X) → ((z : X) → Contains done z → key z ≤ key x)
    → IsKeyOf key done y → key y ≤ key x
no_greater key x y done low (z, inside, same) = let less = low z inside in omega arith

pub keyed_more : {X : Type 0} (key : X → ℕ) (both : X → X → X) (x : X) (done before after : List X)
    → ((last : X) → key (both last x) ≡ key last)
    → AreKeyed key done before → ((y : X) → Contains done y → key y ≤ key x)
    → Gains key both x before after → AreKeyed key (done ++ x ∷ []) after
keyed_more key both x done before after keeps keyed low (inl taken) =
    subst (AreKeyed key (done ++ x ∷ [])) (sym taken.is)
    (keys_taken key both x done taken.others taken.last (both taken.last x) taken.same_key
    (keeps taken.last ∙ taken.same_key) (subst (AreKeyed key done) taken.was keyed))
keyed_more key both x done before after keeps keyed low (inr appended) =
    subst (AreKeyed key (done ++ x ∷ [])) (sym appended.is)
    (keys_appended key x done before after keyed (λ y inside. no_greater key x y done low (keyed.from y inside)) appended)

-- what holds of each element of a list that gains one
pub each_more : {X : Type 0} (P : X → Type 0) (key : X → ℕ) (both : X → X → X) (x : X) (before after : List X)
    → P x → ((last : X) → P last → P (both last x)) → ((y : X) → Contains before y → P y) → Gains key both x before after
    → (y : X) → Contains after y → P y
each_more P key both x before after here keeps each (inl taken) y inside =
    elim (Contains-push_cases taken.others (both taken.last x) y (subst (λ ys. Contains ys y) taken.is inside)) [
      | inl earlier ↦ each y (subst (λ ys. Contains ys y) (sym taken.was) (Contains-append_left taken.others (taken.last ∷ []) y earlier))
      | inr same ↦ subst P same
          (keeps taken.last (each taken.last (subst (λ ys. Contains ys taken.last) (sym taken.was) (Contains-push taken.others taken.last))))
    ]
each_more P key both x before after here keeps each (inr appended) y inside =
    elim (Contains-push_cases before x y (subst (λ ys. Contains ys y) appended.is inside)) [
      | inl earlier ↦ each y earlier
      | inr same ↦ subst P same here
    ]

-- ---- going over a sorted list

-- what was passed is no greater than what comes next
pub low_before : {X : Type 0} (key : X → ℕ) (xs : List X) (i : ℕ) (d : X) → IsNonDecreasingBy key xs → i < length xs
    → (y : X) → Contains (take i xs) y → key y ≤ key (get_or xs i d)
low_before key xs i d sorted below y (k, before, same) =
    let len = length-take i xs in
    let at_k : get_or xs k y ≡ y = sym (get_or-take i xs k y (omega (arith, len))) ∙ same in
    let here : key (get_or xs k d) ≤ key (get_or xs i d) = sorted k i d (omega (arith, len)) below in
    let at_d : get_or xs k d ≡ y = get_or_default xs k d y (omega (arith, len)) ∙ at_k in
    subst (λ z. key z ≤ key (get_or xs i d)) at_d here

-- all of a sorted list was passed
pub all_moved : {X : Type 0} (xs sorted ys : List X) (k : ℕ) → IsPermutation xs sorted → ys ≡ sorted → length ys ≤ k
    → IsPermutation xs (take k ys)
all_moved xs sorted ys k moved same past = subst (IsPermutation xs) (sym (take_all k ys past ∙ same)) moved
