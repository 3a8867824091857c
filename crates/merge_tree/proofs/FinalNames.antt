-- The final names of labels under a list of merges.
use Rattle.std.proofs.Common.{◌≡◌, ◌≢◌, ℕ, ◌+◌, ◌<◌, ◌≤◌, ◌^◌, List, [], ◌∷◌, ◌++◌, length, get_or, set, take, drop, map, refl, sym, ap, ◌∙◌, subst, arith, add-one, append_assoc, suc, ◌⊎◌, inl, inr}
use Rattle.std.specs.Prelude.{All}
use Rattle.std.specs.List.{range_with_len}
use Rattle.std.proofs.Math.Seq.{take-suc, drop-cons, set-append_seam, get_or-append_seam}
use Rattle.std.proofs.lemmas.Bool.{cases_lt}
use Rattle.std.proofs.lemmas.Bool.Decides.{nat_tests}
use Rattle.std.proofs.lemmas.List.{get_or-map, map-id, map-append, length-map, length-take-le, length-set, get_or-set_same, get_or-set_other}
use Rattle.std.proofs.lemmas.List.Elements.{All-set, All-get_or, All-more}
use Rattle.std.proofs.lemmas.List.FromFn.{get_or-range_with_len, length-range_with_len}
use Rattle.std.proofs.lemmas.Simd.{map-map}
use Rattle.std.proofs.lemmas.Grind.{get_or_default_zero}
use mathlib.Core.Path.{fun_ext}
use Rattle.agglo_model.specs.Axes.{Axes, IsWithinLimits}
use Rattle.agglo_model.specs.LabelMap.{AreLabels}
use Rattle.agglo_model.specs.PairOrder.{Threshold}
use Rattle.agglo_model.specs.Greedy.{Merge, after_merges}
use Rattle.agglo_model.specs.MergeTree.{AreLawful}
use Rattle.merge_tree.specs.Renaming.{HasSmallNames, NamesBelow, HoldsFinalNames, renamed_by, final_name, final_label}

-- the labels after the merges, label by label
after_merges_is : (labels : List ℕ) (merges : List Merge) → after_merges labels merges ≡ map (final_name merges) labels
after_merges_is labels [] = sym (map-id labels)
after_merges_is labels (m ∷ merges) =
    after_merges_is (map (λ x. renamed_by x m) labels) merges ∙ map-map (final_name merges) (λ x. renamed_by x m) labels

-- labels that were given their final names
pub labels_renamed : (labels names : List ℕ) (merges : List Merge) → HoldsFinalNames merges names
    → map (final_label names) labels ≡ after_merges labels merges
labels_renamed labels names merges h =
    ap (λ (f : ℕ → ℕ). map f labels) (fun_ext h.finals) ∙ sym (after_merges_is labels merges)

-- a list of all names, each for itself
pub own_names : (n : ℕ) → n ≤ 2 ^ 28 → HoldsFinalNames [] (range_with_len 0 (n + 1))
own_names n most = record {
  finals = λ x.
      let long : length (range_with_len 0 (n + 1)) ≡ n + 1 = length-range_with_len 0 (n + 1) in
      let own : x < n + 1 → get_or (range_with_len 0 (n + 1)) x 0 ≡ 0 + x = λ below. get_or-range_with_len 0 (n + 1) x 0 below in
      grind (arith, nat_tests, long, own);
  fit = λ k d below.
      let long : length (range_with_len 0 (n + 1)) ≡ n + 1 = length-range_with_len 0 (n + 1) in
      let own : get_or (range_with_len 0 (n + 1)) k d ≡ 0 + k = get_or-range_with_len 0 (n + 1) k d (omega arith) in
      omega arith;
}

-- what a list of names says of a label that is in it, and of one that is not
label_inside : (names : List ℕ) (x : ℕ) → x < length names → final_label names x ≡ get_or names x 0
label_inside names x below = grind (arith, nat_tests)

label_outside : (names : List ℕ) (x : ℕ) → length names ≤ x → final_label names x ≡ x
label_outside names x above = grind (arith, nat_tests)

-- what a merge makes of its absorbed name, and of another
renamed_absorbed : (x : ℕ) (m : Merge) → x ≡ m.absorbed → renamed_by x m ≡ m.survivor
renamed_absorbed x m same = grind (arith, nat_tests)

renamed_other : (x : ℕ) (m : Merge) → x ≢ m.absorbed → renamed_by x m ≡ x
renamed_other x m other = grind (arith, nat_tests)

-- a list with one name changed, at another name
label_set_other : (names : List ℕ) (i x v : ℕ) → x ≢ i → final_label (set names i v) x ≡ final_label names x
label_set_other names i x v other =
    let size : length (set names i v) ≡ length names = length-set names i v in
    let here : get_or (set names i v) x 0 ≡ get_or names x 0 = get_or-set_other names i x v 0 other in
    elim (lt_or_ge x (length names)) [
      | inl below ↦ label_inside (set names i v) x (omega arith) ∙ (here ∙ sym (label_inside names x below))
      | inr above ↦ label_outside (set names i v) x (omega arith) ∙ sym (label_outside names x above)
    ]
  where
    lt_or_ge : (x n : ℕ) → (x < n) ⊎ (n ≤ x)
    lt_or_ge x n = grind arith

-- the names before one more merge
one_more_final : (m : Merge) (rest : List Merge) (names : List ℕ) (x : ℕ) → NamesBelow (length names) m → HoldsFinalNames rest names
    → (x ≡ m.absorbed) ⊎ (x ≢ m.absorbed)
    → final_label (set names m.absorbed (get_or names m.survivor 0)) x ≡ final_name (m ∷ rest) x
one_more_final m rest names x below h (inl same) =
    let size : length (set names m.absorbed (get_or names m.survivor 0)) ≡ length names = length-set names m.absorbed (get_or names m.survivor 0) in
    ap (final_label (set names m.absorbed (get_or names m.survivor 0))) same
    ∙ (label_inside (set names m.absorbed (get_or names m.survivor 0)) m.absorbed (omega (arith, below.absorbed))
    ∙ (get_or-set_same names m.absorbed (get_or names m.survivor 0) 0 below.absorbed
    ∙ (sym (label_inside names m.survivor below.survivor)
    ∙ (h.finals m.survivor ∙ ap (final_name rest) (sym (renamed_absorbed x m same))))))
one_more_final m rest names x below h (inr other) =
    label_set_other names m.absorbed x (get_or names m.survivor 0) other
    ∙ (h.finals x ∙ ap (final_name rest) (sym (renamed_other x m other)))

pub one_more : (m : Merge) (rest : List Merge) (names : List ℕ) → NamesBelow (length names) m → HoldsFinalNames rest names
    → HoldsFinalNames (m ∷ rest) (set names m.absorbed (get_or names m.survivor 0))
one_more m rest names below h = record {
  finals = λ x. one_more_final m rest names x below h (same_or_other x m.absorbed);
  fit = All-set (λ name. name ≤ 2 ^ 28) names m.absorbed (get_or names m.survivor 0)
      (All-get_or (λ name. name ≤ 2 ^ 28) names m.survivor 0 below.survivor h.fit) h.fit;
}
  where
    same_or_other : (x y : ℕ) → (x ≡ y) ⊎ (x ≢ y)
    same_or_other x y = grind arith

-- the names before the merge at i
pub one_sooner : (merges : List Merge) (names : List ℕ) (i k : ℕ) (d : Merge) → i ≡ k + 1 → k < length merges
    → NamesBelow (length names) (get_or merges k d) → HoldsFinalNames (drop i merges) names
    → HoldsFinalNames (drop k merges) (set names (get_or merges k d).absorbed (get_or names (get_or merges k d).survivor 0))
one_sooner merges names i k d e there below h =
    let split : drop k merges ≡ get_or merges k d ∷ drop (suc k) merges = drop-cons merges k d there in
    let next : i ≡ suc k = omega arith in
    subst (λ (l : List Merge). HoldsFinalNames l (set names (get_or merges k d).absorbed (get_or names (get_or merges k d).survivor 0))) (sym split)
    (one_more (get_or merges k d) (drop (suc k) merges) names below (subst (λ n. HoldsFinalNames (drop n merges) names) next h))

-- the same for a write of the value v at the name a, where these are what the code reads of the merge
pub swept : (merges : List Merge) (names : List ℕ) (i k : ℕ) (m : Merge) (name a v : ℕ) → i ≡ k + 1 → k < length merges
    → m ≡ get_or merges k m → name ≡ m.survivor → a ≡ m.absorbed → v ≡ get_or names name v → NamesBelow (length names) m
    → HoldsFinalNames (drop i merges) names → HoldsFinalNames (drop k merges) (set names a v)
swept merges names i k m name a v e there at survivor absorbed value below h =
    let there' : m.survivor < length names = below.survivor in
    let read : get_or names (get_or merges k m).survivor 0 ≡ v =
    ap (λ x. get_or names x 0) (sym (survivor ∙ ap (λ x. x.survivor) at))
    ∙ (sym (get_or_default_zero names name v (omega arith)) ∙ sym value) in
    let place : (get_or merges k m).absorbed ≡ a = sym (absorbed ∙ ap (λ x. x.absorbed) at) in
    subst (λ x. HoldsFinalNames (drop k merges) (set names a x)) read
    (subst (λ x. HoldsFinalNames (drop k merges) (set names x (get_or names (get_or merges k m).survivor 0))) place
    (one_sooner merges names i k m e there (subst (NamesBelow (length names)) at below) h))

-- the labels so far were renamed
pub none_renamed : (f : ℕ → ℕ) (labels : List ℕ) → labels ≡ map f (take 0 labels) ++ drop 0 labels
none_renamed f labels = refl

pub one_renamed : (f : ℕ → ℕ) (labels now : List ℕ) (v d : ℕ) → v < length labels → now ≡ map f (take v labels) ++ drop v labels
    → set now v (f (get_or now v d)) ≡ map f (take (v + 1) labels) ++ drop (v + 1) labels
one_renamed f labels now v d below so_far =
    let front : length (map f (take v labels)) ≡ v = length-map (take v labels) f ∙ length-take-le v labels (omega arith) in
    let split : now ≡ map f (take v labels) ++ (get_or labels v d ∷ drop (suc v) labels) =
    so_far ∙ ap (λ (l : List ℕ). map f (take v labels) ++ l) (drop-cons labels v d below) in
    let read : get_or now v d ≡ get_or labels v d =
    ap (λ (l : List ℕ). get_or l v d) split
    ∙ (ap (λ n. get_or (map f (take v labels) ++ (get_or labels v d ∷ drop (suc v) labels)) n d) (sym front)
    ∙ get_or-append_seam (map f (take v labels)) (get_or labels v d) (drop (suc v) labels) d) in
    let written : set now v (f (get_or labels v d)) ≡ map f (take v labels) ++ (f (get_or labels v d) ∷ drop (suc v) labels) =
    ap (λ (l : List ℕ). set l v (f (get_or labels v d))) split
    ∙ (ap (λ n. set (map f (take v labels) ++ (get_or labels v d ∷ drop (suc v) labels)) n (f (get_or labels v d))) (sym front)
    ∙ set-append_seam (map f (take v labels)) (get_or labels v d) (drop (suc v) labels) (f (get_or labels v d))) in
    let longer : map f (take (suc v) labels) ≡ map f (take v labels) ++ (f (get_or labels v d) ∷ []) =
    ap (map f) (take-suc labels v d below) ∙ map-append f (take v labels) (get_or labels v d ∷ []) in
    let next : v + 1 ≡ suc v = add-one v in
    ap (λ x. set now v (f x)) read
    ∙ (written
    ∙ (sym (append_assoc (map f (take v labels)) (f (get_or labels v d) ∷ []) (drop (suc v) labels))
    ∙ (ap (λ (l : List ℕ). l ++ drop (suc v) labels) (sym longer)
    ∙ ap (λ n. map f (take n labels) ++ drop n labels) (sym next))))

-- the names of one merge more are below a greater limit
pub names_more : (merges : List Merge) (i n m : ℕ) (d : Merge) → i < length merges → n ≤ m
    → NamesBelow m (get_or merges i d) → All (NamesBelow n) (take i merges) → All (NamesBelow m) (take (i + 1) merges)
names_more merges i n m d there more here before =
    All-more (NamesBelow m) merges i d there
    (λ k e below. record { survivor = omega (arith, (before k e below).survivor); absorbed = omega (arith, (before k e below).absorbed) }) here

-- the names of lawful merges can be labels
pub lawful_names : (axes : Axes) (t : Threshold) (merges : List Merge) → IsWithinLimits axes → AreLawful axes t merges → All HasSmallNames merges
lawful_names axes t merges limits lawful = λ k d below.
    let names = lawful.names k d below in
    record {
      survivor = omega (arith, names.ordered, names.in_range, limits.most_voxels);
      absorbed = omega (arith, names.in_range, limits.most_voxels);
    }

-- labels that have their final names still fit
pub renamed_fit : (labels names : List ℕ) → All (λ name. name ≤ 2 ^ 28) names → AreLabels labels
    → AreLabels (map (final_label names) labels)
renamed_fit labels names fit are = λ v lt.
    let below : v < length labels = subst (λ n. v < n) (length-map labels (final_label names)) lt in
    let x : ℕ = get_or labels v 0 in
    let is : get_or (map (final_label names) labels) v 0 ≡ final_label names x = get_or-map (final_label names) labels v 0 0 below in
    let small : final_label names x ≤ 2 ^ 28 = elim (cases_lt x (length names)) [
      | inl inside ↦ subst (λ n. n ≤ 2 ^ 28) (sym (label_inside names x inside)) (fit x 0 inside)
      | inr outside ↦ subst (λ n. n ≤ 2 ^ 28) (sym (label_outside names x outside)) (are v below)
    ] in
    subst (λ n. n ≤ 2 ^ 28) (sym is) small
