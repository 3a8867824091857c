-- The names and faces of a list of regions, told by tests that pass for some region: so they are the same
-- whatever the order of the regions.
use Rattle.std.proofs.Common.{◌≡◌, ℕ, ◌<◌, max, Bool, true, false, cond, ◌||◌, ◌&&◌, eqb, List, [], ◌∷◌, ◌++◌, map, filter, fold, refl, sym, ap, subst, ◌∙◌, arith, bit_or}
use Rattle.std.specs.List.{list_any}
use Rattle.std.specs.Prelude.{IsPermutation}
use Rattle.std.specs.Int.{bit_at}
use Rattle.std.proofs.lemmas.Bool.Decides.{nat_tests}
use Rattle.std.proofs.lemmas.Nat.Bits.{bit_at_or, bit_at-lt, bit_at-zero, same_from_bits}
use Rattle.std.proofs.lemmas.List.Folds.{list_any-append}
use Rattle.std.proofs.lemmas.List.Sorted.{list_any-IsPermutation}
use Rattle.std.proofs.Math.Bool.{or-false, or_assoc, or_self_left}
use Rattle.agglo_model.specs.Joining.{is_named, joined_faces}
use Rattle.agglo_model.specs.RegionGraph.{Region}
use Rattle.region_graph.specs.Lists.{SameRegions}

-- whether bit i of a number is 1
abbrev pub has_bit : ℕ → ℕ → Bool
has_bit n i = eqb (bit_at n i) 1

greater_is_one : (a b : ℕ) → a < 2 → b < 2 → eqb (max a b) 1 ≡ (eqb a 1 || eqb b 1)
greater_is_one a b lt_a lt_b = grind (arith, nat_tests)

pub has_bit-or : (a b i : ℕ) → has_bit (bit_or a b) i ≡ (has_bit a i || has_bit b i)
has_bit-or a b i = ap (λ n. eqb n 1) (bit_at_or a b i) ∙ greater_is_one (bit_at a i) (bit_at b i) (bit_at-lt a i) (bit_at-lt b i)

one_or_none : (a b : ℕ) → a < 2 → b < 2 → eqb a 1 ≡ eqb b 1 → a ≡ b
one_or_none a b lt_a lt_b same = grind (arith, nat_tests)

-- numbers with the same bits are equal
pub same_by_bits : (a b : ℕ) → ((i : ℕ) → has_bit a i ≡ has_bit b i) → a ≡ b
same_by_bits a b h = same_from_bits a b (λ i. one_or_none (bit_at a i) (bit_at b i) (bit_at-lt a i) (bit_at-lt b i) (h i))

-- the region has the name x and this face
abbrev pub names_face : ℕ → ℕ → Region → Bool
names_face x i r = eqb r.name x && has_bit r.faces i

abbrev faces_from : ℕ → List Region → ℕ → ℕ
faces_from first regions x = fold bit_or first (map (λ r. r.faces) (filter (λ r. eqb r.name x) regions))

fold_cons : (b : Bool) (first : ℕ) (r : Region) (regions : List Region) (x : ℕ) → eqb r.name x ≡ b
    → faces_from first (r ∷ regions) x ≡ faces_from (cond b (bit_or first r.faces) first) regions x
fold_cons true first r regions x is =
    ap (λ b. fold bit_or first (map (λ (s : Region). s.faces) (cond b (r ∷ filter (λ s. eqb s.name x) regions) (filter (λ s. eqb s.name x) regions)))) is
fold_cons false first r regions x is =
    ap (λ b. fold bit_or first (map (λ (s : Region). s.faces) (cond b (r ∷ filter (λ s. eqb s.name x) regions) (filter (λ s. eqb s.name x) regions)))) is

step_bit : (b : Bool) (first : ℕ) (r : Region) (regions : List Region) (x i : ℕ) → eqb r.name x ≡ b
    → (has_bit (cond b (bit_or first r.faces) first) i || list_any (names_face x i) regions)
    ≡ (has_bit first i || list_any (names_face x i) (r ∷ regions))
step_bit true first r regions x i is =
    ap (λ b. b || list_any (names_face x i) regions) (has_bit-or first r.faces i)
    ∙ or_assoc (has_bit first i) (has_bit r.faces i) (list_any (names_face x i) regions)
    ∙ ap (λ b. has_bit first i || ((b && has_bit r.faces i) || list_any (names_face x i) regions)) (sym is)
step_bit false first r regions x i is =
    ap (λ b. has_bit first i || ((b && has_bit r.faces i) || list_any (names_face x i) regions)) (sym is)

faces_from-bit : (first : ℕ) (regions : List Region) (x i : ℕ)
    → has_bit (faces_from first regions x) i ≡ (has_bit first i || list_any (names_face x i) regions)
faces_from-bit first [] x i = sym (or-false (has_bit first i))
faces_from-bit first (r ∷ regions) x i =
    let b = eqb r.name x in
    ap (λ n. has_bit n i) (fold_cons b first r regions x refl)
    ∙ faces_from-bit (cond b (bit_or first r.faces) first) regions x i
    ∙ step_bit b first r regions x i refl

-- a face of the name x is that of some region
pub joined_faces-bit : (regions : List Region) (x i : ℕ) → has_bit (joined_faces regions x) i ≡ list_any (names_face x i) regions
joined_faces-bit regions x i = faces_from-bit 0 regions x i
    ∙ ap (λ n. eqb n 1 || list_any (names_face x i) regions) (bit_at-zero i)

-- two lists with the same names, and for each the same faces
pub record AgreeInTests (regions others : List Region) : Type 0 where
  pub names : (x : ℕ) → is_named others x ≡ is_named regions x
  pub faces : (x i : ℕ) → list_any (names_face x i) others ≡ list_any (names_face x i) regions

pub same_regions : (regions others : List Region) → AgreeInTests regions others → SameRegions regions others
same_regions regions others h = record {
  names = h.names;
  faces = λ x. same_by_bits (joined_faces others x) (joined_faces regions x)
      (λ i. joined_faces-bit others x i ∙ h.faces x i ∙ sym (joined_faces-bit regions x i));
}

pub tests_agree : (regions others : List Region) → SameRegions regions others → AgreeInTests regions others
tests_agree regions others h = record {
  names = h.names;
  faces = λ x i. sym (joined_faces-bit others x i) ∙ ap (λ n. has_bit n i) (h.faces x) ∙ joined_faces-bit regions x i;
}

pub agree-permutation : (regions others : List Region) → IsPermutation regions others → AgreeInTests regions others
agree-permutation regions others moved = record {
  names = λ x. sym (list_any-IsPermutation (λ r. eqb r.name x) regions others moved);
  faces = λ x i. sym (list_any-IsPermutation (names_face x i) regions others moved);
}

pub agree-append : (es fs gs hs : List Region) → AgreeInTests es fs → AgreeInTests gs hs → AgreeInTests (es ++ gs) (fs ++ hs)
agree-append es fs gs hs left right = record {
  names = λ x. list_any-append (λ r. eqb r.name x) fs hs ∙ (λ j. left.names x j || right.names x j) ∙ sym (list_any-append (λ r. eqb r.name x) es gs);
  faces = λ x i. list_any-append (names_face x i) fs hs ∙ (λ j. left.faces x i j || right.faces x i j) ∙ sym (list_any-append (names_face x i) es gs);
}

pub agree-refl : (regions : List Region) → AgreeInTests regions regions
agree-refl regions = record { names = λ x. refl; faces = λ x i. refl }

pub agree-trans : (es fs gs : List Region) → AgreeInTests es fs → AgreeInTests fs gs → AgreeInTests es gs
agree-trans es fs gs h g = record { names = λ x. g.names x ∙ h.names x; faces = λ x i. g.faces x i ∙ h.faces x i }

both_bits : (b c d : Bool) → ((b && (c || d)) || false) ≡ ((b && c) || ((b && d) || false))
both_bits true c d = or_assoc c d false
both_bits false c d = refl

-- two regions of one name are as good as one with the faces of both
pub agree-joined : (r s both : Region) → s.name ≡ r.name → both ≡ record r { faces = bit_or r.faces s.faces }
    → AgreeInTests (r ∷ s ∷ []) (both ∷ [])
agree-joined r s both named both_is = subst (λ z. AgreeInTests (r ∷ s ∷ []) (z ∷ [])) (sym both_is) (record {
  names = λ x. sym (or_self_left (eqb r.name x) false) ∙ ap (λ n. eqb r.name x || (eqb n x || false)) (sym named);
  faces = λ x i. ap (λ b. (eqb r.name x && b) || false) (has_bit-or r.faces s.faces i)
      ∙ both_bits (eqb r.name x) (has_bit r.faces i) (has_bit s.faces i)
      ∙ ap (λ n. (eqb r.name x && has_bit r.faces i) || ((eqb n x && has_bit s.faces i) || false)) (sym named);
})
