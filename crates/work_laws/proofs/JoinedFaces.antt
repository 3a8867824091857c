-- The faces of all kept regions of one name together, bit by bit.
use Rattle.std.proofs.Common.{◌≡◌, inl, inr, ℕ, zero, suc, ◌+◌, ◌<◌, ◌≤◌, ◌==◌, Bool, true, false, cond, ◌&&◌, ◌||◌, List, [], ◌∷◌, ◌++◌, length, fold, refl, sym, ap, ◌∙◌, subst, arith}
use Rattle.std.specs.Prelude.{Contains, map, filter, bit_or}
use Rattle.std.proofs.Math.Bool.{or_assoc, or-false}
use Rattle.std.proofs.lemmas.Bool.{cases_lt, eqb-true, or_cases, or_left, or_right}
use Rattle.std.proofs.lemmas.List.{map-append}
use Rattle.std.proofs.lemmas.List.Elements.{filter-append}
use Rattle.std.proofs.lemmas.List.Sums.{fold-append}
use Rattle.agglo_model.specs.Cutting.{Chunking, face_bits, child}
use Rattle.agglo_model.specs.RegionGraph.{Region, RegionGraph, residue_of}
use Rattle.agglo_model.specs.Joining.{is_named, kept_region, kept_regions}
use Rattle.agglo_model.proofs.Members.{contains_head, contains_tail}
use Rattle.agglo_model.proofs.Tests.{or_again}
use Rattle.work_laws.proofs.FaceBits.{or_faces, same_bits}

-- the faces of the regions of the name x, with those that are there already
abbrev pub gathered : ℕ → ℕ → List Region → ℕ
gathered faces x regions = fold bit_or faces (map (λ r. r.faces) (filter (λ r. r.name == x) regions))

gathered-append : (faces x : ℕ) (rs ss : List Region) → gathered faces x (rs ++ ss) ≡ gathered (gathered faces x rs) x ss
gathered-append faces x rs ss =
    ap (λ l. fold bit_or faces (map (λ (r : Region). r.faces) l)) (filter-append (λ (r : Region). r.name == x) rs ss)
    ∙ ap (fold bit_or faces) (map-append (λ (r : Region). r.faces) (filter (λ (r : Region). r.name == x) rs) (filter (λ (r : Region). r.name == x) ss))
    ∙ fold-append bit_or faces (map (λ (r : Region). r.faces) (filter (λ (r : Region). r.name == x) rs))
    (map (λ (r : Region). r.faces) (filter (λ (r : Region). r.name == x) ss))

-- one more region
gather_step : (b named : Bool) (faces : ℕ) (rest : List Region) (r : Region)
    (low high low' high' : ℕ → Bool) → faces ≡ face_bits low high → (b ≡ true → r.faces ≡ face_bits low' high')
    → ((l h : ℕ → Bool) → fold bit_or (face_bits l h) (map (λ r. r.faces) rest)
    ≡ face_bits (λ axis. l axis || (named && low' axis)) (λ axis. h axis || (named && high' axis)))
    → fold bit_or faces (map (λ r. r.faces) (cond b (r ∷ rest) rest))
    ≡ face_bits (λ axis. low axis || ((b || named) && low' axis)) (λ axis. high axis || ((b || named) && high' axis))
gather_step true named faces rest r low high low' high' start its more =
    (λ i. fold bit_or (bit_or (start i) (its refl i)) (map (λ (s : Region). s.faces) rest))
    ∙ ap (λ k. fold bit_or k (map (λ (s : Region). s.faces) rest)) (or_faces low high low' high')
    ∙ more (λ axis. low axis || low' axis) (λ axis. high axis || high' axis)
    ∙ same_bits (λ axis. (low axis || low' axis) || (named && low' axis)) (λ axis. (high axis || high' axis) || (named && high' axis))
    (λ axis. low axis || low' axis) (λ axis. high axis || high' axis)
    (λ axis. or_again (low axis) (low' axis) named) (λ axis. or_again (high axis) (high' axis) named)
gather_step false named faces rest r low high low' high' start its more =
    ap (λ k. fold bit_or k (map (λ (s : Region). s.faces) rest)) start ∙ more low high

-- regions of one name with the same faces
pub gather_alike : (x : ℕ) (regions : List Region) (low' high' : ℕ → Bool)
    → ((r : Region) → Contains regions r → r.name ≡ x → r.faces ≡ face_bits low' high') → (low high : ℕ → Bool)
    → gathered (face_bits low high) x regions
    ≡ face_bits (λ axis. low axis || (is_named regions x && low' axis)) (λ axis. high axis || (is_named regions x && high' axis))
gather_alike x [] low' high' each low high =
    same_bits low high (λ axis. low axis || false) (λ axis. high axis || false)
    (λ axis. sym (or-false (low axis))) (λ axis. sym (or-false (high axis)))
gather_alike x (r ∷ regions) low' high' each low high =
    gather_step (r.name == x) (is_named regions x) (face_bits low high) (filter (λ (s : Region). s.name == x) regions) r
    low high low' high' refl
    (λ pass. each r (contains_head r regions) (eqb-true r.name x pass))
    (gather_alike x regions low' high' (λ s inside. each s (contains_tail r s regions inside)))

-- one of n children, from number i on, passes the test of an axis
abbrev pub some_from : (ℕ → ℕ → Bool) → ℕ → ℕ → ℕ → Bool
some_from test i zero axis = false
some_from test i (suc n) axis = test i axis || some_from test (i + 1) n axis

pub one_some : (test : ℕ → ℕ → Bool) (i n axis : ℕ) → some_from test i n axis ≡ true
    → (j : ℕ) × (j < i + n) × (test j axis ≡ true)
one_some test i zero axis pass = cc
one_some test i (suc n) axis pass = elim (or_cases (test i axis) (some_from test (i + 1) n axis) pass) [
  | inl here ↦ (i, omega arith, here)
  | inr later ↦ (let found = one_some test (i + 1) n axis later in (found.0, omega (arith, found.1), found.2))
]

pub some_one : (test : ℕ → ℕ → Bool) (i n axis j : ℕ) → i ≤ j → j < i + n → test j axis ≡ true
    → some_from test i n axis ≡ true
some_one test i zero axis j low high pass = absurd (omega arith)
some_one test i (suc n) axis j low high pass = elim (cases_lt i j) [
  | inl less ↦ or_right (test i axis) (some_from test (i + 1) n axis)
      (some_one test (i + 1) n axis j (omega arith) (omega arith) pass)
  | inr most ↦ (
      let same : j ≡ i = omega arith in
      or_left (test i axis) (some_from test (i + 1) n axis) (subst (λ k. test k axis ≡ true) same pass))
]

module _ (c : Chunking) (m x : ℕ) (low high : ℕ → ℕ → Bool) where
  -- each child adds these faces
  abbrev pub AddFaces : ℕ → List RegionGraph → Type 0
  AddFaces i kids = (k : ℕ) → k < length kids → (l h : ℕ → Bool)
      → gathered (face_bits l h) x (map (kept_region c m (child c m (i + k))) (residue_of kids k).regions)
      ≡ face_bits (λ axis. l axis || low (i + k) axis) (λ axis. h axis || high (i + k) axis)

  pub gather_all : (i : ℕ) (kids : List RegionGraph) → AddFaces i kids → (l h : ℕ → Bool)
      → gathered (face_bits l h) x (kept_regions c m i kids)
      ≡ face_bits (λ axis. l axis || some_from low i (length kids) axis) (λ axis. h axis || some_from high i (length kids) axis)
  gather_all i [] each l h =
      same_bits l h (λ axis. l axis || false) (λ axis. h axis || false)
      (λ axis. sym (or-false (l axis))) (λ axis. sym (or-false (h axis)))
  gather_all i (kid ∷ kids) each l h =
      let here : i + 0 ≡ i = omega arith in
      let first : gathered (face_bits l h) x (map (kept_region c m (child c m i)) kid.regions)
      ≡ face_bits (λ axis. l axis || low i axis) (λ axis. h axis || high i axis) =
      subst (λ n. gathered (face_bits l h) x (map (kept_region c m (child c m n)) kid.regions)
      ≡ face_bits (λ axis. l axis || low n axis) (λ axis. h axis || high n axis)) here (each 0 (omega arith) l h) in
      let rest = gather_all (i + 1) kids (λ k below l' h'.
      let next : i + suc k ≡ i + 1 + k = omega arith in
      subst (λ n. gathered (face_bits l' h') x (map (kept_region c m (child c m n)) (residue_of kids k).regions)
      ≡ face_bits (λ axis. l' axis || low n axis) (λ axis. h' axis || high n axis)) next (each (suc k) (omega arith) l' h'))
      (λ axis. l axis || low i axis) (λ axis. h axis || high i axis) in
      gathered-append (face_bits l h) x (map (kept_region c m (child c m i)) kid.regions) (kept_regions c m (i + 1) kids)
      ∙ ap (λ k. gathered k x (kept_regions c m (i + 1) kids)) first
      ∙ rest
      ∙ same_bits (λ axis. (l axis || low i axis) || some_from low (i + 1) (length kids) axis)
      (λ axis. (h axis || high i axis) || some_from high (i + 1) (length kids) axis)
      (λ axis. l axis || (low i axis || some_from low (i + 1) (length kids) axis))
      (λ axis. h axis || (high i axis || some_from high (i + 1) (length kids) axis))
      (λ axis. or_assoc (l axis) (low i axis) (some_from low (i + 1) (length kids) axis))
      (λ axis. or_assoc (h axis) (high i axis) (some_from high (i + 1) (length kids) axis))
