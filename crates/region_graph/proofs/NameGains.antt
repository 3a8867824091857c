-- Lists of regions that gain the names of the voxels that pass a test: none, one, and two tests one after the other.
use Rattle.std.proofs.Common.{◌≡◌, ◌≢◌, ℕ, ◌+◌, ◌<◌, ◌≤◌, Bool, true, false, cond, ◌&&◌, ◌||◌, eqb, ltb, leb, List, [], ◌∷◌, ◌++◌, map, filter, fold, refl, sym, ap, ◌∙◌, subst, zero-add, arith, bit_or}
use Rattle.std.specs.List.{list_any, range_with_len}
use Rattle.std.proofs.lemmas.Bool.{and_parts, and_from, eqb-true, eq-eqb, false_from_ne_true, false≢true}
use Rattle.std.proofs.lemmas.Bool.Decides.{nat_tests}
use Rattle.std.proofs.lemmas.List.Elements.{All-push, filter-append}
use Rattle.std.proofs.lemmas.List.{map-append, append-nil}
use Rattle.std.proofs.lemmas.List.Sums.{fold_push}
use Rattle.std.proofs.lemmas.List.Folds.{Any-from_list_any, list_any-append, list_any_at}
use Rattle.std.proofs.lemmas.List.FromFn.{length-range_with_len, get_or-range_with_len}
use Rattle.std.proofs.Math.Bool.{or-false, or_assoc, and-or_distrib_right, or_self}
use Rattle.std.specs.Cmp.{both_ways}
use mathlib.Core.Path.{fun_ext}
use Rattle.agglo_model.specs.Axes.{Axes, voxel_count}
use Rattle.agglo_model.specs.Basins.{label_of}
use Rattle.agglo_model.specs.Joining.{is_named, joined_faces}
use Rattle.agglo_model.specs.RegionGraph.{Region}
use Rattle.region_graph.specs.Lists.{AreNamed, SameRegions}
use Rattle.region_graph.specs.Boxes.{GainsNames, in_run, name_among}
use Rattle.region_graph.proofs.RegionLists.{has_bit, has_bit-or, same_by_bits}

-- ---- names among the voxels that pass a test

pub among_from : (a : Axes) (labels : List ℕ) (test : ℕ → Bool) (x v : ℕ) → v < voxel_count a → test v ≡ true
    → label_of labels v ≡ x → name_among a labels test x ≡ true
among_from a labels test x v below pass name =
    let len = length-range_with_len 0 (voxel_count a) in
    list_any_at (λ w. test w && eqb (label_of labels w) x) (range_with_len 0 (voxel_count a)) v 0 (omega arith)
    (ap (λ w. test w && eqb (label_of labels w) x) (get_or-range_with_len 0 (voxel_count a) v 0 below ∙ zero-add v)
    ∙ and_from (test v) (eqb (label_of labels v) x) pass (eq-eqb (label_of labels v) x name))

pub record IsAmong (a : Axes) (labels : List ℕ) (test : ℕ → Bool) (x : ℕ) : Type 0 where
  pub voxel : ℕ
  pub below : voxel < voxel_count a
  pub passes : test voxel ≡ true
  pub name : label_of labels voxel ≡ x

pub among_is : (a : Axes) (labels : List ℕ) (test : ℕ → Bool) (x : ℕ) → name_among a labels test x ≡ true
    → IsAmong a labels test x
among_is a labels test x pass =
    let found = Any-from_list_any (λ w. test w && eqb (label_of labels w) x) (range_with_len 0 (voxel_count a)) pass in
    let len = length-range_with_len 0 (voxel_count a) in
    let parts = and_parts (test found.1) (eqb (label_of labels found.1) x) found.4 in
    let index : found.0 < voxel_count a = omega (arith, found.2, len) in
    let at_index = sym found.3 ∙ get_or-range_with_len 0 (voxel_count a) found.0 found.1 index in
    record { voxel = found.1; below = omega (arith, at_index); passes = parts.0; name = eqb-true (label_of labels found.1) x parts.1 }

mix_of : (b c d e : Bool) → ((b || c) || (d || e)) ≡ ((b || d) || (c || e))
mix_of true c d e = refl
mix_of false true true e = refl
mix_of false true false e = refl
mix_of false false d e = refl

any_or : (p q : ℕ → Bool) (vs : List ℕ) → list_any (λ v. p v || q v) vs ≡ (list_any p vs || list_any q vs)
any_or p q [] = refl
any_or p q (v ∷ vs) = ap (λ b. (p v || q v) || b) (any_or p q vs) ∙ mix_of (p v) (q v) (list_any p vs) (list_any q vs)

pub among-either : (a : Axes) (labels : List ℕ) (p q : ℕ → Bool) (x : ℕ)
    → name_among a labels (λ v. p v || q v) x ≡ (name_among a labels p x || name_among a labels q x)
among-either a labels p q x =
    let vs = range_with_len 0 (voxel_count a) in
    ap (λ test. list_any test vs) (fun_ext (λ v. and-or_distrib_right (p v) (q v) (eqb (label_of labels v) x)))
    ∙ any_or (λ v. p v && eqb (label_of labels v) x) (λ v. q v && eqb (label_of labels v) x) vs

-- one voxel
pub among-one : (a : Axes) (labels : List ℕ) (k x : ℕ) → k < voxel_count a
    → name_among a labels (λ v. eqb v k) x ≡ eqb (label_of labels k) x
among-one a labels k x below = both_ways (name_among a labels (λ v. eqb v k) x) (eqb (label_of labels k) x)
    (λ pass. let at = among_is a labels (λ v. eqb v k) x pass in
    eq-eqb (label_of labels k) x (ap (label_of labels) (sym (eqb-true at.voxel k at.passes)) ∙ at.name))
    (λ pass. among_from a labels (λ v. eqb v k) x k below (eq-eqb k k refl) (eqb-true (label_of labels k) x pass))

-- ---- what a list gains

-- tests that find the same names
pub names-same : (a : Axes) (labels : List ℕ) (p q : ℕ → Bool) (faces : ℕ) (es fs : List Region)
    → ((x : ℕ) → x ≢ 0 → name_among a labels p x ≡ name_among a labels q x)
    → GainsNames a labels p faces es fs → GainsNames a labels q faces es fs
names-same a labels p q faces es fs same gained = record {
  named = gained.named;
  names = λ x name. gained.names x name ∙ ap (λ b. is_named es x || b) (same x name);
  with_faces = λ x name. gained.with_faces x name
      ∙ ap (λ b. cond b (bit_or (joined_faces es x) faces) (joined_faces es x)) (same x name);
}

pub names-test : (a : Axes) (labels : List ℕ) (p q : ℕ → Bool) (faces : ℕ) (es fs : List Region) → ((v : ℕ) → p v ≡ q v)
    → GainsNames a labels p faces es fs → GainsNames a labels q faces es fs
names-test a labels p q faces es fs same gained =
    subst (λ test. GainsNames a labels test faces es fs) (fun_ext same) gained

-- the same by equal arguments
pub names-equal : (a b : Axes) (labels other : List ℕ) (p q : ℕ → Bool) (faces bits : ℕ) (es fs : List Region)
    → a ≡ b → labels ≡ other → ((v : ℕ) → p v ≡ q v) → faces ≡ bits
    → GainsNames a labels p faces es fs → GainsNames b other q bits es fs
names-equal a b labels other p q faces bits es fs axes_are labels_are tests bits_are gained =
    subst (λ z. GainsNames z other q bits es fs) axes_are
    (subst (λ z. GainsNames a z q bits es fs) labels_are
    (subst (λ z. GainsNames a labels q z es fs) bits_are (names-test a labels p q faces es fs tests gained)))

pub names-nothing : (a : Axes) (labels : List ℕ) (test : ℕ → Bool) (faces : ℕ) (es : List Region)
    → ((v : ℕ) → test v ≡ false) → GainsNames a labels test faces es es
names-nothing a labels test faces es fails = record {
  named = λ named. named;
  names = λ x name. sym (or-false (is_named es x)) ∙ ap (λ b. is_named es x || b) (sym (none x));
  with_faces = λ x name. ap (λ b. cond b (bit_or (joined_faces es x) faces) (joined_faces es x)) (sym (none x));
}
  where
    none : (x : ℕ) → name_among a labels test x ≡ false
    none x = false_from_ne_true (name_among a labels test x) (λ pass.
        let at = among_is a labels test x pass in false≢true (sym (fails at.voxel) ∙ at.passes))

or_again : (f b : ℕ) → bit_or (bit_or f b) b ≡ bit_or f b
or_again f b = same_by_bits (bit_or (bit_or f b) b) (bit_or f b) (λ i.
    has_bit-or (bit_or f b) b i ∙ ap (λ t. t || has_bit b i) (has_bit-or f b i)
    ∙ or_assoc (has_bit f i) (has_bit b i) (has_bit b i) ∙ ap (λ t. has_bit f i || t) (or_self (has_bit b i))
    ∙ sym (has_bit-or f b i))

faces_twice : (p q : Bool) (f b : ℕ)
    → cond q (bit_or (cond p (bit_or f b) f) b) (cond p (bit_or f b) f) ≡ cond (p || q) (bit_or f b) f
faces_twice true true f b = or_again f b
faces_twice true false f b = refl
faces_twice false q f b = refl

-- two tests, one after the other
pub names-both : (a : Axes) (labels : List ℕ) (p q : ℕ → Bool) (faces : ℕ) (es fs gs : List Region)
    → GainsNames a labels p faces es fs → GainsNames a labels q faces fs gs
    → GainsNames a labels (λ v. p v || q v) faces es gs
names-both a labels p q faces es fs gs one other = record {
  named = λ named. other.named (one.named named);
  names = λ x name.
      other.names x name ∙ ap (λ b. b || name_among a labels q x) (one.names x name)
      ∙ or_assoc (is_named es x) (name_among a labels p x) (name_among a labels q x)
      ∙ ap (λ b. is_named es x || b) (sym (among-either a labels p q x));
  with_faces = λ x name.
      other.with_faces x name
      ∙ ap (λ f. cond (name_among a labels q x) (bit_or f faces) f) (one.with_faces x name)
      ∙ faces_twice (name_among a labels p x) (name_among a labels q x) (joined_faces es x) faces
      ∙ ap (λ b. cond b (bit_or (joined_faces es x) faces) (joined_faces es x)) (sym (among-either a labels p q x));
}

-- ---- one voxel

or_last : (b c : Bool) → (b || (c || false)) ≡ (b || c)
or_last true c = refl
or_last false true = refl
or_last false false = refl

faces_push : (es : List Region) (r : Region) (x : ℕ) (b : Bool) → eqb r.name x ≡ b
    → joined_faces (es ++ r ∷ []) x ≡ cond b (bit_or (joined_faces es x) r.faces) (joined_faces es x)
faces_push es r x b is =
    ap (λ rs. fold bit_or 0 (map (λ (s : Region). s.faces) rs)) (filter-append (λ (s : Region). eqb s.name x) es (r ∷ []))
    ∙ step b is
  where
    step : (b : Bool) → eqb r.name x ≡ b
        → fold bit_or 0 (map (λ (s : Region). s.faces) (filter (λ (s : Region). eqb s.name x) es ++ cond (eqb r.name x) (r ∷ []) []))
        ≡ cond b (bit_or (joined_faces es x) r.faces) (joined_faces es x)
    step true is =
        let kept = filter (λ (s : Region). eqb s.name x) es in
        (λ i. fold bit_or 0 (map (λ (s : Region). s.faces) (kept ++ cond (is i) (r ∷ []) [])))
        ∙ ap (fold bit_or 0) (map-append (λ (s : Region). s.faces) kept (r ∷ []))
        ∙ fold_push bit_or 0 (map (λ (s : Region). s.faces) kept) r.faces
    step false is =
        let kept = filter (λ (s : Region). eqb s.name x) es in
        (λ i. fold bit_or 0 (map (λ (s : Region). s.faces) (kept ++ cond (is i) (r ∷ []) [])))
        ∙ ap (λ rs. fold bit_or 0 (map (λ (s : Region). s.faces) rs)) (append-nil kept)

pub names-voxel : (a : Axes) (labels : List ℕ) (k faces : ℕ) (es : List Region) → k < voxel_count a → label_of labels k ≢ 0
    → GainsNames a labels (λ v. eqb v k) faces es (es ++ record { name = label_of labels k; faces = faces } ∷ [])
names-voxel a labels k faces es below some =
    let r : Region = record { name = label_of labels k; faces = faces } in
    record {
      named = λ named. All-push (λ s. s.name ≢ 0) es r named some;
      names = λ x name. list_any-append (λ s. eqb s.name x) es (r ∷ []) ∙ or_last (is_named es x) (eqb r.name x)
          ∙ ap (λ b. is_named es x || b) (sym (among-one a labels k x below));
      with_faces = λ x name. faces_push es r x (eqb r.name x) refl
          ∙ ap (λ b. cond b (bit_or (joined_faces es x) faces) (joined_faces es x)) (sym (among-one a labels k x below));
    }

-- ---- a run of voxels

run_of : (from v w : ℕ) → from ≤ v → ((leb from w && ltb w v) || eqb w v) ≡ (leb from w && ltb w (v + 1))
run_of from v w low = grind (arith, nat_tests)

none_of : (from w : ℕ) → (leb from w && ltb w from) ≡ false
none_of from w = grind (arith, nat_tests)

pub told_none : (a : Axes) (labels : List ℕ) (from faces : ℕ) (es : List Region)
    → GainsNames a labels (in_run from from) faces es es
told_none a labels from faces es = names-nothing a labels (in_run from from) faces es (none_of from)

more_tests : (a : Axes) (labels : List ℕ) (from v faces : ℕ) (es fs : List Region) → from ≤ v
    → GainsNames a labels (λ w. in_run from v w || eqb w v) faces es fs → GainsNames a labels (in_run from (v + 1)) faces es fs
more_tests a labels from v faces es fs low gained =
    names-test a labels (λ w. in_run from v w || eqb w v) (in_run from (v + 1)) faces es fs (λ w. run_of from v w low) gained

-- a list with the same names and faces as one that gained names
names-alike : (a : Axes) (labels : List ℕ) (test : ℕ → Bool) (faces : ℕ) (es fs gs : List Region)
    → GainsNames a labels test faces es fs → SameRegions fs gs → (AreNamed es → AreNamed gs)
    → GainsNames a labels test faces es gs
names-alike a labels test faces es fs gs gained same named = record {
  named = named;
  names = λ x name. same.names x ∙ gained.names x name;
  with_faces = λ x name. same.faces x ∙ gained.with_faces x name;
}

-- the name of the next voxel was added
pub told_name : (a : Axes) (labels : List ℕ) (from v faces : ℕ) (es fs gs : List Region) (name : ℕ)
    → from ≤ v → v < voxel_count a → GainsNames a labels (in_run from v) faces es fs
    → name ≡ label_of labels v → name ≢ 0 → SameRegions (fs ++ record { name = name; faces = faces } ∷ []) gs
    → (AreNamed fs → name ≢ 0 → AreNamed gs) → GainsNames a labels (in_run from (v + 1)) faces es gs
told_name a labels from v faces es fs gs name low below so_far name_is some same named =
    let here : label_of labels v ≢ 0 = λ none. some (name_is ∙ none) in
    let with_name : ℕ → List Region = λ n. fs ++ record { name = n; faces = faces } ∷ [] in
    names-alike a labels (in_run from (v + 1)) faces es (with_name (label_of labels v)) gs
    (more_tests a labels from v faces es (with_name (label_of labels v)) low
    (names-both a labels (in_run from v) (λ w. eqb w v) faces es fs (with_name (label_of labels v)) so_far
    (names-voxel a labels v faces fs below here)))
    (subst (λ n. SameRegions (with_name n) gs) name_is same) (λ names. named (so_far.named names) some)

other_name : (b : Bool) (c : Bool) → c ≡ false → b ≡ (b || c)
other_name true c other = refl
other_name false true other = sym other
other_name false false other = refl

-- the next voxel is background
pub told_background : (a : Axes) (labels : List ℕ) (from v faces : ℕ) (es fs gs : List Region)
    → from ≤ v → v < voxel_count a → GainsNames a labels (in_run from v) faces es fs
    → label_of labels v ≡ 0 → gs ≡ fs → GainsNames a labels (in_run from (v + 1)) faces es gs
told_background a labels from v faces es fs gs low below so_far none gs_is =
    more_tests a labels from v faces es gs low
    (subst (GainsNames a labels (λ w. in_run from v w || eqb w v) faces es) (sym gs_is)
    (names-same a labels (in_run from v) (λ w. in_run from v w || eqb w v) faces es fs (λ x name.
    other_name (name_among a labels (in_run from v) x) (eqb (label_of labels v) x)
    (false_from_ne_true (eqb (label_of labels v) x) (λ pass. name (sym (eqb-true (label_of labels v) x pass) ∙ none)))
    ∙ ap (λ b. name_among a labels (in_run from v) x || b) (sym (among-one a labels v x below))
    ∙ sym (among-either a labels (in_run from v) (λ w. eqb w v) x)) so_far))
