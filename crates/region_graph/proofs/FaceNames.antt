-- The names in the cell of a node with the artificial faces that they touch, gathered axis by axis.
use Rattle.std.proofs.Common.{◌≡◌, ◌≢◌, ℕ, zero, suc, ◌+◌, ◌*◌, ◌^◌, ◌<◌, Bool, true, false, cond, ◌&&◌, ◌||◌, eqb, ltb, List, [], ◌∷◌, get_or, refl, sym, ap, ◌∙◌, arith, bit_or, add-one}
use Rattle.std.specs.List.{list_any, range_with_len}
use Rattle.std.specs.Int.Bits.{or_shifted_r}
use Rattle.std.proofs.Math.Nat.{pow-succ'}
use Rattle.std.proofs.lemmas.Bool.{and_parts, false≢true}
use mathlib.Core.Path.{fun_ext}
use Rattle.agglo_model.specs.Axes.{voxel_count, coordinate}
use Rattle.agglo_model.specs.Basins.{label_of}
use Rattle.agglo_model.specs.Cutting.{Chunking, IsChunking, length_on, node_count, cell_low, cell_high, is_low_artificial, is_high_artificial, face_bits, low_corner, high_corner}
use Rattle.agglo_model.specs.Freezing.{is_held, is_part, some_voxel, occurs_in, touches_low, touches_high, touched_faces}
use Rattle.agglo_model.specs.Joining.{is_named, joined_faces}
use Rattle.agglo_model.specs.RegionGraph.{Region}
use Rattle.agglo_model.proofs.Edges.{each_axis}
use Rattle.agglo_model.proofs.Freezing.{held_voxel, some_voxel_from, some_voxel_is, part_held}
use Rattle.region_graph.specs.Lists.{AreNamed}
use Rattle.region_graph.specs.Boxes.{GainsNames, GainsFaces, in_box, name_among, lowest_to, highest_from}
use Rattle.region_graph.proofs.Layers.{cell_is_box, cell_held, lowest_in, highest_in}

-- ---- faces as bits

-- the faces on the first k axes, as the number of a set of faces
abbrev pub faces_to : (ℕ → Bool) → (ℕ → Bool) → ℕ → ℕ
faces_to low high zero = 0
faces_to low high (suc k) = faces_to low high k + (cond (low k) (4 ^ k) 0 + cond (high k) (2 * 4 ^ k) 0)

faces_below : (low high : ℕ → Bool) (k : ℕ) → faces_to low high k < 4 ^ k
faces_below low high zero = omega arith
faces_below low high (suc k) =
    step (low k) (high k) (4 ^ k) (4 ^ suc k) (pow-succ' 4 k) (faces_below low high k)
  where
    step : (b c : Bool) (p q : ℕ) → q ≡ 4 * p → faces_to low high k < p → faces_to low high k + (cond b p 0 + cond c (2 * p) 0) < q
    step true true p q four below = omega arith
    step true false p q four below = omega arith
    step false true p q four below = omega arith
    step false false p q four below = omega arith

or_low : (k n : ℕ) → k < 3 → n < 4 ^ k → bit_or n (4 ^ k) ≡ n + 4 ^ k
or_low k n three = each_axis (λ j. n < 4 ^ j → bit_or n (4 ^ j) ≡ n + 4 ^ j) k three
    (λ below. or_shifted_r 1 0 n (omega arith) ∙ omega arith)
    (λ below. or_shifted_r 1 2 n (omega arith) ∙ omega arith)
    (λ below. or_shifted_r 1 4 n (omega arith) ∙ omega arith)

or_high : (k n : ℕ) → k < 3 → n < 2 * 4 ^ k → bit_or n (2 * 4 ^ k) ≡ n + 2 * 4 ^ k
or_high k n three = each_axis (λ j. n < 2 * 4 ^ j → bit_or n (2 * 4 ^ j) ≡ n + 2 * 4 ^ j) k three
    (λ below. or_shifted_r 1 1 n (omega arith) ∙ omega arith)
    (λ below. or_shifted_r 1 3 n (omega arith) ∙ omega arith)
    (λ below. or_shifted_r 1 5 n (omega arith) ∙ omega arith)

-- one face after the other on an axis
both_faces : (k n : ℕ) (b c : Bool) → k < 3 → n < 4 ^ k
    → cond c (bit_or (cond b (bit_or n (4 ^ k)) n) (2 * 4 ^ k)) (cond b (bit_or n (4 ^ k)) n)
    ≡ n + (cond b (4 ^ k) 0 + cond c (2 * 4 ^ k) 0)
both_faces k n true true three below =
    let low = or_low k n three below in
    ap (λ f. bit_or f (2 * 4 ^ k)) low ∙ or_high k (n + 4 ^ k) three (omega arith) ∙ omega arith
both_faces k n true false three below = or_low k n three below ∙ omega arith
both_faces k n false true three below = or_high k n three (omega arith) ∙ omega arith
both_faces k n false false three below = omega arith

pub all_faces : (low high : ℕ → Bool) → faces_to low high 3 ≡ face_bits low high
all_faces low high = omega arith

-- ---- names at faces

any_if : (b : Bool) (p q : ℕ → Bool) (vs : List ℕ) → list_any (λ v. (b && p v) && q v) vs ≡ (b && list_any (λ v. p v && q v) vs)
any_if true p q vs = refl
any_if false p q [] = refl
any_if false p q (v ∷ vs) = any_if false p q vs

turned : (h c l : Bool) → ((h && c) && l) ≡ ((h && l) && c)
turned true true true = refl
turned true true false = refl
turned true false true = refl
turned true false false = refl
turned false c l = refl

-- the names in the cell
pub among_cell : (c : Chunking) → IsChunking c → (m : ℕ) → m < node_count c → (labels : List ℕ) (x : ℕ)
    → name_among c.axes labels (in_box c.axes (low_corner c m) (high_corner c m)) x ≡ occurs_in c m labels x
among_cell c h m node labels x =
    ap (λ test. list_any test (range_with_len 0 (voxel_count c.axes)))
    (fun_ext (λ v. ap (λ b. b && eqb (label_of labels v) x) (cell_held c h m v node)))

-- those at its low face on an axis
pub among_lowest : (c : Chunking) → IsChunking c → (m : ℕ) → m < node_count c → (labels : List ℕ) (x axis : ℕ) → axis < 3
    → name_among c.axes labels (λ v. ltb 0 (get_or (low_corner c m) axis 0)
    && in_box c.axes (low_corner c m) (lowest_to (low_corner c m) (high_corner c m) axis) v) x ≡ touches_low c m labels x axis
among_lowest c h m node labels x axis three =
    let lo = low_corner c m in
    let hi = high_corner c m in
    any_if (ltb 0 (get_or lo axis 0)) (in_box c.axes lo (lowest_to lo hi axis)) (λ v. eqb (label_of labels v) x) (range_with_len 0 (voxel_count c.axes))
    ∙ ap (λ test. ltb 0 (get_or lo axis 0) && list_any test (range_with_len 0 (voxel_count c.axes)))
    (fun_ext (λ v.
    ap (λ b. b && eqb (label_of labels v) x) (lowest_in c.axes lo hi axis v three refl ((cell_is_box c h m node).some axis three)
    ∙ ap (λ b. b && eqb (coordinate c.axes v axis) (get_or lo axis 0)) (cell_held c h m v node))
    ∙ turned (is_held c m v) (eqb (coordinate c.axes v axis) (get_or lo axis 0)) (eqb (label_of labels v) x)))
    ∙ ap (λ n. ltb 0 n && some_voxel c (λ v. is_part c m labels x v && eqb (coordinate c.axes v axis) n)) (corner_low c m axis three)
  where
    corner_low : (c : Chunking) (m axis : ℕ) → axis < 3 → get_or (low_corner c m) axis 0 ≡ cell_low c m axis
    corner_low c m axis three = each_axis (λ k. get_or (low_corner c m) k 0 ≡ cell_low c m k) axis three refl refl refl

-- and at its high face
pub among_highest : (c : Chunking) → IsChunking c → (m : ℕ) → m < node_count c → (labels : List ℕ) (x axis : ℕ) → axis < 3
    → name_among c.axes labels (λ v. ltb (get_or (high_corner c m) axis 0) (length_on c.axes axis)
    && in_box c.axes (highest_from (low_corner c m) (high_corner c m) axis) (high_corner c m) v) x ≡ touches_high c m labels x axis
among_highest c h m node labels x axis three =
    let lo = low_corner c m in
    let hi = high_corner c m in
    let end = length_on c.axes axis in
    any_if (ltb (get_or hi axis 0) end) (in_box c.axes (highest_from lo hi axis) hi) (λ v. eqb (label_of labels v) x) (range_with_len 0 (voxel_count c.axes))
    ∙ ap (λ test. ltb (get_or hi axis 0) end && list_any test (range_with_len 0 (voxel_count c.axes)))
    (fun_ext (λ v.
    ap (λ b. b && eqb (label_of labels v) x) (highest_in c.axes lo hi axis v three refl ((cell_is_box c h m node).some axis three)
    ∙ ap (λ b. b && eqb (coordinate c.axes v axis + 1) (get_or hi axis 0)) (cell_held c h m v node))
    ∙ turned (is_held c m v) (eqb (coordinate c.axes v axis + 1) (get_or hi axis 0)) (eqb (label_of labels v) x)))
    ∙ ap (λ n. ltb n end && some_voxel c (λ v. is_part c m labels x v && eqb (coordinate c.axes v axis + 1) n)) (corner_high c m axis three)
  where
    corner_high : (c : Chunking) (m axis : ℕ) → axis < 3 → get_or (high_corner c m) axis 0 ≡ cell_high c m axis
    corner_high c m axis three = each_axis (λ k. get_or (high_corner c m) k 0 ≡ cell_high c m k) axis three refl refl refl

-- a name at a face occurs in the cell
occurs_by : (c : Chunking) (m : ℕ) (labels : List ℕ) (x : ℕ) (b : Bool) (test : ℕ → Bool)
    → (b && some_voxel c (λ v. is_part c m labels x v && test v)) ≡ true → occurs_in c m labels x ≡ true
occurs_by c m labels x b test pass =
    let found = some_voxel_is c (λ v. is_part c m labels x v && test v) (and_parts b _ pass).1 in
    let part = (and_parts (is_part c m labels x found.0) (test found.0) found.1).0 in
    some_voxel_from c (is_part c m labels x) found.0 (held_voxel c m found.0 (part_held c m labels x found.0 part)) part

low_occurs : (c : Chunking) (m : ℕ) (labels : List ℕ) (x axis : ℕ) → touches_low c m labels x axis ≡ true → occurs_in c m labels x ≡ true
low_occurs c m labels x axis pass =
    occurs_by c m labels x (is_low_artificial c m axis) (λ v. eqb (coordinate c.axes v axis) (cell_low c m axis)) pass

high_occurs : (c : Chunking) (m : ℕ) (labels : List ℕ) (x axis : ℕ) → touches_high c m labels x axis ≡ true → occurs_in c m labels x ≡ true
high_occurs c m labels x axis pass =
    occurs_by c m labels x (is_high_artificial c m axis) (λ v. eqb (coordinate c.axes v axis + 1) (cell_high c m axis)) pass

-- ---- all names of the cell, and their faces on the first k axes

pub record AreFacesNamed (c : Chunking) (m : ℕ) (labels : List ℕ) (k : ℕ) (now : List Region) : Type 0 where
  pub named : AreNamed now
  pub names : (x : ℕ) → x ≢ 0 → is_named now x ≡ occurs_in c m labels x
  pub faces : (x : ℕ) → x ≢ 0 → joined_faces now x ≡ faces_to (touches_low c m labels x) (touches_high c m labels x) k

same_either : (b : Bool) (n : ℕ) → cond b n n ≡ n
same_either true n = refl
same_either false n = refl

pub faces-none : (c : Chunking) (m : ℕ) (labels : List ℕ) (now : List Region) → IsChunking c → m < node_count c
    → GainsNames c.axes labels (in_box c.axes (low_corner c m) (high_corner c m)) 0 [] now → AreFacesNamed c m labels 0 now
faces-none c m labels now h node gained = record {
  named = gained.named (λ i d below. absurd (omega arith));
  names = λ x name. gained.names x name ∙ among_cell c h m node labels x;
  faces = λ x name. gained.with_faces x name ∙ same_either (name_among c.axes labels (in_box c.axes (low_corner c m) (high_corner c m)) x) 0;
}

known_too : (o b d : Bool) → (b ≡ true → o ≡ true) → (d ≡ true → o ≡ true) → ((o || b) || d) ≡ o
known_too true b d one other = refl
known_too false true d one other = absurd (false≢true (one refl))
known_too false false true one other = absurd (false≢true (other refl))
known_too false false false one other = refl

pub faces-more : (c : Chunking) (m : ℕ) (labels : List ℕ) (k : ℕ) (now after : List Region) → IsChunking c → m < node_count c → k < 3
    → AreFacesNamed c m labels k now → GainsFaces c.axes labels (low_corner c m) (high_corner c m) k now after
    → AreFacesNamed c m labels (k + 1) after
faces-more c m labels k now after h node three so_far gained =
    let low : ℕ → Bool = λ x. touches_low c m labels x k in
    let high : ℕ → Bool = λ x. touches_high c m labels x k in
    record {
      named = gained.high.named (gained.low.named so_far.named);
      names = λ x name.
          gained.high.names x name
          ∙ (λ i. gained.low.names x name i || among_highest c h m node labels x k three i)
          ∙ (λ i. (so_far.names x name i || among_lowest c h m node labels x k three i) || high x)
          ∙ known_too (occurs_in c m labels x) (low x) (high x) (low_occurs c m labels x k) (high_occurs c m labels x k);
      faces = λ x name.
          let n = faces_to (touches_low c m labels x) (touches_high c m labels x) k in
          let before : joined_faces gained.between x ≡ cond (low x) (bit_or n (4 ^ k)) n =
          gained.low.with_faces x name
          ∙ (λ i. cond (among_lowest c h m node labels x k three i) (bit_or (so_far.faces x name i) (4 ^ k)) (so_far.faces x name i)) in
          gained.high.with_faces x name
          ∙ (λ i. cond (among_highest c h m node labels x k three i) (bit_or (before i) (2 * 4 ^ k)) (before i))
          ∙ both_faces k n (low x) (high x) three (faces_below (touches_low c m labels x) (touches_high c m labels x) k)
          ∙ ap (faces_to (touches_low c m labels x) (touches_high c m labels x)) (sym (add-one k));
    }

pub faces-all : (c : Chunking) (m : ℕ) (labels : List ℕ) (now : List Region) → AreFacesNamed c m labels 3 now
    → (x : ℕ) → x ≢ 0 → joined_faces now x ≡ touched_faces c m labels x
faces-all c m labels now all x name = all.faces x name ∙ all_faces (touches_low c m labels x) (touches_high c m labels x)
