-- The tree file of a merge tree has no flaw, and holds the tree.
use Rattle.std.proofs.Common.{◌≡◌, ℕ, zero, suc, ◌+◌, ◌*◌, ◌<◌, ◌^◌, List, [], ◌∷◌, ◌++◌, length, get_or, drop, Option, None, refl, sym, ap, ◌∙◌, subst, arith, lit≤, append_assoc, length-append}
use Rattle.std.specs.Prelude.{All}
use Rattle.std.specs.List.{flat_map}
use Rattle.std.specs.Option.{option_or}
use Rattle.std.proofs.Math.Seq.{drop-cons, drop-append-add, get_or-append_seam}
use Rattle.std.proofs.lemmas.List.{ext_get_or, get_or-drop, get_or_append_left}
use Rattle.std.proofs.lemmas.List.FromFn.{get_or-map-range_with_len}
use Rattle.agglo_model.specs.Axes.{Axes, IsWithinLimits, axes_flaw, voxel_count}
use Rattle.agglo_model.specs.PairOrder.{Threshold, Before, Reaches}
use Rattle.agglo_model.specs.Greedy.{Merge}
use Rattle.agglo_model.specs.MergeTree.{HasNames, HasNumbers, Keeps, AreLawful, merge_bytes}
use Rattle.agglo_model.specs.VolumeFile.{u32_at, header_axes}
use Rattle.agglo_model.specs.Numbers.{u64_at}
use Rattle.agglo_model.specs.TreeFile.{TreeFlaw, MergeTree, IsMergeTree, header, header_threshold, header_merges, header_flaw, records_flaw, body_flaw, merges_in, merge_at, tree_bytes, record_length}
use Rattle.agglo_model.specs.TreeLaws.{TreesReadBack}
use Rattle.agglo_model.proofs.AxesLimits.{no_flaw as no_axes_flaw}
use Rattle.agglo_model.proofs.Digits.{four_digits, eight_digits}
use Rattle.agglo_model.proofs.RecordFlaws.{IsSound, no_flaw, names_pass, numbers_pass, order_passes, above_passes}
use Rattle.agglo_model.proofs.HeaderFlaws.{no_header_flaw}
use Rattle.agglo_model.proofs.TreeBodies.{whole_body}
use Rattle.agglo_model.proofs.SoundTrees.{AreSound, as_many}

-- a number that stands later in a list, read where the list is cut before it
byte_later : (bytes : List ℕ) (k j i : ℕ) → get_or bytes (k + j + i) 0 ≡ get_or (drop k bytes) (j + i) 0
byte_later bytes k j i =
    let place : k + j + i ≡ k + (j + i) = omega arith in
    ap (λ n. get_or bytes n 0) place ∙ sym (get_or-drop k bytes (j + i) 0)

u32_later : (bytes : List ℕ) (k j : ℕ) → u32_at (k + j) bytes ≡ u32_at j (drop k bytes)
u32_later bytes k j =
    let first : get_or bytes (k + j) 0 ≡ get_or (drop k bytes) j 0 = sym (get_or-drop k bytes j 0) in
    let second = byte_later bytes k j 1 in
    let third = byte_later bytes k j 2 in
    let fourth = byte_later bytes k j 3 in
    λ i. first i + 256 * second i + 65536 * third i + 16777216 * fourth i

u64_later : (bytes : List ℕ) (k j : ℕ) → u64_at (k + j) bytes ≡ u64_at j (drop k bytes)
u64_later bytes k j =
    let low = u32_later bytes k j in
    let place : k + j + 4 ≡ k + (j + 4) = omega arith in
    let high = ap (λ n. u32_at n bytes) place ∙ u32_later bytes k (j + 4) in
    λ i. low i + 4294967296 * high i

merge_later : (bytes : List ℕ) (k : ℕ) → merge_at k bytes ≡ merge_at 0 (drop k bytes)
merge_later bytes k =
    let start : k ≡ k + 0 = omega arith in
    let survivor = ap (λ n. u32_at n bytes) start ∙ u32_later bytes k 0 in
    let absorbed = u32_later bytes k 4 in
    let sum = u64_later bytes k 8 in
    let count = u64_later bytes k 16 in
    let tie = u64_later bytes k 24 in
    λ i. record { survivor = survivor i; absorbed = absorbed i; contact = record { sum = sum i; count = count i; tie = tie i } }

-- the numbers of a merge are those of four and eight bytes
record HasShortNumbers (m : Merge) : Type 0 where
  survivor : m.survivor < 2 ^ 32
  absorbed : m.absorbed < 2 ^ 32
  sum : m.contact.sum < 2 ^ 64
  count : m.contact.count < 2 ^ 64
  tie : m.contact.tie < 2 ^ 64

first_merge : (m : Merge) (rest : List ℕ) → HasShortNumbers m → merge_at 0 (merge_bytes m ++ rest) ≡ m
first_merge m rest h =
    let survivor = four_digits m.survivor h.survivor in
    let absorbed = four_digits m.absorbed h.absorbed in
    let sum = eight_digits m.contact.sum h.sum in
    let count = eight_digits m.contact.count h.count in
    let tie = eight_digits m.contact.tie h.tie in
    λ i. record { survivor = survivor i; absorbed = absorbed i; contact = record { sum = sum i; count = count i; tie = tie i } }

-- the blocks after the first i are those of the merges after the first i
blocks_after : (i : ℕ) (merges : List Merge) → drop (record_length * i) (flat_map merge_bytes merges) ≡ flat_map merge_bytes (drop i merges)
blocks_after zero merges = refl
blocks_after (suc i) [] = none (record_length * suc i)
  where
    none : (n : ℕ) → drop {A = ℕ} n [] ≡ []
    none zero = refl
    none (suc n) = refl
blocks_after (suc i) (m ∷ merges) =
    let next : record_length * suc i ≡ length (merge_bytes m) + record_length * i = omega arith in
    ap (λ n. drop n (merge_bytes m ++ flat_map merge_bytes merges)) next
    ∙ (drop-append-add (merge_bytes m) (flat_map merge_bytes merges) (record_length * i) ∙ blocks_after i merges)

-- the merge at place i is read back
nth_merge : (merges : List Merge) (i : ℕ) (d : Merge) → i < length merges → HasShortNumbers (get_or merges i d)
    → merge_at (record_length * i) (flat_map merge_bytes merges) ≡ get_or merges i d
nth_merge merges i d below short =
    merge_later (flat_map merge_bytes merges) (record_length * i)
    ∙ (ap (merge_at 0) (blocks_after i merges ∙ ap (flat_map merge_bytes) (drop-cons merges i d below))
    ∙ first_merge (get_or merges i d) (flat_map merge_bytes (drop (suc i) merges)) short)

-- and so are all
all_merges : (merges : List Merge) → All HasShortNumbers merges → merges_in (length merges) (flat_map merge_bytes merges) ≡ merges
unfolding merges_in
all_merges merges short =
    let no_merge : Merge = record { survivor = 0; absorbed = 0; contact = record { sum = 0; count = 0; tie = 0 } } in
    ext_get_or no_merge (merges_in (length merges) (flat_map merge_bytes merges)) merges (as_many (length merges) (flat_map merge_bytes merges))
    (λ i below.
    let inside : i < length merges = omega (arith, as_many (length merges) (flat_map merge_bytes merges)) in
    get_or-map-range_with_len (λ j. merge_at (record_length * j) (flat_map merge_bytes merges)) 0 (length merges) i i no_merge inside (omega arith)
    ∙ nth_merge merges i no_merge inside (short i no_merge inside))

block_length : (merges : List Merge) → length (flat_map merge_bytes merges) ≡ record_length * length merges
block_length [] = refl
block_length (m ∷ merges) =
    let rest = block_length merges in
    let both : length (merge_bytes m ++ flat_map merge_bytes merges) ≡ length (merge_bytes m) + length (flat_map merge_bytes merges) =
    length-append (merge_bytes m) (flat_map merge_bytes merges) in
    omega (arith, both, rest)

-- lawful merges within the limits have such numbers
short_numbers : (axes : Axes) (t : Threshold) (merges : List Merge) → IsWithinLimits axes → AreLawful axes t merges → All HasShortNumbers merges
short_numbers axes t merges limits lawful = λ k d below.
    let names = lawful.names k d below in
    let numbers = lawful.numbers k d below in
    record {
      survivor = omega (arith, names.ordered, names.in_range, limits.most_voxels);
      absorbed = omega (arith, names.in_range, limits.most_voxels);
      sum = omega (arith, numbers.bytes, numbers.few, limits.most_voxels);
      count = omega (arith, numbers.few, limits.most_voxels);
      tie = omega (arith, numbers.edge, limits.most_voxels);
    }

-- the record after these is sound
next_sound : (axes : Axes) (t : Threshold) (earlier : List Merge) (m : Merge) (merges : List Merge) → AreSound axes t (earlier ++ m ∷ merges)
    → IsSound axes t earlier m
next_sound axes t earlier m merges all =
    let size : length (earlier ++ m ∷ merges) ≡ length earlier + suc (length merges) = length-append earlier (m ∷ merges) in
    let here : (d : Merge) → get_or (earlier ++ m ∷ merges) (length earlier) d ≡ m = λ d. get_or-append_seam earlier m merges d in
    let front : (k : ℕ) (d : Merge) → k < length earlier → get_or (earlier ++ m ∷ merges) k d ≡ get_or earlier k d =
    λ k d below. get_or_append_left earlier (m ∷ merges) d k below in
    record {
      names = names_pass axes earlier m (subst (HasNames axes) (here m) (all.names (length earlier) m (omega (arith, size))))
          (λ k d below. subst (λ (e : Merge). Keeps e m) (front k d below)
          (subst (Keeps (get_or (earlier ++ m ∷ merges) k d)) (here d) (all.alive k (length earlier) d below (omega (arith, size)))));
      numbers = numbers_pass axes m.contact (subst (λ (e : Merge). HasNumbers axes e.contact) (here m) (all.numbers (length earlier) m (omega (arith, size))));
      next = order_passes earlier m (λ k d last.
          subst (λ (e : Merge). Before e.contact m.contact) (front k d (omega (arith, last)))
          (subst (λ (e : Merge). Before (get_or (earlier ++ m ∷ merges) k d).contact e.contact) (ap (λ n. get_or (earlier ++ m ∷ merges) n d) last ∙ here d)
          (all.falling k d (omega (arith, size, last)))));
      above = above_passes t m.contact (subst (λ (e : Merge). Reaches t e.contact) (here m) (all.reaching (length earlier) m (omega (arith, size))));
    }

no_records_flaw : (axes : Axes) (t : Threshold) (earlier merges : List Merge) → AreSound axes t (earlier ++ merges)
    → records_flaw axes t earlier merges ≡ None
no_records_flaw axes t earlier [] all = refl
no_records_flaw axes t earlier (m ∷ merges) all =
    ap (λ (o : Option TreeFlaw). option_or o (records_flaw axes t (earlier ++ m ∷ []) merges))
    (no_flaw axes t earlier m (next_sound axes t earlier m merges all))
    ∙ no_records_flaw axes t (earlier ++ m ∷ []) merges (subst (AreSound axes t) (sym (append_assoc earlier (m ∷ []) merges)) all)

no_body_flaw : (axes : Axes) (t : Threshold) (merges : List Merge) → IsWithinLimits axes → AreLawful axes t merges
    → body_flaw axes t (length merges) (flat_map merge_bytes merges) ≡ None
no_body_flaw axes t merges limits lawful =
    whole_body axes t (length merges) (flat_map merge_bytes merges) (block_length merges)
    ∙ (ap (records_flaw axes t []) (all_merges merges (short_numbers axes t merges limits lawful))
    ∙ no_records_flaw axes t [] merges record {
      names = lawful.names;
      alive = lawful.alive;
      numbers = lawful.numbers;
      falling = lawful.falling;
      reaching = lawful.reaching;
    })

-- what the header of a tree file says
axes_back : (tree : MergeTree) → IsWithinLimits tree.axes → header_axes (header (tree_bytes tree)) ≡ tree.axes
axes_back tree limits =
    let nx = four_digits tree.axes.nx (omega (arith, limits.most_x)) in
    let ny = four_digits tree.axes.ny (omega (arith, limits.most_y)) in
    let nz = four_digits tree.axes.nz (omega (arith, limits.most_z)) in
    λ i. record { nx = nx i; ny = ny i; nz = nz i }

threshold_back : (tree : MergeTree) → tree.threshold.p < 2 ^ 32 → tree.threshold.q < 2 ^ 32
    → header_threshold (header (tree_bytes tree)) ≡ tree.threshold
threshold_back tree p q =
    let top = four_digits tree.threshold.p p in
    let bottom = four_digits tree.threshold.q q in
    λ i. record { p = top i; q = bottom i }

count_back : (tree : MergeTree) → IsMergeTree tree → header_merges (header (tree_bytes tree)) ≡ length tree.merges
count_back tree sound = four_digits (length tree.merges) (omega (arith, sound.lawful.few, sound.limits.most_voxels))

header_back : (tree : MergeTree) → IsMergeTree tree → tree.threshold.p < 2 ^ 32 → tree.threshold.q < 2 ^ 32
    → header_flaw (header (tree_bytes tree)) ≡ None
header_back tree sound p q =
    let axes = axes_back tree sound.limits in
    no_header_flaw (header (tree_bytes tree)) (lit≤ tt) refl (ap axes_flaw axes ∙ no_axes_flaw tree.axes sound.limits)
    (subst (λ (t : Threshold). 0 < t.q) (sym (threshold_back tree p q)) sound.fraction)
    (subst (λ (a : Axes). header_merges (header (tree_bytes tree)) < voxel_count a) (sym axes)
    (subst (λ n. n < voxel_count tree.axes) (sym (count_back tree sound)) sound.lawful.few))

pub trees_read_back : TreesReadBack
trees_read_back tree sound p q =
    let axes = axes_back tree sound.limits in
    let threshold = threshold_back tree p q in
    let count = count_back tree sound in
    let merges : merges_in (header_merges (header (tree_bytes tree))) (flat_map merge_bytes tree.merges) ≡ tree.merges =
    ap (λ n. merges_in n (flat_map merge_bytes tree.merges)) count
    ∙ all_merges tree.merges (short_numbers tree.axes tree.threshold tree.merges sound.limits sound.lawful) in (
      ap (λ (o : Option TreeFlaw). option_or o (body_flaw (header_axes (header (tree_bytes tree))) (header_threshold (header (tree_bytes tree)))
          (header_merges (header (tree_bytes tree))) (flat_map merge_bytes tree.merges))) (header_back tree sound p q)
          ∙ ((λ i. body_flaw (axes i) (threshold i) (count i) (flat_map merge_bytes tree.merges))
          ∙ no_body_flaw tree.axes tree.threshold tree.merges sound.limits sound.lawful),
      λ i. record { axes = axes i; threshold = threshold i; merges = merges i },
    )
