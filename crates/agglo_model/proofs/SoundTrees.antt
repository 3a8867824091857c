-- A list of bytes without a flaw holds a merge tree.
use Rattle.std.proofs.Common.{◌≡◌, ℕ, ◌+◌, ◌-◌, ◌<◌, ◌*◌, ◌==◌, nat_lt, nat_eq, Bool, true, false, if◌then◌else◌, List, [], ◌∷◌, ◌++◌, length, get_or, Option, Some, None, refl, sym, ap, ◌∙◌, subst, arith, append_assoc, inl, inr, ◌⊎◌}
use Rattle.std.specs.Prelude.{All, AllPairs}
use Rattle.std.specs.List.{AllAdjacentBelow, starts_with}
use Rattle.std.specs.Option.{option_map, option_or}
use Rattle.std.proofs.lemmas.Bool.Decides.{nat_tests}
use Rattle.std.proofs.lemmas.List.{append-nil, length_push, get_or_append_left, get_or-append_right}
use Rattle.std.proofs.lemmas.List.Elements.{All-push}
use Rattle.std.proofs.lemmas.List.Quantifiers.{all_pairs_push}
use Rattle.std.proofs.lemmas.List.FromFn.{length-map-range_with_len}
use Rattle.agglo_model.specs.Axes.{Axes, AxesFlaw, voxel_count, axes_flaw}
use Rattle.agglo_model.specs.PairOrder.{Threshold, Before, Reaches}
use Rattle.agglo_model.specs.Greedy.{Merge}
use Rattle.agglo_model.specs.MergeTree.{HasNames, HasNumbers, Keeps, AreLawful, tree_magic}
use Rattle.agglo_model.specs.VolumeFile.{header_axes, header_length, body}
use Rattle.agglo_model.specs.TreeFile.{TreeFlaw, BadAxes, header, header_threshold, header_merges, counts_flaw, header_flaw, record_flaw, records_flaw, body_flaw, merges_in, merge_at, record_length}
use Rattle.agglo_model.specs.TreeLaws.{SoundFilesHoldTrees}
use Rattle.agglo_model.proofs.AxesLimits.{within_limits}
use Rattle.agglo_model.proofs.RecordFlaws.{IsSound, sound_record, names_mean, names_keep, numbers_mean, order_means, above_means}

-- all that a lawful list is, but for how many merges there are
pub record AreSound (axes : Axes) (t : Threshold) (merges : List Merge) : Type 0 where
  pub names : All (HasNames axes) merges
  pub alive : AllPairs Keeps merges
  pub numbers : All (λ m. HasNumbers axes m.contact) merges
  pub falling : AllAdjacentBelow (λ m n. Before m.contact n.contact) merges (length merges)
  pub reaching : All (λ m. Reaches t m.contact) merges

none_sound : (axes : Axes) (t : Threshold) → AreSound axes t []
none_sound axes t = record {
  names = λ k d below. absurd (omega arith);
  alive = λ i j d before below. absurd (omega arith);
  numbers = λ k d below. absurd (omega arith);
  falling = λ k d below. absurd (omega arith);
  reaching = λ k d below. absurd (omega arith);
}

falling_more : (earlier : List Merge) (m : Merge)
    → AllAdjacentBelow (λ m n. Before m.contact n.contact) earlier (length earlier)
    → ((k : ℕ) (d : Merge) → k + 1 ≡ length earlier → Before (get_or earlier k d).contact m.contact)
    → AllAdjacentBelow (λ m n. Before m.contact n.contact) (earlier ++ m ∷ []) (length (earlier ++ m ∷ []))
falling_more earlier m falls last = λ k d below.
    let size : length (earlier ++ m ∷ []) ≡ length earlier + 1 = length_push earlier m in
    let here : get_or (earlier ++ m ∷ []) k d ≡ get_or earlier k d = get_or_append_left earlier (m ∷ []) d k (omega arith) in
    elim (inner_or_last k (length earlier) (omega arith)) [
      | inl inner ↦
          subst (λ (e : Merge). Before e.contact (get_or (earlier ++ m ∷ []) (k + 1) d).contact) (sym here)
          (subst (λ (e : Merge). Before (get_or earlier k d).contact e.contact) (sym (get_or_append_left earlier (m ∷ []) d (k + 1) inner)) (falls k d inner))
      | inr end ↦
          subst (λ (e : Merge). Before e.contact (get_or (earlier ++ m ∷ []) (k + 1) d).contact) (sym here)
          (subst (λ (e : Merge). Before (get_or earlier k d).contact e.contact) (sym (at_end k d end)) (last k d end))
    ]
  where
    inner_or_last : (k n : ℕ) → k + 1 < n + 1 → (k + 1 < n) ⊎ (k + 1 ≡ n)
    inner_or_last k n h = grind arith

    at_end : (k : ℕ) (d : Merge) → k + 1 ≡ length earlier → get_or (earlier ++ m ∷ []) (k + 1) d ≡ m
    at_end k d end =
        let first : k + 1 - (k + 1) ≡ 0 = omega arith in
        get_or-append_right earlier (m ∷ []) (k + 1) (k + 1) d (sym end) (omega arith) ∙ ap (λ n. get_or (m ∷ []) n d) first

-- one record more
one_more_sound : (axes : Axes) (t : Threshold) (earlier : List Merge) (m : Merge) → AreSound axes t earlier → IsSound axes t earlier m
    → AreSound axes t (earlier ++ m ∷ [])
one_more_sound axes t earlier m all one = record {
  names = All-push (HasNames axes) earlier m all.names (names_mean axes earlier m one.names);
  alive = all_pairs_push Keeps earlier m all.alive (names_keep axes earlier m one.names);
  numbers = All-push (λ m. HasNumbers axes m.contact) earlier m all.numbers (numbers_mean axes m.contact one.numbers);
  falling = falling_more earlier m all.falling (λ k d last. order_means earlier m k d one.next last);
  reaching = All-push (λ m. Reaches t m.contact) earlier m all.reaching (above_means t m.contact one.above);
}

-- the flaw that comes first, where there is none
pub first_none : {X : Type 0} → (o p : Option X) → option_or o p ≡ None → (o ≡ None) × (p ≡ None)
first_none None p e = (refl, e)
first_none (Some x) p e = absurd (cc)

-- records without a flaw are sound
sound_from : (axes : Axes) (t : Threshold) (earlier merges : List Merge) → AreSound axes t earlier
    → records_flaw axes t earlier merges ≡ None → AreSound axes t (earlier ++ merges)
sound_from axes t earlier [] all e = subst (AreSound axes t) (sym (append-nil earlier)) all
sound_from axes t earlier (m ∷ merges) all e =
    let parts = first_none (record_flaw axes t earlier m) (records_flaw axes t (earlier ++ m ∷ []) merges) e in
    subst (AreSound axes t) (append_assoc earlier (m ∷ []) merges)
    (sound_from axes t (earlier ++ m ∷ []) merges (one_more_sound axes t earlier m all (sound_record axes t earlier m parts.0)) parts.1)

pub lawful_records : (axes : Axes) (t : Threshold) (merges : List Merge) → length merges < voxel_count axes
    → records_flaw axes t [] merges ≡ None → AreLawful axes t merges
lawful_records axes t merges few e =
    let sound = sound_from axes t [] merges (none_sound axes t) e in
    record {
      few = few;
      names = sound.names;
      alive = sound.alive;
      numbers = sound.numbers;
      falling = sound.falling;
      reaching = sound.reaching;
    }

-- a header without a flaw
pub record IsSoundHeader (bytes : List ℕ) : Type 0 where
  pub axes : axes_flaw (header_axes bytes) ≡ None
  pub fraction : 0 < (header_threshold bytes).q
  pub few : header_merges bytes < voxel_count (header_axes bytes)

header_parts : (short text : Bool) (axes : Option AxesFlaw) (counts : Option TreeFlaw) (x y : TreeFlaw)
    → (if short then Some x else (if text then option_or (option_map BadAxes axes) counts else Some y)) ≡ None
    → (axes ≡ None) × (counts ≡ None)
header_parts true text axes counts x y e = absurd (cc)
header_parts false false axes counts x y e = absurd (cc)
header_parts false true (Some flaw) counts x y e = absurd (cc)
header_parts false true None counts x y e = (refl, e)

counts_parts : (zero few : Bool) (x y : TreeFlaw) → (if zero then Some x else (if few then None else Some y)) ≡ None
    → (zero ≡ false) × (few ≡ true)
counts_parts true few x y e = absurd (cc)
counts_parts false false x y e = absurd (cc)
counts_parts false true x y e = (refl, refl)

pub sound_header : (bytes : List ℕ) → header_flaw bytes ≡ None → IsSoundHeader bytes
unfolding header_flaw
sound_header bytes e =
    let parts = header_parts (nat_lt (length bytes) header_length) (starts_with nat_eq bytes tree_magic) (axes_flaw (header_axes bytes)) (counts_flaw bytes) _ _ e in
    let counts = counts_parts ((header_threshold bytes).q == 0) (nat_lt (header_merges bytes) (voxel_count (header_axes bytes))) _ _ parts.1 in
    record {
      axes = parts.0;
      fraction = some (header_threshold bytes).q counts.0;
      few = below (header_merges bytes) (voxel_count (header_axes bytes)) counts.1;
    }
  where
    some : (n : ℕ) → (n == 0) ≡ false → 0 < n
    some n h = grind (arith, nat_tests)

    below : (n m : ℕ) → nat_lt n m ≡ true → n < m
    below n m h = grind (arith, nat_tests)

body_parts : (short long : Bool) (records : Option TreeFlaw) (x y : TreeFlaw) → (if short then Some x else (if long then Some y else records)) ≡ None
    → records ≡ None
body_parts true long records x y e = absurd (cc)
body_parts false true records x y e = absurd (cc)
body_parts false false records x y e = e

pub sound_body : (axes : Axes) (t : Threshold) (n : ℕ) (bytes : List ℕ) → body_flaw axes t n bytes ≡ None
    → records_flaw axes t [] (merges_in n bytes) ≡ None
unfolding body_flaw
sound_body axes t n bytes e =
    body_parts (nat_lt (length bytes) (record_length * n)) (nat_lt (record_length * n) (length bytes)) (records_flaw axes t [] (merges_in n bytes)) _ _ e

pub as_many : (n : ℕ) (bytes : List ℕ) → length (merges_in n bytes) ≡ n
unfolding merges_in
as_many n bytes = length-map-range_with_len (λ i. merge_at (record_length * i) bytes) 0 n

pub sound_tree : SoundFilesHoldTrees
sound_tree bytes e =
    let parts = first_none (header_flaw (header bytes)) _ e in
    let head = sound_header (header bytes) parts.0 in
    let few = as_many (header_merges (header bytes)) (body bytes) in
    record {
      limits = within_limits (header_axes (header bytes)) head.axes;
      fraction = head.fraction;
      lawful = lawful_records (header_axes (header bytes)) (header_threshold (header bytes)) (merges_in (header_merges (header bytes)) (body bytes))
          (subst (λ n. n < voxel_count (header_axes (header bytes))) (sym few) head.few)
          (sound_body (header_axes (header bytes)) (header_threshold (header bytes)) (header_merges (header bytes)) (body bytes) parts.1);
    }
