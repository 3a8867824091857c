-- A run goes on by one node.
use Rattle.std.proofs.Common.{◌≡◌, ◌≢◌, ◌⊎◌, inl, inr, ℕ, ◌+◌, ◌<◌, ◌≤◌, List, [], ◌∷◌, ◌++◌, length, get_or, set, Option, Some, sym, ap, ◌∙◌, subst, arith}
use Rattle.std.proofs.Math.Seq.{get_or-append_seam}
use Rattle.std.proofs.lemmas.Bool.{cases_eq}
use Rattle.std.proofs.lemmas.Grind.{flat_map-append}
use Rattle.std.proofs.lemmas.List.{append-nil, get_or_append_left, get_or-set_same, get_or-set_other, length-append, length-set}
use Rattle.agglo_model.specs.Greedy.{Merge}
use Rattle.agglo_model.specs.Cutting.{IsChunking, last_level, node_count, level_of, parent}
use Rattle.agglo_model.specs.Work.{all_merges, labels_after}
use Rattle.agglo_model.specs.RegionGraph.{RegionGraph, IsResidue, residue_of}
use Rattle.agglo_model.specs.Report.{Level}
use Rattle.agglo_model.proofs.Levels.{on_level}
use Rattle.agglo_model.proofs.Cases.{below_next}
use Rattle.region_graph.specs.SiteView.{SiteView}
use Rattle.work_laws.specs.Turns.{IsTurn, ResiduesStay}
use Rattle.chunk_run.specs.Turns.{Waits, HasWorked, count_among, level_at, no_node, with_node}
use Rattle.chunk_run.proofs.LevelCounts.{residue_stays, residue_added, own_level, other_level}

-- the merges of one more work
pub merges_more : (works : List (List Merge)) (made : List Merge) → all_merges (works ++ made ∷ []) ≡ all_merges works ++ made
merges_more works made =
    flat_map-append (λ (work : List Merge). work) works (made ∷ []) ∙ ap (λ l. all_merges works ++ l) (append-nil made)

module _ (stay : ResiduesStay) (s : SiteView) (h : IsChunking s.cutting) (m : ℕ) (node : m < node_count s.cutting)
    (p : ℕ) (after : List (Option RegionGraph)) (merges : List Merge) (levels : List Level)
    (so_far : HasWorked s m p after merges levels) (made : List Merge) (left : RegionGraph)
    (turn : IsTurn s.grid s.threshold s.cutting s.labels so_far.works m made left) where
  pub residue_at : (n : ℕ) → (n < m) ⊎ (n ≡ m)
      → IsResidue s.grid s.threshold s.cutting n (labels_after s.labels (so_far.works ++ made ∷ []) n)
      (residue_of (so_far.residues ++ left ∷ []) n)
  residue_at n (inl less) =
      subst (IsResidue s.grid s.threshold s.cutting n (labels_after s.labels (so_far.works ++ made ∷ []) n))
      (sym (residue_stays s.cutting so_far.works so_far.residues made left m so_far.worked so_far.one_residue_each n less))
      (stay s.grid s.threshold s.cutting s.labels so_far.works (made ∷ []) n (residue_of so_far.residues n)
      (omega (arith, so_far.worked)) (so_far.residues_are n less))
  residue_at n (inr same) =
      subst (λ k. IsResidue s.grid s.threshold s.cutting k (labels_after s.labels (so_far.works ++ made ∷ []) k)
      (residue_of (so_far.residues ++ left ∷ []) k)) (sym same)
      (subst (IsResidue s.grid s.threshold s.cutting m (labels_after s.labels (so_far.works ++ made ∷ []) m))
      (sym (residue_added s.cutting so_far.works so_far.residues made left m so_far.worked so_far.one_residue_each)) turn.residue)

  pub waits_at : (n q : ℕ) → (n < m) ⊎ (n ≡ m) → parent s.cutting n ≡ Some q → p ≤ q
      → Waits (after ++ Some left ∷ []) n (residue_of (so_far.residues ++ left ∷ []) n)
  waits_at n q (inl less) above later d =
      get_or_append_left after (Some left ∷ []) d n (omega (arith, so_far.one_place_each))
      ∙ so_far.waiting_are n q less above later d
      ∙ ap Some (sym (residue_stays s.cutting so_far.works so_far.residues made left m so_far.worked so_far.one_residue_each n less))
  waits_at n q (inr same) above later d =
      let place : n ≡ length after = omega (arith, so_far.one_place_each) in
      ap (λ k. get_or (after ++ Some left ∷ []) k d) place
      ∙ get_or-append_seam after (Some left) [] d
      ∙ ap Some (sym (residue_added s.cutting so_far.works so_far.residues made left m so_far.worked so_far.one_residue_each))
      ∙ ap (λ k. Some (residue_of (so_far.residues ++ left ∷ []) k)) (sym same)

  pub counts_at : (k : ℕ) (d : Level) → k ≤ last_level s.cutting → (level_of s.cutting m ≡ k) ⊎ (level_of s.cutting m ≢ k)
      → get_or (set levels (level_of s.cutting m)
      (with_node (level_at levels (level_of s.cutting m)) (length made) (length left.regions))) k d
      ≡ count_among s.cutting (so_far.works ++ made ∷ []) (so_far.residues ++ left ∷ []) (m + 1) k
  counts_at k d reached (inl same) =
      let own = level_of s.cutting m in
      let inside : own < length levels = omega (arith, so_far.one_level_each, (on_level s.cutting m node).reached) in
      ap (λ j. get_or (set levels own (with_node (level_at levels own) (length made) (length left.regions))) j d) (sym same)
      ∙ get_or-set_same levels own (with_node (level_at levels own) (length made) (length left.regions)) d inside
      ∙ ap (λ l. with_node l (length made) (length left.regions)) (so_far.counted own no_node (on_level s.cutting m node).reached)
      ∙ sym (own_level s.cutting so_far.works so_far.residues made left m so_far.worked so_far.one_residue_each own (on_level s.cutting m node))
      ∙ ap (count_among s.cutting (so_far.works ++ made ∷ []) (so_far.residues ++ left ∷ []) (m + 1)) same
  counts_at k d reached (inr apart) =
      let own = level_of s.cutting m in
      get_or-set_other levels own k (with_node (level_at levels own) (length made) (length left.regions)) d (λ same. apart (sym same))
      ∙ so_far.counted k d reached
      ∙ sym (other_level s.cutting so_far.works so_far.residues made left m so_far.worked so_far.one_residue_each own k
      (on_level s.cutting m node) apart)

  abbrev pub goes_on : HasWorked s (m + 1) p (after ++ Some left ∷ []) (merges ++ made)
      (set levels (level_of s.cutting m) (with_node (level_at levels (level_of s.cutting m)) (length made) (length left.regions)))
  goes_on = record {
    works = so_far.works ++ made ∷ [];
    works_on = turn.works_on;
    worked = omega (arith, length-append so_far.works (made ∷ []), so_far.worked);
    merges_are = ap (λ l. l ++ made) so_far.merges_are ∙ sym (merges_more so_far.works made);
    residues = so_far.residues ++ left ∷ [];
    one_residue_each = omega (arith, length-append so_far.residues (left ∷ []), so_far.one_residue_each);
    residues_are = λ n below. residue_at n (below_next n m below);
    one_place_each = omega (arith, length-append after (Some left ∷ []), so_far.one_place_each);
    waiting_are = λ n q below above later. waits_at n q (below_next n m below) above later;
    one_level_each =
        length-set levels (level_of s.cutting m) (with_node (level_at levels (level_of s.cutting m)) (length made) (length left.regions))
        ∙ so_far.one_level_each;
    counted = λ k d reached. counts_at k d reached (cases_eq (level_of s.cutting m) k);
  }
