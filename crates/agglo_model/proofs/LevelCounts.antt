-- What a level counts is the same by every work of its nodes.
use Rattle.std.proofs.Common.{◌≡◌, inl, inr, ℕ, zero, suc, ◌+◌, ◌<◌, List, [], ◌∷◌, length, take, sum_by, refl, sym, ap, ◌∙◌, subst, arith}
use Rattle.std.proofs.lemmas.Bool.{cases_lt}
use Rattle.std.proofs.lemmas.Grind.{fold-append}
use Rattle.std.proofs.lemmas.List.{ext_get_or, get_or_past}
use Rattle.std.proofs.lemmas.List.Sorted.{length_permutation}
use Rattle.agglo_model.specs.Grid.{Grid}
use Rattle.agglo_model.specs.PairOrder.{Threshold}
use Rattle.agglo_model.specs.Greedy.{Merge, after_merge, after_merges}
use Rattle.agglo_model.specs.Cutting.{Chunking, node_count}
use Rattle.agglo_model.specs.Work.{AreWorksFrom, IsPassed, all_merges, work_of, labels_before, labels_after}
use Rattle.agglo_model.specs.RegionGraph.{Region, RegionGraph, IsGraphOfNames, IsResidue, residue_of}
use Rattle.agglo_model.specs.Report.{Level}
use Rattle.agglo_model.specs.Segmentation.{AreLevels, level_count, nodes_of}
use Rattle.agglo_model.specs.SegmentationLaws.{LevelsAgree}
use Rattle.agglo_model.proofs.NodeRuns.{works_agree}
use Rattle.agglo_model.proofs.OneOrder.{one_order}

-- the labels before each work are the same, and so is the number of its merges
record CountAlike (labels : List ℕ) (works others : List (List Merge)) (m : ℕ) : Type 0 where
  before : labels_before labels works m ≡ labels_before labels others m
  merges : length (work_of works m) ≡ length (work_of others m)

-- a work before others
labels_later : (labels : List ℕ) (work : List Merge) (works : List (List Merge)) (m : ℕ)
    → labels_before labels (work ∷ works) (suc m) ≡ labels_before (after_merges labels work) works m
labels_later labels work works m = fold-append after_merge labels work (all_merges (take m works))

count_alike : (g : Grid) (t : Threshold) (c : Chunking) (n : ℕ) (labels : List ℕ) (works others : List (List Merge))
    → AreWorksFrom g t c n labels works → AreWorksFrom g t c n labels others → length works ≡ length others
    → (m : ℕ) → CountAlike labels works others m
count_alike g t c n labels [] [] are also len m = record { before = refl; merges = refl }
count_alike g t c n labels [] (other ∷ others) are also len m = absurd (omega (arith, len))
count_alike g t c n labels (work ∷ works) [] are also len m = absurd (omega (arith, len))
count_alike g t c n labels (work ∷ works) (other ∷ others) are also len zero =
    let same = works_agree g t c n labels work other are.0 also.0 in
    record { before = refl; merges = omega (arith, length_permutation work other same.same_merges) }
count_alike g t c n labels (work ∷ works) (other ∷ others) are also len (suc m) =
    let same = (works_agree g t c n labels work other are.0 also.0).same_labels in
    let later = count_alike g t c (suc n) (after_merges labels work) works others are.1
    (subst (λ (l : List ℕ). AreWorksFrom g t c (suc n) l others) (sym same) also.1) (omega (arith, len)) m in
    record {
      before = labels_later labels work works m
          ∙ (later.before ∙ (ap (λ (l : List ℕ). labels_before l others m) same ∙ sym (labels_later labels other others m)));
      merges = later.merges;
    }

-- two graphs of the same names list the same regions
one_regions : (Keeps : ℕ → Type 0) (g : Grid) (c : Chunking) (m : ℕ) (labels : List ℕ) (graph other : RegionGraph)
    → IsGraphOfNames Keeps g c m labels graph → IsGraphOfNames Keeps g c m labels other → graph.regions ≡ other.regions
one_regions Keeps g c m labels graph other is also =
    one_order (λ (r s : Region). r.name < s.name) (λ r s less more. omega (arith, less, more)) graph.regions other.regions
    is.graph_is.regions_ascend also.graph_is.regions_ascend
    (λ r inside. (also.regions r).1 ((is.regions r).0 inside))
    (λ r inside. (is.regions r).1 ((also.regions r).0 inside))

module _ (g : Grid) (t : Threshold) (c : Chunking) (labels : List ℕ) (levels others : List Level)
    (is : AreLevels g t c labels levels) (also : AreLevels g t c labels others) where
  alike : (m : ℕ) → CountAlike labels is.works also.works m
  alike m = count_alike g t c 0 labels is.works also.works is.works_are.worked also.works_are.worked
      (is.works_are.one_each ∙ sym also.works_are.one_each) m

  passed_alike : (m : ℕ) → length (residue_of is.residues m).regions ≡ length (residue_of also.residues m).regions
  passed_alike m = elim (cases_lt m (node_count c)) [
    | inl below ↦
        let there = subst (λ (l : List ℕ). IsResidue g t c m l (residue_of also.residues m)) (sym (alike (m + 1)).before)
        (also.residues_are.residues_are m below) in
        ap length (one_regions (IsPassed g t c m (labels_after labels is.works m)) g c m (labels_after labels is.works m) (residue_of is.residues m) (residue_of also.residues m)
        (is.residues_are.residues_are m below) there)
    | inr past ↦
        let none : RegionGraph = record { regions = []; edges = [] } in
        let one = get_or_past is.residues m none (omega (arith, is.residues_are.one_each)) in
        let other = get_or_past also.residues m none (omega (arith, also.residues_are.one_each)) in
        ap (λ (r : RegionGraph). length r.regions) (one ∙ sym other)
  ]

  count_is : (k : ℕ) → level_count c is.works is.residues k ≡ level_count c also.works also.residues k
  count_is k = λ i. record {
    nodes = (level_count c is.works is.residues k).nodes;
    merges = sum_by (λ m. (alike m).merges i) (nodes_of c k);
    passed = sum_by (λ m. passed_alike m i) (nodes_of c k);
  }

pub levels_agree : LevelsAgree
levels_agree g t c labels levels others is also =
    let none : Level = record { nodes = 0; merges = 0; passed = 0 } in
    ext_get_or none levels others (is.one_each ∙ sym also.one_each) (λ k below.
    is.counted k none (omega (arith, is.one_each, below))
    ∙ (count_is g t c labels levels others is also k ∙ sym (also.counted k none (omega (arith, is.one_each, below)))))
