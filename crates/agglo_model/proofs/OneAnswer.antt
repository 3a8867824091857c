-- The answer of a segmentation is the same by every cutting.
use Rattle.std.proofs.Common.{List, ℕ, length, sym, ap, ◌∙◌, subst}
use Rattle.agglo_model.specs.Basins.{names}
use Rattle.agglo_model.specs.Greedy.{IsGreedyRun, after_merges}
use Rattle.agglo_model.specs.SegmentationLaws.{CuttingsAgree}
use Rattle.agglo_model.proofs.BasinLabels.{same_basins}
use Rattle.agglo_model.proofs.SortedMerges.{one_greedy_run}

pub cuttings_agree : CuttingsAgree
cuttings_agree g low t c d labels others basins count merges steps levels rows one other =
    let start = same_basins g low other.start one.start other.basins_are one.basins_are in
    let runs = one_greedy_run g t one.start merges steps one.greedy
    (subst (λ (l : List ℕ). IsGreedyRun g t l steps) start other.greedy) in
    let last = runs.1 ∙ ap (λ (l : List ℕ). after_merges l steps) (sym start) in (
      one.labels_are ∙ (last ∙ sym other.labels_are),
      one.basins_count ∙ (ap (λ (l : List ℕ). length (names l)) (sym start) ∙ sym other.basins_count),
      runs.0,
    )
