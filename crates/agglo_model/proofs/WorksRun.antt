-- The works of all nodes are a run of reciprocal merges: in the root no name is frozen, so its work leaves no
-- reciprocal pair.
use Rattle.std.proofs.Common.{◌≡◌, ℕ, suc, ◌+◌, ◌<◌, List, [], ◌∷◌, ◌++◌, length, sym, ap, ◌∙◌, subst, arith}
use Rattle.std.proofs.lemmas.List.{take_all}
use Rattle.std.proofs.lemmas.Grind.{fold-append}
use Rattle.agglo_model.specs.Axes.{voxel_count}
use Rattle.agglo_model.specs.Basins.{label_of}
use Rattle.agglo_model.specs.Grid.{Grid}
use Rattle.agglo_model.specs.PairOrder.{Threshold}
use Rattle.agglo_model.specs.Greedy.{Merge, IsMutual, IsMutualRun, after_merge, after_merges}
use Rattle.agglo_model.specs.Cutting.{Chunking, IsChunking, node_count, root}
use Rattle.agglo_model.specs.Work.{IsFree, IsReciprocal, IsWork, AreWorksFrom, all_merges, work_of, labels_before, labels_after}
use Rattle.agglo_model.specs.NodeLaws.{RootHasAllPairs, WorksAreRun, WorksAreGreedy}
use Rattle.agglo_model.proofs.Paths.{neighbours_swap}
use Rattle.agglo_model.proofs.CloseVoxels.{neighbour_below}
use Rattle.agglo_model.proofs.ConnectedMerges.{bridge}
use Rattle.agglo_model.proofs.Freezing.{occurs_at, part_from}
use Rattle.agglo_model.proofs.MutualRuns.{any_order}
use Rattle.agglo_model.proofs.RootCell.{root_last, root_holds, root_no_face}
use Rattle.agglo_model.proofs.Works.{work_at, after-is}

-- a work before a run
work_then : (g : Grid) (t : Threshold) (c : Chunking) (m : ℕ) (labels : List ℕ) (work rest : List Merge)
    → IsWork g t c m labels work → IsMutualRun g t (after_merges labels work) rest → IsMutualRun g t labels (work ++ rest)
work_then g t c m labels [] rest work run = run
work_then g t c m labels (step ∷ steps) rest work run = (
  record { reciprocal = work.0.reciprocal.pair; contact_is = work.0.contact_is },
  work_then g t c m (after_merge labels step) steps rest work.1 run,
)

-- works one after another, when no reciprocal pair is left
works_then : (g : Grid) (t : Threshold) (c : Chunking) (n : ℕ) (labels last : List ℕ) (works : List (List Merge))
    → AreWorksFrom g t c n labels works → after_merges labels (all_merges works) ≡ last
    → ((a b : ℕ) → ¬ (IsMutual g t last a b)) → IsMutualRun g t labels (all_merges works)
works_then g t c n labels last [] are at_end none =
    subst (λ l. (a b : ℕ) → ¬ (IsMutual g t l a b)) (sym at_end) none
works_then g t c n labels last (work ∷ works) are at_end none =
    work_then g t c n labels work (all_merges works) are.0
    (works_then g t c (suc n) (after_merges labels work) last works are.1
    (sym (fold-append after_merge labels work (all_merges works)) ∙ at_end) none)

-- a work ends where its node has no reciprocal pair
pub work_ends : (g : Grid) (t : Threshold) (c : Chunking) (m : ℕ) (labels : List ℕ) (work : List Merge)
    → IsWork g t c m labels work → (a b : ℕ) → ¬ (IsReciprocal g t c m (after_merges labels work) a b)
work_ends g t c m labels [] work a b = work a b
work_ends g t c m labels (step ∷ steps) work a b = work_ends g t c m (after_merge labels step) steps work.1 a b

-- a name that some voxel has is free in the root
free_in_root : (c : Chunking) → IsChunking c → (labels : List ℕ) (x v : ℕ) → v < voxel_count c.axes
    → label_of labels v ≡ x → IsFree c (root c) labels x
free_in_root c h labels x v below name = record {
  occurs = (occurs_at c (root c) labels x).1 (v, part_from c (root c) labels x v (root_holds c h v below) name);
  unfrozen = λ frozen. root_no_face c h frozen.voxel frozen.at_face;
}

-- so a reciprocal pair is one of the root
pub reciprocal_in_root : RootHasAllPairs
reciprocal_in_root g t c h axes labels a b pair =
    let over = bridge g labels a b pair.touching in
    let from : over.from < voxel_count c.axes = subst (λ z. over.from < voxel_count z) (sym axes)
    (neighbour_below g.axes over.to over.from (neighbours_swap g.axes over.from over.to over.near)) in
    let to : over.to < voxel_count c.axes = subst (λ z. over.to < voxel_count z) (sym axes)
    (neighbour_below g.axes over.from over.to over.near) in
    record {
      pair = pair;
      a_free = free_in_root c h labels a over.from from over.from_is;
      b_free = free_in_root c h labels b over.to to over.to_is;
    }

-- the labels after the work of the root are those after all works
root_is_last : (c : Chunking) → IsChunking c → (labels : List ℕ) (works : List (List Merge)) → length works ≡ node_count c
    → after_merges labels (all_merges works) ≡ labels_after labels works (root c)
root_is_last c h labels works len =
    ap (λ w. after_merges labels (all_merges w)) (sym (take_all (root c + 1) works (omega (arith, root_last c h))))

pub works_are_run : WorksAreRun
works_are_run g t c labels works on len =
    let h = on.cutting in
    let last = labels_after labels works (root c) in
    let worked : root c < length works = omega (arith, root_last c h) in
    let at_end = root_is_last c h labels works len in
    let is_last = after-is g t c labels works on (root c) worked in
    let none : (a b : ℕ) → ¬ (IsMutual g t last a b) = λ a b pair.
    work_ends g t c (root c) (labels_before labels works (root c)) (work_of works (root c))
    (work_at g t c labels works on.works_are (root c) worked) a b
    (subst (λ l. IsReciprocal g t c (root c) l a b) is_last
    (reciprocal_in_root g t c h on.axes last a b pair)) in
    works_then g t c 0 labels last works on.works_are.worked at_end none

pub works_are_greedy : WorksAreGreedy
works_are_greedy g t c labels works greedy on len run =
    let same = any_order g t labels (all_merges works) greedy (works_are_run g t c labels works on len) run in
    (same, sym (root_is_last c on.cutting labels works len) ∙ same.same_labels)
