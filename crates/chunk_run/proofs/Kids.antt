-- The residues of a node's children are among those that wait.
use Rattle.std.proofs.Common.{◌≡◌, ◌≢◌, inl, inr, ℕ, ◌+◌, ◌<◌, ◌≤◌, ◌==◌, Bool, true, false, cond, List, Option, Some, None, refl, sym, ap, ◌∙◌, subst, eqb-true, arith}
use Rattle.std.proofs.lemmas.Bool.{cases_lt}
use Rattle.std.proofs.lemmas.Option.{same_Some}
use Rattle.agglo_model.specs.Greedy.{Merge}
use Rattle.agglo_model.specs.Cutting.{Chunking, IsChunking, node_count, root, level_of, parent, child, child_count}
use Rattle.agglo_model.specs.Work.{labels_after}
use Rattle.agglo_model.specs.RegionGraph.{RegionGraph, IsResidue, residue_of}
use Rattle.agglo_model.specs.JoiningLaws.{AreKids}
use Rattle.agglo_model.specs.Report.{Level}
use Rattle.agglo_model.proofs.NodeNesting.{IsParent, level_of_le}
use Rattle.region_graph.specs.SiteView.{SiteView}
use Rattle.work_laws.proofs.Children.{is_inner, child_below, child_level, child_parent, child_before}
use Rattle.chunk_run.specs.Turns.{AreFromChildren, AreThere, AreTaken, HasWorked}
use Rattle.chunk_run.specs.Lanes.{AreChildResidues}

-- a node with a parent
some_parent : (b : Bool) (n p : ℕ) → b ≢ true → n ≡ p → cond b None (Some n) ≡ Some p
some_parent true n p other is = absurd (other refl)
some_parent false n p other is = ap Some is

pub parent_from : (c : Chunking) (n p : ℕ) → IsParent c n p → parent c n ≡ Some p
parent_from c n p is =
    some_parent (n == root c) _ p (λ same. is.not_root (eqb-true n (root c) same)) is.above

-- the children of a node come before it, and have it as their parent
pub child_family : (c : Chunking) → IsChunking c → (m : ℕ) → m < node_count c → (i : ℕ) → i < child_count c m
    → (child c m i < m) × (parent c (child c m i) ≡ Some m)
child_family c h m node i below =
    let inner = is_inner c m (omega arith) in
    (child_before c h m node inner i below, parent_from c (child c m i) m (child_parent c h m node inner i below))

same_graph : (waiting : Option RegionGraph) (x y : RegionGraph) → waiting ≡ Some x → waiting ≡ Some y → x ≡ y
same_graph waiting x y is also = cc

-- the residues that the run has left are the children's
pub kids_are : (s : SiteView) (m p : ℕ) (waiting : List (Option RegionGraph)) (merges : List Merge) (levels : List Level)
    (so_far : HasWorked s m p waiting merges levels) (n : ℕ) (kids : List RegionGraph) → AreChildResidues s.cutting so_far.residues n kids
    → AreKids s.grid s.threshold s.cutting s.labels so_far.works n kids
kids_are s m p waiting merges levels so_far n kids left = record {
  one_each = left.one_each;
  residues = λ i below.
      let own = child s.cutting n i in
      subst (IsResidue s.grid s.threshold s.cutting own (labels_after s.labels so_far.works own)) (sym (left.are i below))
      (so_far.residues_are own (omega (arith, left.before i below, so_far.one_residue_each)));
}

pub from_children : (s : SiteView) (m p : ℕ) (waiting : List (Option RegionGraph)) (merges : List Merge) (levels : List Level)
    (so_far : HasWorked s m p waiting merges levels) (n : ℕ) (kids : List RegionGraph) → AreChildResidues s.cutting so_far.residues n kids
    → AreFromChildren s n kids
from_children s m p waiting merges levels so_far n kids left = record {
  one_each = left.one_each;
  residues = λ i below. (
    labels_after s.labels so_far.works (child s.cutting n i),
    (kids_are s m p waiting merges levels so_far n kids left).residues i below,
  );
}

module _ (s : SiteView) (h : IsChunking s.cutting) (first n : ℕ) (node : n < node_count s.cutting) (from : first ≤ n)
    (level : level_of s.cutting first ≡ level_of s.cutting n) where
  -- the children of the nodes of a level come before the level
  pub child_first : (i : ℕ) → i < child_count s.cutting n → child s.cutting n i < first
  child_first i below = elim (cases_lt (child s.cutting n i) first) [
    | inl before ↦ before
    | inr past ↦
        let inner = is_inner s.cutting n (omega arith) in
        absurd (omega (
          arith,
          inner,
          level,
          child_level s.cutting h n node inner i below,
          level_of_le s.cutting first (child s.cutting n i) past (child_below s.cutting h n node inner i below),
        ))
  ]

  module _ (waiting : List (Option RegionGraph)) (merges : List Merge) (levels : List Level)
      (so_far : HasWorked s first n waiting merges levels) where
    -- all children wait
    pub kids_there : AreThere s.cutting n waiting
    kids_there i below =
        let own = child s.cutting n i in (
          residue_of so_far.residues own,
          so_far.waiting_are own n (child_first i below) (child_family s.cutting h n node i below).1 (omega arith),
        )

    module _ (after : List (Option RegionGraph)) (kids : List RegionGraph)
        (taken : AreTaken s.cutting n (child_count s.cutting n) waiting after kids) where
      -- so those that were taken are the children's residues
      pub are_left : AreChildResidues s.cutting so_far.residues n kids
      are_left = record {
        one_each = taken.one_each;
        before = λ i below. omega (arith, child_first i below, so_far.one_residue_each);
        are = λ i below.
            let own = child s.cutting n i in
            same_graph _ (residue_of kids i) (residue_of so_far.residues own) (taken.taken i below None)
            (so_far.waiting_are own n (child_first i below) (child_family s.cutting h n node i below).1 (omega arith) None);
      }

      -- a node whose parent comes later is no child of node n
      pub no_child : (m q : ℕ) → parent s.cutting m ≡ Some q → n + 1 ≤ q → (i : ℕ) → i < child_count s.cutting n
          → m ≢ child s.cutting n i
      no_child m q above later i below same =
          let one = same_Some q n (sym above ∙ ap (parent s.cutting) same ∙ (child_family s.cutting h n node i below).1) in
          omega (arith, one, later)

      -- and all others still wait
      abbrev pub worked_still : HasWorked s first (n + 1) after merges levels
      worked_still = record {
        works = so_far.works;
        works_on = so_far.works_on;
        worked = so_far.worked;
        merges_are = so_far.merges_are;
        residues = so_far.residues;
        one_residue_each = so_far.one_residue_each;
        residues_are = so_far.residues_are;
        one_place_each = taken.same_length ∙ so_far.one_place_each;
        waiting_are = λ m q below above later d.
            taken.others m d (no_child m q above later) ∙ so_far.waiting_are m q below above (omega arith) d;
        one_level_each = so_far.one_level_each;
        counted = so_far.counted;
      }
