-- A run before its first node.
use Rattle.std.proofs.Common.{◌≡◌, ℕ, ◌+◌, ◌-◌, min, List, [], length, get_or, replicate, refl, sum_by, ap, ◌∙◌, sym, arith}
use Rattle.std.specs.List.{range_with_len}
use Rattle.std.proofs.lemmas.List.{get_or-replicate, length-replicate}
use Rattle.agglo_model.specs.Greedy.{Merge}
use Rattle.agglo_model.specs.Cutting.{Chunking, cells_at, first_node, last_level}
use Rattle.agglo_model.specs.Work.{work_of}
use Rattle.agglo_model.specs.RegionGraph.{RegionGraph, residue_of}
use Rattle.agglo_model.specs.Report.{Level}
use Rattle.region_graph.specs.SiteView.{SiteView, IsSite}
use Rattle.chunk_run.specs.Turns.{HasWorked, count_among, no_node}

-- no node is among the first none
nothing_counted : (c : Chunking) (works : List (List Merge)) (residues : List RegionGraph) (k : ℕ)
    → count_among c works residues 0 k ≡ no_node
nothing_counted c works residues k =
    let none : min (0 - first_node c k) (cells_at c k) ≡ 0 = omega arith in
    λ i. record {
      nodes = none i;
      merges = sum_by (λ n. length (work_of works n)) (range_with_len (first_node c k) (none i));
      passed = sum_by (λ n. length (residue_of residues n).regions) (range_with_len (first_node c k) (none i));
    }

pub start_of_run : (s : SiteView) → IsSite s → (levels : List Level) → levels ≡ replicate (last_level s.cutting + 1) no_node
    → HasWorked s 0 0 [] [] levels
start_of_run s site levels are = record {
  works = [];
  works_on = record {
    cutting = site.chunking;
    axes = site.same_axes;
    connected = site.connected;
    works_are = record { few = omega arith; worked = tt };
  };
  worked = refl;
  merges_are = refl;
  residues = [];
  one_residue_each = refl;
  residues_are = λ n below. absurd (omega arith);
  one_place_each = refl;
  waiting_are = λ n q below above later. absurd (omega arith);
  one_level_each = ap length are ∙ length-replicate (last_level s.cutting + 1) no_node;
  counted = λ k d reached.
      ap (λ l. get_or l k d) are
      ∙ get_or-replicate (last_level s.cutting + 1) k no_node d (omega arith)
      ∙ sym (nothing_counted s.cutting [] [] k);
}
