-- Settling the graphs of the nodes one after another adds their works, and leaves their residues.
use Rattle.std.proofs.Common.{◌≡◌, ℕ, suc, ◌+◌, ◌<◌, ◌≤◌, true, IsTrue, List, [], ◌∷◌, ◌++◌, length, get_or, refl, sym, ap, ◌∙◌, subst, arith}
use Rattle.std.proofs.Math.Seq.{get_or-append_seam}
use Rattle.std.proofs.lemmas.List.{take_all, take-append-le, length-append}
use Rattle.std.proofs.lemmas.Grind.{fold-append}
use Rattle.agglo_model.specs.Grid.{Grid}
use Rattle.agglo_model.specs.PairOrder.{Threshold}
use Rattle.agglo_model.specs.Greedy.{Merge, after_merge, after_merges}
use Rattle.agglo_model.specs.Cutting.{Chunking, node_count}
use Rattle.agglo_model.specs.Work.{IsWork, AreWorksFrom, all_merges, work_of, labels_before, labels_after}
use Rattle.agglo_model.specs.NodeLaws.{AreWorksOn}
use Rattle.agglo_model.specs.RegionGraph.{RegionGraph, IsCellGraph, IsResidue}
use Rattle.agglo_model.specs.Joining.{is_named, kept_regions}
use Rattle.agglo_model.specs.JoiningLaws.{StartsNode}
use Rattle.agglo_model.proofs.Works.{labels_after-is, connected_before}
use Rattle.agglo_model.proofs.WaitingCells.{leaf_below}
use Rattle.work_laws.specs.SettlingLaws.{IsWorkOf}
use Rattle.work_laws.specs.Turns.{IsTurn, NodesTakeTurns, LeavesTakeTurns, ParentsTakeTurns, ResiduesStay}
use Rattle.work_laws.proofs.SettledNodes.{settling_is_work}
use Rattle.work_laws.proofs.LeafGraphs.{leaves_start}
use Rattle.work_laws.proofs.JoinedGraphs.{joined_start}

-- the works from node n on, and one more
one_more : (g : Grid) (t : Threshold) (c : Chunking) (n : ℕ) (labels : List ℕ) (works : List (List Merge)) (merges : List Merge)
    → AreWorksFrom g t c n labels works → IsWork g t c (n + length works) (after_merges labels (all_merges works)) merges
    → AreWorksFrom g t c n labels (works ++ merges ∷ [])
one_more g t c n labels [] merges are next =
    let here : n + 0 ≡ n = omega arith in
    (subst (λ k. IsWork g t c k labels merges) here next, tt)
one_more g t c n labels (work ∷ works) merges are next =
    let node : n + suc (length works) ≡ suc n + length works = omega arith in
    let from = fold-append after_merge labels work (all_merges works) in (
      are.0,
      one_more g t c (suc n) (after_merges labels work) works merges are.1
          (subst (λ l. IsWork g t c (suc n + length works) l merges) from
          (subst (λ k. IsWork g t c k (after_merges labels (all_merges (work ∷ works))) merges) node next)),
    )

-- the labels before a node are those by the works before it
before_alike : (labels : List ℕ) (works more : List (List Merge)) (m : ℕ) → m ≤ length works
    → labels_before labels (works ++ more) m ≡ labels_before labels works m
before_alike labels works more m le = ap (λ w. after_merges labels (all_merges w)) (take-append-le m works more le)

module _ (g : Grid) (t : Threshold) (c : Chunking) (labels : List ℕ) (works : List (List Merge))
    (on : AreWorksOn g t c labels works) (m : ℕ) (worked : length works ≡ m) (node : m < node_count c)
    (merges : List Merge) (left : RegionGraph) where
  start_is : labels_before labels works m ≡ after_merges labels (all_merges works)
  start_is = ap (λ w. after_merges labels (all_merges w)) (take_all m works (omega arith))

  last_is : labels_after labels (works ++ merges ∷ []) m ≡ after_merges (labels_before labels works m) merges
  last_is =
      let len = length-append works (merges ∷ []) in
      let before = before_alike labels works (merges ∷ []) m (omega arith) in
      let own : work_of (works ++ merges ∷ []) m ≡ merges =
      ap (λ k. get_or (works ++ merges ∷ []) k []) (sym worked) ∙ get_or-append_seam works merges [] [] in
      labels_after-is labels (works ++ merges ∷ []) m (omega arith)
      ∙ (λ i. after_merges (before i) (own i))

  -- a node's work and residue make its turn
  turn : IsWorkOf g t c m (labels_before labels works m) merges left → IsTurn g t c labels works m merges left
  turn done =
      let len = length-append works (merges ∷ []) in
      let here : m ≡ 0 + length works = omega arith in
      record {
        works_on = record {
          cutting = on.cutting;
          axes = on.axes;
          connected = on.connected;
          works_are = record {
            few = omega arith;
            worked = one_more g t c 0 labels works merges on.works_are.worked
                (subst (λ k. IsWork g t c k (after_merges labels (all_merges works)) merges) here
                (subst (λ l. IsWork g t c m l merges) start_is done.work));
          };
        };
        residue = subst (λ l. IsResidue g t c m l left) (sym last_is) done.residue;
      }

pub nodes_take_turns : NodesTakeTurns
nodes_take_turns keeps g t c labels works on m worked node graph starts merges left settles =
    turn g t c labels works on m worked node merges left
    (settling_is_work keeps g t c m (labels_before labels works m) graph merges left (record {
      place = record {
        cutting = on.cutting;
        axes = on.axes;
        node = node;
        connected = connected_before g t c labels works on m (omega arith);
      };
      graph_is = starts.graph_is;
      frozen_kept = starts.frozen;
      others_stuck = λ x y some occurs unkept touching. starts.others x some occurs unkept y touching;
    }) settles)

-- all names are kept
all_kept : (g : Grid) (t : Threshold) (c : Chunking) (m : ℕ) (labels : List ℕ) (graph : RegionGraph)
    → IsCellGraph g c m labels graph → StartsNode (λ _. IsTrue true) g t c m labels graph
all_kept g t c m labels graph is = record {
  graph_is = record {
    graph_is = is.graph_is;
    regions = λ r. (
      (λ inside. let was = (is.regions r).0 inside in (was.0, was.1, refl, was.3)),
      (λ now. (is.regions r).1 (now.0, now.1, tt, now.3)),
    );
    edges = λ e. (
      (λ inside. let was = (is.edges e).0 inside in (was.0, refl, refl, was.3, was.4)),
      (λ now. (is.edges e).1 (now.0, tt, tt, now.3, now.4)),
    );
  };
  frozen = λ x some frozen. refl;
  others = λ x some occurs unkept. absurd (unkept refl);
}

pub leaves_take_turns : LeavesTakeTurns
leaves_take_turns g t c labels works on m worked leaf graph is merges left settles =
    nodes_take_turns (λ _. true) g t c labels works on m worked (leaf_below c m leaf) graph
    (all_kept g t c m (labels_before labels works m) graph (leaves_start g t c labels works on m worked leaf graph is))
    merges left settles

pub parents_take_turns : ParentsTakeTurns
parents_take_turns g t c labels works on m worked node some kids are_kids graph joined merges left settles =
    nodes_take_turns (is_named (kept_regions c m 0 kids)) g t c labels works on m worked node graph
    (joined_start g t c labels works on m worked node some kids are_kids graph joined) merges left settles

pub residues_stay : ResiduesStay
residues_stay g t c labels works more m graph below is =
    subst (λ l. IsResidue g t c m l graph) (sym (before_alike labels works more (m + 1) (omega arith))) is
