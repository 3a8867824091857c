-- Across the faces between two children of a node, contacts are those by the labels from the start.
use Rattle.std.proofs.Common.{◌≡◌, ◌≢◌, inl, inr, ℕ, ◌+◌, ◌-◌, ◌<◌, ◌==◌, Bool, true, false, ◌&&◌, List, length, refl, sym, ap, ◌∙◌, subst, arith}
use Rattle.std.proofs.Math.Bool.{and-false}
use Rattle.std.proofs.lemmas.Bool.{cases_Bool, and_parts, eq-eqb, false≢true, not-true}
use mathlib.Core.Path.{fun_ext}
use Rattle.agglo_model.specs.Axes.{is_edge, lower_end, higher_end}
use Rattle.agglo_model.specs.Basins.{label_of}
use Rattle.agglo_model.specs.Grid.{Grid}
use Rattle.agglo_model.specs.PairOrder.{Threshold}
use Rattle.agglo_model.specs.Contacts.{are, differ, joins, total}
use Rattle.agglo_model.specs.Connected.{AreNeighbours}
use Rattle.agglo_model.specs.Greedy.{Merge}
use Rattle.agglo_model.specs.Cutting.{Chunking, node_count, level_of, node_at, child_count, child}
use Rattle.agglo_model.specs.Freezing.{is_held, is_inside}
use Rattle.agglo_model.specs.Work.{labels_before, labels_after}
use Rattle.agglo_model.specs.NodeLaws.{AreWorksOn}
use Rattle.agglo_model.specs.Joining.{is_crossing, or_none, between_children}
use Rattle.agglo_model.proofs.Freezing.{part_from}
use Rattle.agglo_model.proofs.Crossings.{crossing}
use Rattle.agglo_model.proofs.FrozenNames.{frozen_names_are_whole}
use Rattle.agglo_model.proofs.NodeNesting.{held_between}
use Rattle.agglo_model.proofs.WaitingCells.{label_waits}
use Rattle.work_laws.proofs.SameCells.{AgreeIn}
use Rattle.work_laws.proofs.Children.{child_below, child_before, child_parent, child_of, child_holds, child_node}

-- an edge joins the same names where the labels of its ends are the same
cross_step : (i k : Bool) (p q p' q' x y : ℕ) → (i ≡ true → k ≡ true → (p ≡ p') × (q ≡ q'))
    → (((i && differ p q) && are p q x y) && k) ≡ (((i && differ p' q') && are p' q' x y) && k)
cross_step false k p q p' q' x y same = refl
cross_step true true p q p' q' x y same =
    let ends = same refl refl in
    λ j. ((true && differ (ends.0 j) (ends.1 j)) && are (ends.0 j) (ends.1 j) x y) && true
cross_step true false p q p' q' x y same =
    and-false (differ p q && are p q x y) ∙ sym (and-false (differ p' q' && are p' q' x y))

module _ (g : Grid) (t : Threshold) (c : Chunking) (labels : List ℕ) (works : List (List Merge))
    (on : AreWorksOn g t c labels works) (m : ℕ) (worked : length works ≡ m) (node : m < node_count c)
    (inner : 0 < level_of c m) where
  -- in a child's cell the labels wait for the node's work
  pub child_waits : (i : ℕ) → i < child_count c m
      → AgreeIn c (child c m i) (labels_after labels works (child c m i)) (labels_before labels works m)
  child_waits i below v held =
      let kid_below = child_below c on.cutting m node inner i below in
      let before = child_before c on.cutting m node inner i below in
      sym (label_waits g t c labels works on (child c m i + 1) m v (omega arith) (omega arith)
      (λ n low high. held_between c on.cutting (child c m i) m n v kid_below
      (child_parent c on.cutting m node inner i below) (omega arith) high held))

  -- a voxel of a child's cell with a neighbour in another one has its label from the start
  fresh_there : (v w i : ℕ) → i < child_count c m → is_held c (child c m i) v ≡ true → AreNeighbours c.axes v w
      → is_held c (child c m i) w ≡ false → label_of (labels_before labels works m) v ≡ label_of labels v
  fresh_there v w i below held near out =
      let kid_below = child_below c on.cutting m node inner i below in
      let before = child_before c on.cutting m node inner i below in
      let after = labels_after labels works (child c m i) in
      let x = label_of after v in
      let at = crossing c on.cutting (child c m i) kid_below v w held near out in
      let whole = frozen_names_are_whole g t c labels works on (child c m i) (omega arith) x (record {
        voxel = v;
        part = part_from c (child c m i) after x v held refl;
        at_face = at;
      }) v in
      sym (child_waits i below v held) ∙ sym (whole.0 refl)

  fresh_end : (v w : ℕ) → is_held c m v ≡ true → AreNeighbours c.axes v w
      → node_at c (level_of c m - 1) v ≢ node_at c (level_of c m - 1) w
      → label_of (labels_before labels works m) v ≡ label_of labels v
  fresh_end v w held near apart =
      let found = child_of c on.cutting m node inner v held in
      let here = child_holds c on.cutting m node inner v found.0 found.1 held found.2 in
      fresh_there v w found.0 found.1 here near (elim (cases_Bool (is_held c (child c m found.0) w)) [
        | inr out ↦ out
        | inl there ↦ absurd (apart (sym found.2 ∙ sym (child_node c on.cutting m node inner w found.0 found.1 there)))
      ])

  crossing_labels : (e : ℕ) → is_edge g.axes e ≡ true → is_crossing c m e ≡ true
      → (label_of (labels_before labels works m) (lower_end g.axes e) ≡ label_of labels (lower_end g.axes e))
      × (label_of (labels_before labels works m) (higher_end e) ≡ label_of labels (higher_end e))
  crossing_labels e edge crosses =
      let v = lower_end c.axes e in
      let w = higher_end e in
      let parts = and_parts (is_inside c m e) _ crosses in
      let ends = and_parts (is_held c m v) (is_held c m w) parts.0 in
      let differ = not-true (node_at c (level_of c m - 1) v == node_at c (level_of c m - 1) w) parts.1 in
      let apart : node_at c (level_of c m - 1) v ≢ node_at c (level_of c m - 1) w =
      λ same. false≢true (sym differ ∙ eq-eqb (node_at c (level_of c m - 1) v) (node_at c (level_of c m - 1) w) same) in
      let here : is_edge c.axes e ≡ true = subst (λ a. is_edge a e ≡ true) (sym on.axes) edge in
      let low = fresh_end v w ends.0 (e, here, inl (refl, refl)) apart in
      let high = fresh_end w v ends.1 (e, here, inr (refl, refl)) (λ same. apart (sym same)) in (
        subst (λ a. label_of (labels_before labels works m) (lower_end a e) ≡ label_of labels (lower_end a e)) on.axes low,
        high,
      )

  crossing_joins : (x y e : ℕ) → (joins g labels x y e && is_crossing c m e)
      ≡ (joins g (labels_before labels works m) x y e && is_crossing c m e)
  crossing_joins x y e = cross_step (is_edge g.axes e) (is_crossing c m e)
      (label_of labels (lower_end g.axes e)) (label_of labels (higher_end e))
      (label_of (labels_before labels works m) (lower_end g.axes e)) (label_of (labels_before labels works m) (higher_end e)) x y
      (λ edge crosses. let same = crossing_labels e edge crosses in (sym same.0, sym same.1))

  -- so the contact across these faces is that before the node's work
  pub children_contact : (past x y : ℕ) → between_children past g c m labels x y
      ≡ or_none past (total g (λ e. joins g (labels_before labels works m) x y e && is_crossing c m e))
  children_contact past x y = ap (λ f. or_none past (total g f)) (fun_ext (crossing_joins x y))
