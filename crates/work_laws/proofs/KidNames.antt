-- The names that the children of a node pass on, by the labels before the node's work.
use Rattle.std.proofs.Common.{◌≡◌, ◌≢◌, ◌⊎◌, inl, inr, ℕ, ◌+◌, ◌<◌, Bool, true, ◌&&◌, IsTrue, List, length, refl, sym, ap, ◌∙◌, subst, arith}
use Rattle.std.specs.Prelude.{Contains}
use Rattle.std.proofs.lemmas.Bool.{and_parts, cases_eq}
use Rattle.std.proofs.lemmas.Bool.Decides.{nat_tests}
use Rattle.agglo_model.specs.Axes.{is_edge, lower_end, higher_end}
use Rattle.agglo_model.specs.Basins.{label_of}
use Rattle.agglo_model.specs.Grid.{Grid}
use Rattle.agglo_model.specs.PairOrder.{Threshold}
use Rattle.agglo_model.specs.Contacts.{are, differ, joins, lower_label, higher_label}
use Rattle.agglo_model.specs.Greedy.{Merge}
use Rattle.agglo_model.specs.Connected.{AreConnected}
use Rattle.agglo_model.specs.Cutting.{Chunking, node_count, level_of, child_count, child}
use Rattle.agglo_model.specs.Freezing.{is_held, is_inside, occurs_in, touched_faces, IsFrozen}
use Rattle.agglo_model.specs.Work.{IsFree, IsPassed, labels_before, labels_after}
use Rattle.agglo_model.specs.NodeLaws.{AreWorksOn}
use Rattle.agglo_model.specs.RegionGraph.{RegionGraph, IsGraphOfNames, between_inside, residue_of}
use Rattle.agglo_model.specs.Joining.{is_named, kept_regions}
use Rattle.agglo_model.specs.JoiningLaws.{AreKids, NoneReaches}
use Rattle.agglo_model.proofs.Freezing.{occurs_at, part_held, part_name, part_from, frozen_touches}
use Rattle.agglo_model.proofs.FreeNames.{free_voxels}
use Rattle.agglo_model.proofs.NestedFaces.{inner_face}
use Rattle.agglo_model.proofs.StuckNames.{IsStuck, stuck_from_first, steps_keep_stuck}
use Rattle.agglo_model.proofs.Totals.{total-tie}
use Rattle.agglo_model.proofs.Works.{works_keep, connected_before}
use Rattle.agglo_model.proofs.RegionLists.{named_region, region_named}
use Rattle.work_laws.proofs.SameCells.{AgreeIn, same_occurs, frozen_alike, same_graph}
use Rattle.work_laws.proofs.Children.{child_below, child_level, child_before, child_of, child_holds, child_node, child_within, one_child}
use Rattle.work_laws.proofs.CrossingLabels.{child_waits}
use Rattle.work_laws.proofs.KeptRegions.{kept_from, from_kept}
use Rattle.work_laws.proofs.KidContacts.{KeepsBoth}

-- the ends of an edge that joins two names have them
end_names : (i k : Bool) (p q x y : ℕ) → (((i && differ p q) && are p q x y) && k) ≡ true
    → (k ≡ true) × (((p ≡ x) × (q ≡ y)) ⊎ ((p ≡ y) × (q ≡ x)))
end_names i k p q x y pass = grind (arith, nat_tests)

module _ (g : Grid) (t : Threshold) (c : Chunking) (labels : List ℕ) (works : List (List Merge))
    (on : AreWorksOn g t c labels works) (m : ℕ) (worked : length works ≡ m) (node : m < node_count c)
    (inner : 0 < level_of c m) (kids : List RegionGraph) (are_kids : AreKids g t c labels works m kids) where
  -- child i passes the name x on
  abbrev pub Passes : ℕ → ℕ → Type 0
  Passes i x = IsPassed g t c (child c m i) (labels_after labels works (child c m i)) x

  -- the residue of a child by the labels before the node's work
  pub kid_graph : (i : ℕ) → i < child_count c m
      → IsGraphOfNames (Passes i) g c (child c m i) (labels_before labels works m) (residue_of kids i)
  kid_graph i below =
      same_graph c (child c m i) (labels_after labels works (child c m i)) (labels_before labels works m)
      (child_waits g t c labels works on m worked node inner i below) (Passes i) g on.axes (residue_of kids i)
      (are_kids.residues i below)

  agree_back : (i : ℕ) → i < child_count c m
      → AgreeIn c (child c m i) (labels_before labels works m) (labels_after labels works (child c m i))
  agree_back i below v held = sym (child_waits g t c labels works on m worked node inner i below v held)

  -- a child has the name x, and passes it on
  pub record IsNamedBy (x i : ℕ) : Type 0 where
    pub below : i < child_count c m
    pub name : x ≢ 0
    pub occurs : IsTrue (occurs_in c (child c m i) (labels_before labels works m) x)
    pub passed : Passes i x

  pub named_by : (x : ℕ) → IsTrue (is_named (kept_regions c m 0 kids) x) → (i : ℕ) × IsNamedBy x i
  named_by x named =
      let found = named_region (kept_regions c m 0 kids) x named in
      let kept = kept_from c m 0 kids found.0 found.1 in
      let below : kept.kid < child_count c m = omega (arith, kept.below, are_kids.one_each) in
      let r = kept.region in
      let is = ((kid_graph kept.kid below).regions r).0 kept.there in
      let name : r.name ≡ x = ap (λ s. s.name) kept.becomes ∙ found.2 in (
        kept.kid,
        record {
          below = below;
          name = subst (λ y. y ≢ 0) name is.0;
          occurs = subst (λ y. IsTrue (occurs_in c (child c m kept.kid) (labels_before labels works m) y)) name is.1;
          passed = subst (Passes kept.kid) name is.2;
        },
      )

  pub passed_region : (x i : ℕ) → IsNamedBy x i → Contains (residue_of kids i).regions
      (record { name = x; faces = touched_faces c (child c m i) (labels_before labels works m) x })
  passed_region x i by = ((kid_graph i by.below).regions
      (record { name = x; faces = touched_faces c (child c m i) (labels_before labels works m) x })).1
      (by.name, by.occurs, by.passed, refl)

  pub passed_named : (x i : ℕ) → IsNamedBy x i → IsTrue (is_named (kept_regions c m 0 kids) x)
  passed_named x i by =
      let below : i < length kids = omega (arith, by.below, are_kids.one_each) in
      region_named (kept_regions c m 0 kids) x _
      (from_kept c m 0 kids i (record { name = x; faces = touched_faces c (child c m i) (labels_before labels works m) x })
      below (passed_region x i by)) refl

  -- ---- names in the children's cells

  pub occurs_up : (x i : ℕ) → i < child_count c m → IsTrue (occurs_in c (child c m i) (labels_before labels works m) x)
      → IsTrue (occurs_in c m (labels_before labels works m) x)
  occurs_up x i below occurs =
      let l = labels_before labels works m in
      let found = (occurs_at c (child c m i) l x).0 occurs in
      let v = found.0 in
      (occurs_at c m l x).1 (
        v,
        part_from c m l x v
            (child_within c on.cutting m node inner v i below (part_held c (child c m i) l x v found.1))
            (part_name c (child c m i) l x v found.1),
      )

  pub occurs_down : (x : ℕ) → IsTrue (occurs_in c m (labels_before labels works m) x)
      → (i : ℕ) × (i < child_count c m) × IsTrue (occurs_in c (child c m i) (labels_before labels works m) x)
  occurs_down x occurs =
      let l = labels_before labels works m in
      let found = (occurs_at c m l x).0 occurs in
      let v = found.0 in
      let held = part_held c m l x v found.1 in
      let kid = child_of c on.cutting m node inner v held in (
        kid.0,
        kid.1,
        (occurs_at c (child c m kid.0) l x).1 (
          v,
          part_from c (child c m kid.0) l x v (child_holds c on.cutting m node inner v kid.0 kid.1 held kid.2)
              (part_name c m l x v found.1),
        ),
      )

  frozen_passed : (x i : ℕ) → i < child_count c m → x ≢ 0 → IsFrozen c (child c m i) (labels_before labels works m) x
      → Passes i x
  frozen_passed x i below some frozen =
      let l = labels_before labels works m in
      let after = labels_after labels works (child c m i) in
      let agree = agree_back i below in
      record {
        name = some;
        occurs = sym (same_occurs c (child c m i) l after agree x) ∙ (occurs_at c (child c m i) l x).1 (frozen.voxel, frozen.part);
        open_ = inl (frozen_alike c (child c m i) l after agree x frozen);
      }

  -- a name that is free in a child is in no other child's cell
  free_in_one : (x i j : ℕ) → IsNamedBy x i → j < child_count c m
      → IsFree c (child c m j) (labels_before labels works m) x → i ≡ j
  free_in_one x i j by below free =
      let l = labels_before labels works m in
      let connected = subst (λ a. AreConnected a l) (sym on.axes) (connected_before g t c labels works on m (omega arith)) in
      let found = (occurs_at c (child c m i) l x).0 by.occurs in
      let v = found.0 in
      let in_i = part_held c (child c m i) l x v found.1 in
      let in_j = free_voxels c on.cutting (child c m j) (child_below c on.cutting m node inner j below) l connected x by.name free v
      (part_name c (child c m i) l x v found.1) in
      one_child c on.cutting m node inner i j by.below below
      (sym (child_node c on.cutting m node inner v i by.below in_i) ∙ child_node c on.cutting m node inner v j below in_j)

  -- so a name that is kept is passed on by each child where it occurs
  pub passed_where : (x j : ℕ) → IsTrue (is_named (kept_regions c m 0 kids) x) → j < child_count c m
      → IsTrue (occurs_in c (child c m j) (labels_before labels works m) x) → Passes j x
  passed_where x j named below occurs =
      let l = labels_before labels works m in
      let found = named_by x named in
      elim (cases_eq (touched_faces c (child c m j) l x) 0) [
        | inr some ↦ frozen_passed x j below found.1.name ((frozen_touches c (child c m j) l x).1 some)
        | inl none ↦
            let free : IsFree c (child c m j) l x = record {
              occurs = occurs;
              unfrozen = λ frozen. (frozen_touches c (child c m j) l x).0 frozen none;
            } in
            subst (λ k. Passes k x) (free_in_one x found.0 j found.1 below free) found.1.passed
      ]

  pub named_where : (x j : ℕ) → IsTrue (is_named (kept_regions c m 0 kids) x) → j < child_count c m
      → IsTrue (occurs_in c (child c m j) (labels_before labels works m) x) → IsNamedBy x j
  named_where x j named below occurs = record {
    below = below;
    name = (named_by x named).1.name;
    occurs = occurs;
    passed = passed_where x j named below occurs;
  }

  occurs_end : (x v i : ℕ) → is_held c (child c m i) v ≡ true → label_of (labels_before labels works m) v ≡ x
      → IsTrue (occurs_in c (child c m i) (labels_before labels works m) x)
  occurs_end x v i held name =
      (occurs_at c (child c m i) (labels_before labels works m) x).1
      (v, part_from c (child c m i) (labels_before labels works m) x v held name)

  pub keeps_both : (x y i : ℕ) → IsTrue (is_named (kept_regions c m 0 kids) x) → IsTrue (is_named (kept_regions c m 0 kids) y)
      → i < child_count c m → KeepsBoth (Passes i) g c (child c m i) (labels_before labels works m) x y
  keeps_both x y i named_x named_y below some =
      let l = labels_before labels works m in
      let kid = child c m i in
      let tie = total-tie g (λ e. joins g l x y e && is_inside c kid e) some in
      let e = (between_inside g c kid l x y).tie in
      let split = end_names (is_edge g.axes e) (is_inside c kid e) (lower_label g l e) (higher_label g l e) x y tie.1 in
      let ends = and_parts (is_held c kid (lower_end c.axes e)) (is_held c kid (higher_end e)) split.0 in
      let low : label_of l (lower_end c.axes e) ≡ lower_label g l e = ap (λ a. label_of l (lower_end a e)) on.axes in
      elim split.1 [
        | inl (p, q) ↦ (
          passed_where x i named_x below (occurs_end x (lower_end c.axes e) i ends.0 (low ∙ p)),
          passed_where y i named_y below (occurs_end y (higher_end e) i ends.1 q),
        )
        | inr (p, q) ↦ (
          passed_where x i named_x below (occurs_end x (higher_end e) i ends.1 q),
          passed_where y i named_y below (occurs_end y (lower_end c.axes e) i ends.0 (low ∙ p)),
        )
      ]

  -- ---- names that the node may not lose

  pub frozen_named : (x : ℕ) → x ≢ 0 → IsFrozen c m (labels_before labels works m) x
      → IsTrue (is_named (kept_regions c m 0 kids) x)
  frozen_named x some frozen =
      let l = labels_before labels works m in
      let v = frozen.voxel in
      let held = part_held c m l x v frozen.part in
      let kid = child_of c on.cutting m node inner v held in
      let i = kid.0 in
      let in_kid = child_holds c on.cutting m node inner v i kid.1 held kid.2 in
      let level = child_level c on.cutting m node inner i kid.1 in
      let at = inner_face c on.cutting (child c m i) m v (child_below c on.cutting m node inner i kid.1) (omega arith) in_kid
      frozen.at_face in
      let part = part_from c (child c m i) l x v in_kid (part_name c m l x v frozen.part) in
      passed_named x i (record {
        below = kid.1;
        name = some;
        occurs = (occurs_at c (child c m i) l x).1 (v, part);
        passed = frozen_passed x i kid.1 some (record { voxel = v; part = part; at_face = at });
      })

  pub others_stuck : (x : ℕ) → x ≢ 0 → IsTrue (occurs_in c m (labels_before labels works m) x)
      → ¬ (IsTrue (is_named (kept_regions c m 0 kids) x)) → NoneReaches g t (labels_before labels works m) x
  others_stuck x some occurs unnamed =
      let l = labels_before labels works m in
      let down = occurs_down x occurs in
      let kid = child c m down.0 in
      let after = labels_after labels works kid in
      let before = child_before c on.cutting m node inner down.0 down.1 in
      let not_passed : ¬ (Passes down.0 x) = λ passed. unnamed (passed_named x down.0 (record {
        below = down.1;
        name = some;
        occurs = down.2;
        passed = passed;
      })) in
      let stuck : IsStuck g t x after = stuck_from_first g t after x (λ first. not_passed (record {
        name = some;
        occurs = sym (same_occurs c kid l after (agree_back down.0 down.1) x) ∙ down.2;
        open_ = inr first;
      })) in
      works_keep g t c labels works on (IsStuck g t x) (kid + 1) m (omega arith) (omega arith)
      (λ n low high. steps_keep_stuck g t c n x) stuck
