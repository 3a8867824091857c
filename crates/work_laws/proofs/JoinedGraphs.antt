-- A graph joined from the residues of a node's children is that of the names in the node's cell which are kept.
use Rattle.std.proofs.Common.{◌≡◌, ℕ, ◌+◌, ◌<◌, ◌==◌, Bool, true, false, ◌&&◌, ◌||◌, IsTrue, List, length, refl, sym, ap, ◌∙◌, subst, arith}
use Rattle.std.specs.Prelude.{Contains, map, bit_and}
use Rattle.std.proofs.lemmas.Bool.{and_parts}
use Rattle.agglo_model.specs.Axes.{coordinate}
use Rattle.agglo_model.specs.Grid.{Grid}
use Rattle.agglo_model.specs.PairOrder.{Threshold}
use Rattle.agglo_model.specs.Greedy.{Merge}
use Rattle.agglo_model.specs.Cutting.{Chunking, node_count, level_of, face_bits, cell_low, cell_high, is_low_artificial, is_high_artificial, child_count, child}
use Rattle.agglo_model.specs.Freezing.{is_part, occurs_in, touches_low, touches_high, touched_faces}
use Rattle.agglo_model.specs.Work.{labels_before}
use Rattle.agglo_model.specs.NodeLaws.{AreWorksOn}
use Rattle.agglo_model.specs.RegionGraph.{Region, RegionGraph, IsGraphOfNames, residue_of}
use Rattle.agglo_model.specs.Joining.{IsJoined, is_named, kept_faces, kept_region, kept_regions, joined_faces}
use Rattle.agglo_model.specs.JoiningLaws.{AreKids, StartsNode, JoinedStart}
use Rattle.agglo_model.proofs.Members.{Contains-map, Contains-unmap}
use Rattle.agglo_model.proofs.Freezing.{occurs_at, some_voxel_is}
use Rattle.agglo_model.proofs.Tests.{with_implied}
use Rattle.agglo_model.proofs.RegionLists.{region_named}
use Rattle.work_laws.proofs.Children.{is_inner}
use Rattle.work_laws.proofs.ChildFaces.{keeps_low, keeps_high, children_faces}
use Rattle.work_laws.proofs.FaceBits.{and_faces, same_bits}
use Rattle.work_laws.proofs.JoinedContacts.{edge_inside, inside_edge}
use Rattle.work_laws.proofs.JoinedFaces.{gathered, gather_alike, gather_all, some_from}
use Rattle.work_laws.proofs.KidNames.{kid_graph, named_by, named_where, passed_region, occurs_up, frozen_named, others_stuck}

or_alike : (l a b : Bool) → a ≡ b → (l || a) ≡ (l || b)
or_alike l a b same = ap (λ k. l || k) same

module _ (g : Grid) (t : Threshold) (c : Chunking) (labels : List ℕ) (works : List (List Merge))
    (on : AreWorksOn g t c labels works) (m : ℕ) (worked : length works ≡ m) (node : m < node_count c)
    (inner : 0 < level_of c m) (kids : List RegionGraph) (are_kids : AreKids g t c labels works m kids) where
  -- a name that touches a face of a child's cell is in it
  touching_occurs : (x i axis : ℕ) → keeps_low c m (labels_before labels works m) x i axis ≡ true
      → IsTrue (occurs_in c (child c m i) (labels_before labels works m) x)
  touching_occurs x i axis pass =
      let l = labels_before labels works m in
      let kid = child c m i in
      let touch = and_parts (is_low_artificial c kid axis) _ (and_parts (touches_low c kid l x axis) _ pass).0 in
      let voxel = some_voxel_is c (λ v. is_part c kid l x v && coordinate c.axes v axis == cell_low c kid axis) touch.1 in
      (occurs_at c kid l x).1 (voxel.0, (and_parts (is_part c kid l x voxel.0) _ voxel.1).0)

  reaching_occurs : (x i axis : ℕ) → keeps_high c m (labels_before labels works m) x i axis ≡ true
      → IsTrue (occurs_in c (child c m i) (labels_before labels works m) x)
  reaching_occurs x i axis pass =
      let l = labels_before labels works m in
      let kid = child c m i in
      let touch = and_parts (is_high_artificial c kid axis) _ (and_parts (touches_high c kid l x axis) _ pass).0 in
      let voxel = some_voxel_is c (λ v. is_part c kid l x v && coordinate c.axes v axis + 1 == cell_high c kid axis) touch.1 in
      (occurs_at c kid l x).1 (voxel.0, (and_parts (is_part c kid l x voxel.0) _ voxel.1).0)

  -- a kept name that is in a child's cell is in its residue
  in_residue : (x i : ℕ) → IsTrue (is_named (kept_regions c m 0 kids) x) → i < child_count c m
      → IsTrue (occurs_in c (child c m i) (labels_before labels works m) x)
      → is_named (map (kept_region c m (child c m i)) (residue_of kids i).regions) x ≡ true
  in_residue x i named below occurs =
      let l = labels_before labels works m in
      let r : Region = record { name = x; faces = touched_faces c (child c m i) l x } in
      let there = passed_region g t c labels works on m worked node inner kids are_kids x i
      (named_where g t c labels works on m worked node inner kids are_kids x i named below occurs) in
      region_named (map (kept_region c m (child c m i)) (residue_of kids i).regions) x (kept_region c m (child c m i) r)
      (Contains-map (kept_region c m (child c m i)) (residue_of kids i).regions r there) refl

  -- the faces of a kept region
  region_faces : (x i : ℕ) → i < child_count c m → (r : Region)
      → Contains (map (kept_region c m (child c m i)) (residue_of kids i).regions) r → r.name ≡ x
      → r.faces ≡ face_bits (keeps_low c m (labels_before labels works m) x i) (keeps_high c m (labels_before labels works m) x i)
  region_faces x i below r inside name =
      let l = labels_before labels works m in
      let kid = child c m i in
      let found = Contains-unmap (kept_region c m kid) (residue_of kids i).regions r inside in
      let was = found.0 in
      let is = ((kid_graph g t c labels works on m worked node inner kids are_kids i below).regions was).0 found.1 in
      let same_name : was.name ≡ x = ap (λ (s : Region). s.name) found.2 ∙ name in
      ap (λ (s : Region). s.faces) (sym found.2)
      ∙ ap (λ k. bit_and k (kept_faces c m kid)) (is.3 ∙ ap (touched_faces c kid l) same_name)
      ∙ and_faces (touches_low c kid l x) (touches_high c kid l x)
      (λ axis. is_low_artificial c m axis && cell_low c kid axis == cell_low c m axis)
      (λ axis. is_high_artificial c m axis && cell_high c kid axis == cell_high c m axis)

  kid_faces : (x i : ℕ) → IsTrue (is_named (kept_regions c m 0 kids) x) → i < child_count c m → (low high : ℕ → Bool)
      → gathered (face_bits low high) x (map (kept_region c m (child c m i)) (residue_of kids i).regions)
      ≡ face_bits (λ axis. low axis || keeps_low c m (labels_before labels works m) x i axis)
      (λ axis. high axis || keeps_high c m (labels_before labels works m) x i axis)
  kid_faces x i named below low high =
      let l = labels_before labels works m in
      let rs = map (kept_region c m (child c m i)) (residue_of kids i).regions in
      gather_alike x rs (keeps_low c m l x i) (keeps_high c m l x i) (region_faces x i below) low high
      ∙ same_bits (λ axis. low axis || (is_named rs x && keeps_low c m l x i axis))
      (λ axis. high axis || (is_named rs x && keeps_high c m l x i axis))
      (λ axis. low axis || keeps_low c m l x i axis) (λ axis. high axis || keeps_high c m l x i axis)
      (λ axis. or_alike (low axis) (is_named rs x && keeps_low c m l x i axis) (keeps_low c m l x i axis)
      (with_implied (is_named rs x) (keeps_low c m l x i axis)
      (λ pass. in_residue x i named below (touching_occurs x i axis pass))))
      (λ axis. or_alike (high axis) (is_named rs x && keeps_high c m l x i axis) (keeps_high c m l x i axis)
      (with_implied (is_named rs x) (keeps_high c m l x i axis)
      (λ pass. in_residue x i named below (reaching_occurs x i axis pass))))

  -- the faces of a kept name are those that it touches
  faces_touched : (x : ℕ) → IsTrue (is_named (kept_regions c m 0 kids) x)
      → joined_faces (kept_regions c m 0 kids) x ≡ touched_faces c m (labels_before labels works m) x
  faces_touched x named =
      let l = labels_before labels works m in
      let few = are_kids.one_each in
      gather_all c m x (keeps_low c m l x) (keeps_high c m l x) 0 kids (λ k below low high.
      let under : k < child_count c m = omega arith in
      let here : k ≡ 0 + k = omega arith in
      subst (λ n. gathered (face_bits low high) x (map (kept_region c m (child c m n)) (residue_of kids k).regions)
      ≡ face_bits (λ axis. low axis || keeps_low c m l x n axis) (λ axis. high axis || keeps_high c m l x n axis)) here
      (kid_faces x k named under low high)) (λ _. false) (λ _. false)
      ∙ ap (λ n. face_bits (some_from (keeps_low c m l x) 0 n) (some_from (keeps_high c m l x) 0 n)) few
      ∙ children_faces c on.cutting m node inner l x

  module _ (graph : RegionGraph) (joined : IsJoined g c m labels kids graph) where
    joined_graph : IsGraphOfNames (λ x. IsTrue (is_named (kept_regions c m 0 kids) x)) g c m (labels_before labels works m) graph
    joined_graph = record {
      graph_is = joined.graph_is;
      regions = λ r. (
        (λ inside.
            let is = (joined.regions r).0 inside in
            let by = named_by g t c labels works on m worked node inner kids are_kids r.name is.0 in (
              by.1.name,
              occurs_up g t c labels works on m worked node inner kids are_kids r.name by.0 by.1.below by.1.occurs,
              is.0,
              is.1 ∙ faces_touched r.name is.0,
            )),
        (λ now. (joined.regions r).1 (now.2, now.3 ∙ sym (faces_touched r.name now.2))),
      );
      edges = λ e. (
        edge_inside g t c labels works on m worked node inner kids are_kids graph joined e,
        inside_edge g t c labels works on m worked node inner kids are_kids graph joined e,
      );
    }

    pub starts : StartsNode (λ x. IsTrue (is_named (kept_regions c m 0 kids) x)) g t c m (labels_before labels works m) graph
    starts = record {
      graph_is = joined_graph;
      frozen = frozen_named g t c labels works on m worked node inner kids are_kids;
      others = others_stuck g t c labels works on m worked node inner kids are_kids;
    }

pub joined_start : JoinedStart
joined_start g t c labels works on m worked node some kids are_kids graph joined =
    starts g t c labels works on m worked node (is_inner c m some) kids are_kids graph joined
