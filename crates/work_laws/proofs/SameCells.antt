-- Two label lists that agree in the cell of a node: the names there have the same voxels, faces and contacts.
use Rattle.std.proofs.Common.{◌≡◌, ℕ, ◌+◌, ◌<◌, ◌==◌, Bool, true, ◌&&◌, List, sym, ap, ◌∙◌, subst}
use Rattle.std.proofs.Math.Bool.{and_comm}
use Rattle.std.proofs.lemmas.Bool.{and_parts}
use mathlib.Core.Path.{fun_ext}
use Rattle.agglo_model.specs.Axes.{Axes, is_edge, coordinate, lower_end, higher_end}
use Rattle.agglo_model.specs.Basins.{label_of}
use Rattle.agglo_model.specs.Grid.{Grid}
use Rattle.agglo_model.specs.Contacts.{differ, are, joins, total}
use Rattle.agglo_model.specs.Cutting.{Chunking, cell_low, cell_high, is_low_artificial, is_high_artificial, face_bits}
use Rattle.agglo_model.specs.Freezing.{is_held, is_inside, is_part, some_voxel, occurs_in, touched_faces, IsFrozen}
use Rattle.agglo_model.specs.RegionGraph.{RegionGraph, IsGraphOfNames, between_inside}
use Rattle.agglo_model.proofs.Tests.{same_where}

-- the lists have the same labels in the cell of node m
abbrev pub AgreeIn : Chunking → ℕ → List ℕ → List ℕ → Type 0
AgreeIn c m labels others = (v : ℕ) → is_held c m v ≡ true → label_of labels v ≡ label_of others v

same_and : (x y b : Bool) → (b ≡ true → x ≡ y) → (x && b) ≡ (y && b)
same_and x y b same = and_comm x b ∙ same_where b x y same ∙ and_comm b y

-- the faces that a set of voxels touches
abbrev pub faces_of : Chunking → ℕ → (ℕ → Bool) → ℕ
faces_of c m part = face_bits
    (λ axis. is_low_artificial c m axis && some_voxel c (λ v. part v && coordinate c.axes v axis == cell_low c m axis))
    (λ axis. is_high_artificial c m axis && some_voxel c (λ v. part v && coordinate c.axes v axis + 1 == cell_high c m axis))

-- whether an edge joins two names, by the labels of its ends
abbrev pub joins_by : Axes → ℕ → ℕ → ℕ → ℕ → ℕ → Bool
joins_by a x y e p q = (is_edge a e && differ p q) && are p q x y

module _ (c : Chunking) (m : ℕ) (labels others : List ℕ) (agree : AgreeIn c m labels others) where
  pub same_part : (x v : ℕ) → is_part c m labels x v ≡ is_part c m others x v
  same_part x v = same_where (is_held c m v) (label_of labels v == x) (label_of others v == x)
      (λ held. ap (λ y. y == x) (agree v held))

  pub same_occurs : (x : ℕ) → occurs_in c m labels x ≡ occurs_in c m others x
  same_occurs x = ap (some_voxel c) (fun_ext (same_part x))

  pub same_faces : (x : ℕ) → touched_faces c m labels x ≡ touched_faces c m others x
  same_faces x = ap (faces_of c m) (fun_ext (same_part x))

  pub frozen_alike : (x : ℕ) → IsFrozen c m labels x → IsFrozen c m others x
  frozen_alike x frozen = record {
    voxel = frozen.voxel;
    part = sym (same_part x frozen.voxel) ∙ frozen.part;
    at_face = frozen.at_face;
  }

  same_joins : (g : Grid) → c.axes ≡ g.axes → (x y e : ℕ)
      → (joins g labels x y e && is_inside c m e) ≡ (joins g others x y e && is_inside c m e)
  same_joins g axes x y e = same_and (joins g labels x y e) (joins g others x y e) (is_inside c m e) (λ inside.
      let ends = and_parts (is_held c m (lower_end c.axes e)) (is_held c m (higher_end e)) inside in
      let low : label_of labels (lower_end g.axes e) ≡ label_of others (lower_end g.axes e) =
      subst (λ a. label_of labels (lower_end a e) ≡ label_of others (lower_end a e)) axes (agree (lower_end c.axes e) ends.0) in
      let high : label_of labels (higher_end e) ≡ label_of others (higher_end e) = agree (higher_end e) ends.1 in
      λ i. joins_by g.axes x y e (low i) (high i))

  pub same_between : (g : Grid) → c.axes ≡ g.axes → (x y : ℕ)
      → between_inside g c m labels x y ≡ between_inside g c m others x y
  same_between g axes x y = ap (total g) (fun_ext (same_joins g axes x y))

  -- so a graph of names is the same under both
  pub same_graph : (Keeps : ℕ → Type 0) (g : Grid) → c.axes ≡ g.axes → (graph : RegionGraph)
      → IsGraphOfNames Keeps g c m labels graph → IsGraphOfNames Keeps g c m others graph
  same_graph Keeps g axes graph is = record {
    graph_is = is.graph_is;
    regions = λ r. (
      (λ inside.
          let was = (is.regions r).0 inside in
          (was.0, sym (same_occurs r.name) ∙ was.1, was.2, was.3 ∙ same_faces r.name)),
      (λ now. (is.regions r).1 (now.0, same_occurs r.name ∙ now.1, now.2, now.3 ∙ sym (same_faces r.name))),
    );
    edges = λ e. (
      (λ inside.
          let was = (is.edges e).0 inside in
          let same = same_between g axes e.a e.b in
          (was.0, was.1, was.2, subst (λ d. 0 < d.count) same was.3, was.4 ∙ same)),
      (λ now.
          let same = sym (same_between g axes e.a e.b) in
          (is.edges e).1 (now.0, now.1, now.2, subst (λ d. 0 < d.count) same now.3, now.4 ∙ same)),
    );
  }
