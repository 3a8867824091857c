-- The lists of regions and edges of a node's children, child by child.
use Rattle.std.proofs.Common.{◌≡◌, ℕ, suc, ◌+◌, ◌*◌, ◌<◌, ◌≤◌, Bool, true, false, cond, List, [], ◌∷◌, ◌++◌, length, get_or, ◌==◌, zero-add, refl, sym, ap, ◌∙◌, subst, append_assoc, length-append, arith}
use Rattle.std.specs.Prelude.{All, bit_and, map}
use Rattle.std.proofs.Math.Nat.{mul-le-mul}
use Rattle.std.proofs.lemmas.List.{append-nil, length_push, length-map, map-append}
use Rattle.std.proofs.lemmas.List.Elements.{All-push}
use Rattle.agglo_model.specs.Axes.{voxel_count}
use Rattle.agglo_model.specs.Cutting.{Chunking, low_corner, high_corner, is_low_artificial, is_high_artificial, artificial_faces, level_of, children_on, children_grid, child_count, child}
use Rattle.agglo_model.specs.RegionGraph.{Region, GraphEdge, RegionGraph, IsGraph}
use Rattle.agglo_model.specs.Joining.{kept_edges, kept_faces, kept_region, kept_regions}
use Rattle.region_graph.specs.declared.graph.Residue.{Residue}
use Rattle.work_laws.proofs.FaceBits.{and_faces}
use Rattle.parent_join.specs.Kids.{graphs_of, shared_faces, with_faces_in}

-- ---- one child more

regions-push : (c : Chunking) (m i : ℕ) (kids : List RegionGraph) (kid : RegionGraph)
    → kept_regions c m i (kids ++ kid ∷ [])
    ≡ kept_regions c m i kids ++ map (kept_region c m (child c m (i + length kids))) kid.regions
regions-push c m i [] kid =
    let same : i ≡ i + 0 = omega arith in
    append-nil (map (kept_region c m (child c m i)) kid.regions)
    ∙ ap (λ n. map (kept_region c m (child c m n)) kid.regions) same
regions-push c m i (first ∷ kids) kid =
    let next : i + 1 + length kids ≡ i + suc (length kids) = omega arith in
    let here = map (kept_region c m (child c m i)) first.regions in
    ap (λ l. here ++ l) (regions-push c m (i + 1) kids kid)
    ∙ sym (append_assoc here (kept_regions c m (i + 1) kids) (map (kept_region c m (child c m (i + 1 + length kids))) kid.regions))
    ∙ ap (λ n. (here ++ kept_regions c m (i + 1) kids) ++ map (kept_region c m (child c m n)) kid.regions) next

edges-push : (kids : List RegionGraph) (kid : RegionGraph) → kept_edges (kids ++ kid ∷ []) ≡ kept_edges kids ++ kid.edges
edges-push [] kid = append-nil kid.edges
edges-push (first ∷ kids) kid =
    ap (λ l. first.edges ++ l) (edges-push kids kid) ∙ sym (append_assoc first.edges (kept_edges kids) kid.edges)

-- what was gathered of the children so far
pub record AreGathered (c : Chunking) (m i : ℕ) (done : List Residue) (regions : List Region) (edges : List GraphEdge) : Type 0 where
  pub number : i ≡ length done
  pub regions_are : regions ≡ kept_regions c m 0 (graphs_of done)
  pub edges_are : edges ≡ kept_edges (graphs_of done)
  pub graphs : All IsGraph (graphs_of done)

pub none_gathered : (c : Chunking) (m : ℕ) → AreGathered c m 0 [] [] []
none_gathered c m = record {
  number = refl;
  regions_are = refl;
  edges_are = refl;
  graphs = λ i d below. absurd (omega arith);
}

graphs-push : (done : List Residue) (kid : Residue) → graphs_of (done ++ kid ∷ []) ≡ graphs_of done ++ kid.graph ∷ []
graphs-push done kid = map-append (λ (r : Residue). r.graph) done (kid ∷ [])

pub gathered_more : (c : Chunking) (m i : ℕ) (done : List Residue) (regions : List Region) (edges : List GraphEdge) (kid : Residue)
    (faces : ℕ) → AreGathered c m i done regions edges → IsGraph kid.graph → faces ≡ kept_faces c m (child c m i)
    → AreGathered c m (i + 1) (done ++ kid ∷ []) (regions ++ map (with_faces_in faces) kid.graph.regions) (edges ++ kid.graph.edges)
gathered_more c m i done regions edges kid faces so_far is faces_are =
    let graphs = graphs-push done kid in
    let len : length (graphs_of done) ≡ i = length-map done (λ (r : Residue). r.graph) ∙ sym so_far.number in
    record {
      number = let more = length_push done kid in let number = so_far.number in omega arith;
      regions_are =
          (λ j. so_far.regions_are j ++ map (with_faces_in (faces_are j)) kid.graph.regions)
          ∙ ap (λ n. kept_regions c m 0 (graphs_of done) ++ map (kept_region c m (child c m n)) kid.graph.regions) (sym len)
          ∙ sym (ap (kept_regions c m 0) graphs ∙ regions-push c m 0 (graphs_of done) kid.graph
          ∙ ap (λ n. kept_regions c m 0 (graphs_of done) ++ map (kept_region c m (child c m n)) kid.graph.regions) (zero-add (length (graphs_of done))));
      edges_are = ap (λ l. l ++ kid.graph.edges) so_far.edges_are ∙ sym (ap kept_edges graphs ∙ edges-push (graphs_of done) kid.graph);
      graphs = subst (All IsGraph) (sym graphs) (All-push IsGraph (graphs_of done) kid.graph so_far.graphs is);
    }

-- ---- faces

-- the artificial faces of a node that are those of its child too
pub faces-kept : (c : Chunking) (m kid : ℕ) → bit_and (artificial_faces c m)
    (shared_faces (low_corner c kid) (high_corner c kid) (low_corner c m) (high_corner c m)) ≡ kept_faces c m kid
faces-kept c m kid =
    and_faces (is_low_artificial c m) (is_high_artificial c m)
    (λ axis. get_or (low_corner c kid) axis 0 == get_or (low_corner c m) axis 0)
    (λ axis. get_or (high_corner c kid) axis 0 == get_or (high_corner c m) axis 0)

-- some of all kids are gathered, and these are left
pub record AreGatheredBut (c : Chunking) (m i : ℕ) (all left : List Residue) (regions : List Region) (edges : List GraphEdge) : Type 0 where
  pub done : List Residue
  pub split : all ≡ done ++ left
  pub gathered : AreGathered c m i done regions edges

pub none_but : (c : Chunking) (m : ℕ) (all : List Residue) → AreGatheredBut c m 0 all all [] []
none_but c m all = record { done = []; split = refl; gathered = none_gathered c m }

pub gathered_next : (c : Chunking) (m i : ℕ) (all left rest : List Residue) (regions : List Region) (edges : List GraphEdge) (kid : Residue)
    (faces : ℕ) → AreGatheredBut c m i all left regions edges → left ≡ kid ∷ rest → IsGraph kid.graph → faces ≡ kept_faces c m (child c m i)
    → AreGatheredBut c m (i + 1) all rest (regions ++ map (with_faces_in faces) kid.graph.regions) (edges ++ kid.graph.edges)
gathered_next c m i all left rest regions edges kid faces so_far front is faces_are = record {
  done = so_far.done ++ kid ∷ [];
  split = so_far.split ∙ ap (λ l. so_far.done ++ l) front ∙ sym (append_assoc so_far.done (kid ∷ []) rest);
  gathered = gathered_more c m i so_far.done regions edges kid faces so_far.gathered is faces_are;
}

pub gathered_all : (c : Chunking) (m i : ℕ) (all left : List Residue) (regions : List Region) (edges : List GraphEdge)
    → AreGatheredBut c m i all left regions edges → left ≡ [] → AreGathered c m i all regions edges
gathered_all c m i all left regions edges so_far none =
    subst (λ ks. AreGathered c m i ks regions edges)
    (sym (so_far.split ∙ ap (λ l. so_far.done ++ l) none ∙ append-nil so_far.done)) so_far.gathered

-- a kid that is left is not the last of all
pub one_left : (c : Chunking) (m i : ℕ) (all left rest : List Residue) (regions : List Region) (edges : List GraphEdge) (kid : Residue)
    → AreGatheredBut c m i all left regions edges → left ≡ kid ∷ rest → i < length all
one_left c m i all left rest regions edges kid so_far front =
    let parts = ap length so_far.split ∙ length-append so_far.done left in
    let some : length left ≡ suc (length rest) = ap length front in
    omega (arith, parts, some, so_far.gathered.number)

-- ---- how many children there are

none_or_few : (b : Bool) (n : ℕ) → n ≤ 8 → cond b 0 n ≤ 8
none_or_few true n few = omega arith
none_or_few false n few = few

pub few_children : (c : Chunking) (m : ℕ) → child_count c m ≤ 8
few_children c m = none_or_few (level_of c m == 0) (voxel_count (children_grid c m))
    (two_each (children_on c m 0) (children_on c m 1) (children_on c m 2) (omega arith) (omega arith) (omega arith))
  where
    two_each : (x y z : ℕ) → x ≤ 2 → y ≤ 2 → z ≤ 2 → x * y * z ≤ 8
    two_each x y z few_x few_y few_z = omega (arith, mul-le-mul (mul-le-mul few_x few_y) few_z)
