-- Lists of regions and edges that were gathered in a cell make its graph.
use Rattle.std.proofs.Common.{◌≡◌, ◌≢◌, ◌⊎◌, inl, inr, ℕ, ◌<◌, Bool, true, ◌&&◌, eqb, List, refl, sym, ap, ◌∙◌, subst, arith}
use Rattle.std.specs.Prelude.{AllPairs, Contains}
use Rattle.std.specs.List.{list_any}
use Rattle.std.proofs.lemmas.Bool.{and_parts, and_from, eqb-true, eq-eqb}
use Rattle.std.proofs.lemmas.List.Elements.{All-contains}
use Rattle.std.proofs.lemmas.List.Folds.{Any-from_list_any, list_any-from_Any}
use Rattle.std.specs.Cmp.{both_ways}
use Rattle.agglo_model.specs.Axes.{edge_count, lower_end, higher_end}
use Rattle.agglo_model.specs.Basins.{label_of}
use Rattle.agglo_model.specs.Grid.{Grid}
use Rattle.agglo_model.specs.Joining.{is_named, joined_faces}
use Rattle.agglo_model.specs.PairOrder.{Contact, added}
use Rattle.agglo_model.specs.Contacts.{are, is_contact_edge, joins, lower_label, higher_label, total}
use Rattle.agglo_model.specs.Cutting.{Chunking}
use Rattle.agglo_model.specs.Freezing.{is_held, is_inside, occurs_in, touched_faces}
use Rattle.agglo_model.specs.RegionGraph.{Region, GraphEdge, IsGraph, IsCellGraph, HasRegion, StandsBefore, is_between, no_contact, contact_in, between_inside}
use Rattle.agglo_model.proofs.ContactEdges.{InContact-from_edge, InContact-names}
use Rattle.agglo_model.proofs.Freezing.{part_from, occurs_at}
use Rattle.agglo_model.proofs.GraphContacts.{same_contact, joint-count, contact_in-is}
use Rattle.agglo_model.proofs.GraphEdges.{between_itself, edge_contact, edge_of_contact, names_of, same_edges}
use Rattle.agglo_model.proofs.RegionLists.{Ascend, one_region, named_region}
use Rattle.agglo_model.proofs.Totals.{total-tie}
use Rattle.region_graph.specs.Lists.{AreNamed, AreOrdered, AreTouching, SameContacts, SameRegions}
use Rattle.region_graph.proofs.RegionLists.{has_bit, names_face, same_by_bits, joined_faces-bit}

-- ---- regions by name

any_from : {X : Type 0} (p : X → Bool) (xs : List X) (x : X) → Contains xs x → p x ≡ true → list_any p xs ≡ true
any_from p xs x (k, below, same) pass = list_any-from_Any p xs (k, x, below, same, pass)

there_named : (rs : List Region) (r : Region) → Contains rs r → is_named rs r.name ≡ true
there_named rs r inside = any_from (λ (s : Region). eqb s.name r.name) rs r inside (eq-eqb r.name r.name refl)

-- where each name stands once, its faces are those of its region
pub faces_of : (rs : List Region) (r : Region) → Ascend rs → Contains rs r → joined_faces rs r.name ≡ r.faces
faces_of rs r ascend inside = same_by_bits (joined_faces rs r.name) r.faces (λ i.
    joined_faces-bit rs r.name i
    ∙ both_ways (list_any (names_face r.name i) rs) (has_bit r.faces i)
    (λ pass.
    let found = Any-from_list_any (names_face r.name i) rs pass in
    let parts = and_parts (eqb found.1.name r.name) (has_bit found.1.faces i) found.4 in
    let same = one_region rs found.1 r ascend (found.0, found.2, found.3) inside (eqb-true found.1.name r.name parts.0) in
    ap (λ (s : Region). has_bit s.faces i) (sym same) ∙ parts.1)
    (λ pass. any_from (names_face r.name i) rs r inside (and_from (eqb r.name r.name) (has_bit r.faces i) (eq-eqb r.name r.name refl) pass)))

-- ---- what was gathered

pub record IsGathered (g : Grid) (c : Chunking) (m : ℕ) (labels : List ℕ) (regions : List Region) (edges : List GraphEdge) : Type 0 where
  pub regions_ascend : AllPairs (λ r s. r.name < s.name) regions
  pub named : AreNamed regions
  pub names : (x : ℕ) → x ≢ 0 → is_named regions x ≡ occurs_in c m labels x
  pub faces : (x : ℕ) → x ≢ 0 → joined_faces regions x ≡ touched_faces c m labels x
  pub edges_ascend : AllPairs StandsBefore edges
  pub ordered : AreOrdered edges
  pub touching : AreTouching edges
  pub contacts : (x y : ℕ) → contact_in (edge_count g.axes) edges x y ≡ between_inside g c m labels x y

-- what two passes found in the cell
pub record IsFound (g : Grid) (c : Chunking) (m : ℕ) (labels : List ℕ) (regions : List Region) (edges : List GraphEdge) : Type 0 where
  pub names : (x : ℕ) → x ≢ 0 → is_named regions x ≡ occurs_in c m labels x
  pub faces : (x : ℕ) → x ≢ 0 → joined_faces regions x ≡ touched_faces c m labels x
  pub contacts : (x y : ℕ) → contact_in (edge_count g.axes) edges x y ≡ between_inside g c m labels x y

-- lists in order that say the same
pub record AreSorted (regions : List Region) (edges : List GraphEdge) : Type 0 where
  pub regions_ascend : AllPairs (λ r s. r.name < s.name) regions
  pub named : AreNamed regions
  pub edges_ascend : AllPairs StandsBefore edges
  pub ordered : AreOrdered edges
  pub touching : AreTouching edges

pub gathered : (g : Grid) (c : Chunking) (m : ℕ) (labels : List ℕ) (raw_regions regions : List Region) (raw_edges edges : List GraphEdge)
    → IsFound g c m labels raw_regions raw_edges → SameRegions raw_regions regions → SameContacts raw_edges edges
    → AreSorted regions edges → IsGathered g c m labels regions edges
gathered g c m labels raw_regions regions raw_edges edges found same_names same_contacts sorted = record {
  regions_ascend = sorted.regions_ascend;
  named = sorted.named;
  names = λ x name. same_names.names x ∙ found.names x name;
  faces = λ x name. same_names.faces x ∙ found.faces x name;
  edges_ascend = sorted.edges_ascend;
  ordered = sorted.ordered;
  touching = sorted.touching;
  contacts = λ x y. same_contacts (edge_count g.axes) x y ∙ found.contacts x y;
}

-- ---- names in contact inside the cell occur there

part_at : (c : Chunking) (m : ℕ) (labels : List ℕ) (x v : ℕ) → is_held c m v ≡ true → label_of labels v ≡ x → occurs_in c m labels x ≡ true
part_at c m labels x v held name = (occurs_at c m labels x).1 (v, part_from c m labels x v held name)

occur_both : (g : Grid) (c : Chunking) (m : ℕ) (labels : List ℕ) (a b : ℕ) → c.axes ≡ g.axes → 0 < (between_inside g c m labels a b).count
    → (a ≢ 0) × (b ≢ 0) × (occurs_in c m labels a ≡ true) × (occurs_in c m labels b ≡ true)
occur_both g c m labels a b same some =
    let test : ℕ → Bool = λ e. joins g labels a b e && is_inside c m e in
    let e = (total g test).tie in
    let parts = and_parts (joins g labels a b e) (is_inside c m e) (total-tie g test some).1 in
    let held = and_parts (is_held c m (lower_end c.axes e)) (is_held c m (higher_end e)) parts.1 in
    let low = subst (λ z. is_held c m (lower_end z e) ≡ true) same held.0 in
    let names = InContact-names g labels a b (InContact-from_edge g labels a b e parts.0) in
    let joined = names_of (lower_label g labels e) (higher_label g labels e) a b
    (and_parts (is_contact_edge g labels e) (are (lower_label g labels e) (higher_label g labels e) a b) parts.0).1 in
    let at = by_cases (lower_end g.axes e) (higher_end e) low held.1 joined in
    let some_a = names.0 in
    let some_b = names.1 in
    (omega arith, omega arith, at.0, at.1)
  where
    by_cases : (v w : ℕ) → is_held c m v ≡ true → is_held c m w ≡ true
        → ((label_of labels v ≡ a) × (label_of labels w ≡ b)) ⊎ ((label_of labels v ≡ b) × (label_of labels w ≡ a))
        → (occurs_in c m labels a ≡ true) × (occurs_in c m labels b ≡ true)
    by_cases v w at_v at_w (inl (one, other)) = (part_at c m labels a v at_v one, part_at c m labels b w at_w other)
    by_cases v w at_v at_w (inr (one, other)) = (part_at c m labels a w at_w other, part_at c m labels b v at_v one)

-- ---- the graph

edge_counts : (past : ℕ) (edges : List GraphEdge) (e : GraphEdge) → Contains edges e → 0 < e.contact.count
    → 0 < (contact_in past edges e.a e.b).count
edge_counts past edges e inside some =
    let more = joint-count past (is_between e.a e.b) edges e inside (between_itself e) in
    subst (λ t. 0 < t.count) (sym (contact_in-is past e.a e.b edges)) (omega (arith, more))

region_of : (g : Grid) (c : Chunking) (m : ℕ) (labels : List ℕ) (regions : List Region) (edges : List GraphEdge) (x : ℕ)
    → IsGathered g c m labels regions edges → x ≢ 0 → occurs_in c m labels x ≡ true → HasRegion (record { regions = regions; edges = edges }) x
region_of g c m labels regions edges x all name there =
    let found = named_region regions x (all.names x name ∙ there) in
    let r = found.0 in
    (r.faces, subst (λ n. Contains regions (record { name = n; faces = r.faces })) found.2 found.1)

inside_counts : (g : Grid) (c : Chunking) (m : ℕ) (labels : List ℕ) (regions : List Region) (edges : List GraphEdge) (e : GraphEdge)
    → IsGathered g c m labels regions edges → Contains edges e → 0 < (between_inside g c m labels e.a e.b).count
inside_counts g c m labels regions edges e all inside =
    subst (λ t. 0 < t.count) (all.contacts e.a e.b)
    (edge_counts (edge_count g.axes) edges e inside (All-contains (λ f. 0 < f.contact.count) edges e all.touching inside))

pub gathered-graph : (g : Grid) (c : Chunking) (m : ℕ) (labels : List ℕ) (regions : List Region) (edges : List GraphEdge)
    → c.axes ≡ g.axes → IsGathered g c m labels regions edges → IsGraph (record { regions = regions; edges = edges })
gathered-graph g c m labels regions edges same all = record {
  regions_ascend = all.regions_ascend;
  edges_ascend = all.edges_ascend;
  ordered = λ e inside. All-contains (λ f. f.a < f.b) edges e all.ordered inside;
  touching = λ e inside. All-contains (λ f. 0 < f.contact.count) edges e all.touching inside;
  from_region = λ e inside.
      let at = occur_both g c m labels e.a e.b same (inside_counts g c m labels regions edges e all inside) in
      region_of g c m labels regions edges e.a all at.0 at.2;
  to_region = λ e inside.
      let at = occur_both g c m labels e.a e.b same (inside_counts g c m labels regions edges e all inside) in
      region_of g c m labels regions edges e.b all at.1 at.3;
}

-- a contact that adding no contact makes one with a tie below the past is that one
without_none : (past : ℕ) (d t : Contact) → added d (no_contact past) ≡ t → t.tie < past → d ≡ t
without_none past d t same below =
    let sum = ap (λ (z : Contact). z.sum) same in
    let count = ap (λ (z : Contact). z.count) same in
    let tie = ap (λ (z : Contact). z.tie) same in
    same_contact d t (omega (arith, sum)) (omega (arith, count)) (omega (arith, tie))

tie_below : (g : Grid) (c : Chunking) (m : ℕ) (labels : List ℕ) (a b : ℕ) → 0 < (between_inside g c m labels a b).count
    → (between_inside g c m labels a b).tie < edge_count g.axes
tie_below g c m labels a b some = (total-tie g (λ e. joins g labels a b e && is_inside c m e) some).0

-- the contact of an edge is that of its names inside the cell
contact_of : (g : Grid) (c : Chunking) (m : ℕ) (labels : List ℕ) (regions : List Region) (edges : List GraphEdge) (e : GraphEdge)
    → c.axes ≡ g.axes → IsGathered g c m labels regions edges → Contains edges e
    → e.contact ≡ between_inside g c m labels e.a e.b
contact_of g c m labels regions edges e same all inside =
    let n = edge_count g.axes in
    without_none n e.contact (between_inside g c m labels e.a e.b)
    (sym (edge_contact (record { regions = regions; edges = edges }) (gathered-graph g c m labels regions edges same all) n e inside)
    ∙ all.contacts e.a e.b)
    (tie_below g c m labels e.a e.b (inside_counts g c m labels regions edges e all inside))

edge_there : (g : Grid) (c : Chunking) (m : ℕ) (labels : List ℕ) (regions : List Region) (edges : List GraphEdge) (e : GraphEdge)
    → c.axes ≡ g.axes → IsGathered g c m labels regions edges → e.a < e.b → 0 < (between_inside g c m labels e.a e.b).count
    → e.contact ≡ between_inside g c m labels e.a e.b → Contains edges e
edge_there g c m labels regions edges e same all ordered some contact =
    let n = edge_count g.axes in
    let found = edge_of_contact (record { regions = regions; edges = edges }) (gathered-graph g c m labels regions edges same all) n e.a e.b ordered
    (subst (λ t. 0 < t.count) (sym (all.contacts e.a e.b)) some) in
    let f = found.0 in
    let equal = same_edges f e found.2 found.3
    (contact_of g c m labels regions edges f same all found.1 ∙ (λ i. between_inside g c m labels (found.2 i) (found.3 i)) ∙ sym contact) in
    subst (Contains edges) equal found.1

same_regions : (r s : Region) → r.name ≡ s.name → r.faces ≡ s.faces → r ≡ s
same_regions r s name faces = λ i. record { name = name i; faces = faces i }

region_there : (g : Grid) (c : Chunking) (m : ℕ) (labels : List ℕ) (regions : List Region) (edges : List GraphEdge) (r : Region)
    → IsGathered g c m labels regions edges → r.name ≢ 0 → occurs_in c m labels r.name ≡ true → r.faces ≡ touched_faces c m labels r.name
    → Contains regions r
region_there g c m labels regions edges r all name occurs faces =
    let found = named_region regions r.name (all.names r.name name ∙ occurs) in
    let s = found.0 in
    let same_faces : s.faces ≡ r.faces = sym (faces_of regions s all.regions_ascend found.1) ∙ ap (joined_faces regions) found.2
    ∙ all.faces r.name name ∙ sym faces in
    subst (Contains regions) (same_regions s r found.2 same_faces) found.1

pub gathered-cell : (g : Grid) (c : Chunking) (m : ℕ) (labels : List ℕ) (regions : List Region) (edges : List GraphEdge)
    → c.axes ≡ g.axes → IsGathered g c m labels regions edges
    → IsCellGraph g c m labels (record { regions = regions; edges = edges })
gathered-cell g c m labels regions edges same all = record {
  graph_is = gathered-graph g c m labels regions edges same all;
  regions = λ r. (
    (λ inside.
        let name = All-contains (λ s. s.name ≢ 0) regions r all.named inside in (
          name,
          sym (all.names r.name name) ∙ there_named regions r inside,
          tt,
          sym (faces_of regions r all.regions_ascend inside) ∙ all.faces r.name name,
        )),
    (λ (name, occurs, _, faces). region_there g c m labels regions edges r all name occurs faces),
  );
  edges = λ e. (
    (λ inside. (
      All-contains (λ f. f.a < f.b) edges e all.ordered inside,
      tt,
      tt,
      inside_counts g c m labels regions edges e all inside,
      contact_of g c m labels regions edges e same all inside,
    )),
    (λ (ordered, _, _, some, contact). edge_there g c m labels regions edges e same all ordered some contact),
  );
}
