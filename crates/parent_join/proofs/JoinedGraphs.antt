-- Lists that were gathered of a node's children and across the faces between them make its joined graph.
use Rattle.std.proofs.Common.{◌≡◌, ◌⊎◌, inl, inr, ℕ, suc, ◌+◌, ◌<◌, ◌≤◌, Bool, true, false, cond, not, ◌&&◌, List, [], ◌∷◌, ◌++◌, length, count_by, refl, sym, ap, ◌∙◌, subst, arith}
use Rattle.std.specs.Prelude.{All, AllPairs, Contains, filter}
use Rattle.std.proofs.lemmas.Bool.{cases_Bool, and_parts, and_from, false≢true}
use Rattle.std.proofs.lemmas.List.Elements.{All-append, All-contains, All-filter, Contains-append_cases}
use Rattle.std.proofs.lemmas.List.Filters.{sum_by-filter_both}
use Rattle.agglo_model.specs.Axes.{IsWithinLimits, edge_count, is_edge}
use Rattle.agglo_model.specs.Grid.{Grid}
use Rattle.agglo_model.specs.PairOrder.{Contact, added, most_edges}
use Rattle.agglo_model.specs.Contacts.{edge_numbers, joins}
use Rattle.agglo_model.specs.Cutting.{Chunking, IsChunking, node_count, level_of, child_count, child}
use Rattle.agglo_model.specs.RegionGraph.{Region, GraphEdge, RegionGraph, IsGraph, HasRegion, StandsBefore, is_between, no_contact, contact_in, residue_of}
use Rattle.agglo_model.specs.Joining.{IsJoined, or_none, between_children, is_crossing, is_named, joined_faces, kept_edges, kept_region, kept_regions}
use Rattle.agglo_model.proofs.GraphContacts.{same_contact, joint-count, joint-none, contact_in-is, contact_in-append, contact_in-tie-le, added-none}
use Rattle.agglo_model.proofs.GraphEdges.{between_itself, between_names}
use Rattle.agglo_model.proofs.Members.{contains_none, All-from_contains}
use Rattle.agglo_model.proofs.Totals.{total-tie}
use Rattle.agglo_model.proofs.RegionLists.{named_region, region_named}
use Rattle.region_graph.specs.Lists.{AreOrdered, AreTouching, SameContacts, SameRegions, count_of}
use Rattle.region_graph.proofs.CellGraphs.{faces_of}
use Rattle.work_laws.proofs.AddedContacts.{listed}
use Rattle.work_laws.proofs.KeptRegions.{from_kept}
use Rattle.parent_join.specs.Across.{across, are_named}
use Rattle.parent_join.specs.Kids.{KidsFit}
use Rattle.parent_join.proofs.AnyPast.{contact_at}
use Rattle.parent_join.proofs.FewEdges.{pairs_count, all_count}
use Rattle.parent_join.proofs.NamedEdges.{contact_in-named}

-- ---- the names of the children

-- an edge of the children is that of one of them
kid_edge : (kids : List RegionGraph) (e : GraphEdge) → Contains (kept_edges kids) e
    → (k : ℕ) × (k < length kids) × Contains (residue_of kids k).edges e
kid_edge [] e inside = absurd (contains_none e inside)
kid_edge (kid ∷ kids) e inside = elim (Contains-append_cases kid.edges (kept_edges kids) e inside) [
  | inl here ↦ (0, omega arith, here)
  | inr later ↦ (let found = kid_edge kids e later in (suc found.0, omega (arith, found.1), found.2))
]

abbrev AreGraphs : List RegionGraph → Type 0
AreGraphs kids = (k : ℕ) → k < length kids → IsGraph (residue_of kids k)

module _ (c : Chunking) (m : ℕ) (kids : List RegionGraph) (graphs : AreGraphs kids) where
  end_named : (k x : ℕ) → k < length kids → HasRegion (residue_of kids k) x → is_named (kept_regions c m 0 kids) x ≡ true
  end_named k x below (faces, there) =
      let r : Region = record { name = x; faces = faces } in
      region_named (kept_regions c m 0 kids) x (kept_region c m (child c m (0 + k)) r) (from_kept c m 0 kids k r below there) refl

  ends_named : (e : GraphEdge) → Contains (kept_edges kids) e
      → (is_named (kept_regions c m 0 kids) e.a ≡ true) × (is_named (kept_regions c m 0 kids) e.b ≡ true)
  ends_named e inside =
      let found = kid_edge kids e inside in
      let is = graphs found.0 found.1 in
      (end_named found.0 e.a found.1 (is.from_region e found.2), end_named found.0 e.b found.1 (is.to_region e found.2))

  -- the children have no contact of a name that is none of theirs
  kids_apart : (past x y : ℕ) → (is_named (kept_regions c m 0 kids) x && is_named (kept_regions c m 0 kids) y) ≡ false
      → contact_in past (kept_edges kids) x y ≡ no_contact past
  kids_apart past x y other =
      contact_in-is past x y (kept_edges kids)
      ∙ joint-none past (is_between x y) (kept_edges kids) (λ e inside. elim (cases_Bool (is_between x y e)) [
        | inr fail ↦ fail
        | inl pass ↦
            let names = ends_named e inside in
            absurd (false≢true (sym other ∙ both x y e.a e.b (between_names x y e pass) names.0 names.1))
      ])
    where
      both : (x y a b : ℕ) → ((a ≡ x) × (b ≡ y)) ⊎ ((a ≡ y) × (b ≡ x))
          → is_named (kept_regions c m 0 kids) a ≡ true → is_named (kept_regions c m 0 kids) b ≡ true
          → (is_named (kept_regions c m 0 kids) x && is_named (kept_regions c m 0 kids) y) ≡ true
      both x y a b (inl (same_a, same_b)) named_a named_b =
          and_from (is_named (kept_regions c m 0 kids) x) (is_named (kept_regions c m 0 kids) y)
          (ap (is_named (kept_regions c m 0 kids)) (sym same_a) ∙ named_a) (ap (is_named (kept_regions c m 0 kids)) (sym same_b) ∙ named_b)
      both x y a b (inr (same_a, same_b)) named_a named_b =
          and_from (is_named (kept_regions c m 0 kids) x) (is_named (kept_regions c m 0 kids) y)
          (ap (is_named (kept_regions c m 0 kids)) (sym same_b) ∙ named_b) (ap (is_named (kept_regions c m 0 kids)) (sym same_a) ∙ named_a)

-- ---- what was gathered

-- the edges from child to child, summed up
pub record AreAcross (g : Grid) (c : Chunking) (m : ℕ) (labels : List ℕ) (es : List GraphEdge) : Type 0 where
  pub touching : AreTouching es
  pub contacts : (x y : ℕ) → contact_in (edge_count g.axes) es x y ≡ across g c m labels x y

across_at : (g : Grid) (c : Chunking) (m : ℕ) (labels : List ℕ) (es : List GraphEdge) (past x y : ℕ) → AreAcross g c m labels es
    → contact_in past es x y ≡ listed past (across g c m labels x y)
across_at g c m labels es past x y are =
    let n = edge_count g.axes in
    let same = are.contacts x y in
    contact_at past n x y es are.touching (λ some.
    subst (λ d. d.tie < n) (sym same)
    (total-tie g (λ e. joins g labels x y e && is_crossing c m e) (subst (λ d. 0 < d.count) same some)).0)
    ∙ ap (listed past) same

-- the lists of a graph in order, and what they say
pub record AreJoined (g : Grid) (c : Chunking) (m : ℕ) (labels : List ℕ) (kids : List RegionGraph) (crossing : List GraphEdge)
    (regions : List Region) (edges : List GraphEdge) : Type 0 where
  pub graphs : AreGraphs kids
  pub across_are : AreAcross g c m labels crossing
  pub regions_ascend : AllPairs (λ r s. r.name < s.name) regions
  pub same_regions : SameRegions (kept_regions c m 0 kids) regions
  pub edges_ascend : AllPairs StandsBefore edges
  pub ordered : AreOrdered edges
  pub touching : AreTouching edges
  pub same_contacts : SameContacts (kept_edges kids ++ filter (are_named regions) crossing) edges

-- a contact with no tie past all takes another whether that is listed or not
low_added : (past : ℕ) (d f : Contact) → d.tie ≤ past → added d (added f (no_contact past)) ≡ added d f
low_added past d f low = same_contact (added d (added f (no_contact past))) (added d f) (omega arith) (omega arith) (omega arith)

join_step : (b : Bool) (past : ℕ) (d f : Contact) → d.tie ≤ past → (b ≡ false → d ≡ no_contact past)
    → added d (cond b (added f (no_contact past)) (no_contact past)) ≡ cond b (added d f) (no_contact past)
join_step true past d f low none = low_added past d f low
join_step false past d f low none = added-none past d low ∙ none refl

module _ (g : Grid) (c : Chunking) (m : ℕ) (labels : List ℕ) (kids : List RegionGraph) (crossing : List GraphEdge)
    (regions : List Region) (edges : List GraphEdge) (are : AreJoined g c m labels kids crossing regions edges) where
  contacts_are : (past x y : ℕ) → contact_in past edges x y
      ≡ cond (is_named (kept_regions c m 0 kids) x && is_named (kept_regions c m 0 kids) y)
      (added (contact_in past (kept_edges kids) x y) (between_children past g c m labels x y)) (no_contact past)
  contacts_are past x y =
      let inner = contact_in past (kept_edges kids) x y in
      let outer = across g c m labels x y in
      are.same_contacts past x y
      ∙ contact_in-append past x y (kept_edges kids) (filter (are_named regions) crossing)
      ∙ ap (added inner) (contact_in-named past x y regions crossing
      ∙ (λ i. cond (are.same_regions.names x i && are.same_regions.names y i)
      (across_at g c m labels crossing past x y are.across_are i) (no_contact past)))
      ∙ join_step (is_named (kept_regions c m 0 kids) x && is_named (kept_regions c m 0 kids) y) past inner (or_none past outer)
      (contact_in-tie-le past x y (kept_edges kids)) (kids_apart c m kids are.graphs past x y)

  region_named_so : (x : ℕ) → is_named (kept_regions c m 0 kids) x ≡ true → (r : Region) × Contains regions r × (r.name ≡ x)
  region_named_so x named = named_region regions x (are.same_regions.names x ∙ named)

  has_region : (x : ℕ) → is_named (kept_regions c m 0 kids) x ≡ true → HasRegion (record { regions = regions; edges = edges }) x
  has_region x named =
      let found = region_named_so x named in
      let r = found.0 in
      (r.faces, subst (λ n. Contains regions (record { name = n; faces = r.faces })) found.2 found.1)

  some_named : (d f : Contact) (b : Bool) → 0 < (cond b d f).count → f.count ≡ 0 → b ≡ true
  some_named d f true some none = refl
  some_named d f false some none = absurd (omega arith)

  both_named : (e : GraphEdge) → Contains edges e
      → (is_named (kept_regions c m 0 kids) e.a ≡ true) × (is_named (kept_regions c m 0 kids) e.b ≡ true)
  both_named e inside =
      let n = edge_count g.axes in
      let touch = All-contains (λ f. 0 < f.contact.count) edges e are.touching inside in
      let more = joint-count n (is_between e.a e.b) edges e inside (between_itself e) in
      let some : 0 < (contact_in n edges e.a e.b).count =
      subst (λ d. 0 < d.count) (sym (contact_in-is n e.a e.b edges)) (omega (arith, touch, more)) in
      and_parts (is_named (kept_regions c m 0 kids) e.a) (is_named (kept_regions c m 0 kids) e.b)
      (some_named _ (no_contact n) (is_named (kept_regions c m 0 kids) e.a && is_named (kept_regions c m 0 kids) e.b)
      (subst (λ d. 0 < d.count) (contacts_are n e.a e.b) some) refl)

  pub joined-graph : IsGraph (record { regions = regions; edges = edges })
  joined-graph = record {
    regions_ascend = are.regions_ascend;
    edges_ascend = are.edges_ascend;
    ordered = λ e inside. All-contains (λ f. f.a < f.b) edges e are.ordered inside;
    touching = λ e inside. All-contains (λ f. 0 < f.contact.count) edges e are.touching inside;
    from_region = λ e inside. has_region e.a (both_named e inside).0;
    to_region = λ e inside. has_region e.b (both_named e inside).1;
  }

  region_there : (r : Region) → is_named (kept_regions c m 0 kids) r.name ≡ true → r.faces ≡ joined_faces (kept_regions c m 0 kids) r.name
      → Contains regions r
  region_there r named faces =
      let found = region_named_so r.name named in
      let s = found.0 in
      let same_faces : s.faces ≡ r.faces = sym (faces_of regions s are.regions_ascend found.1) ∙ ap (joined_faces regions) found.2
      ∙ are.same_regions.faces r.name ∙ sym faces in
      subst (Contains regions) (λ i. record { name = found.2 i; faces = same_faces i }) found.1

  pub joined-is : IsJoined g c m labels kids (record { regions = regions; edges = edges })
  joined-is = record {
    graph_is = joined-graph;
    regions = λ r. (
      (λ inside. (
        sym (are.same_regions.names r.name) ∙ region_named regions r.name r inside refl,
        sym (faces_of regions r are.regions_ascend inside) ∙ are.same_regions.faces r.name,
      )),
      (λ (named, faces). region_there r named faces),
    );
    contacts = λ past x y _. contacts_are past x y;
  }

-- what holds of each graph of a list
pub graphs_at : (kids : List RegionGraph) → All IsGraph kids → AreGraphs kids
graphs_at kids all k below = all k (record { regions = []; edges = [] }) below

-- ---- how many edges there are

-- some edges of a list have no more edges of the grid than all
filter-count : (p : GraphEdge → Bool) (es : List GraphEdge) → count_of (filter p es) ≤ count_of es
filter-count p es =
    let both = sum_by-filter_both p (λ e. not (p e)) (λ e. refl) (λ (e : GraphEdge). e.contact.count) es in
    omega (arith, both)

-- the edges from child to child, summed up in order, have no more edges of the grid than cross there
across_count : (g : Grid) (c : Chunking) (m : ℕ) (labels : List ℕ) (es : List GraphEdge) → AreAcross g c m labels es
    → AllPairs StandsBefore es → AreOrdered es
    → count_of es ≤ count_by (λ k. is_edge g.axes k && is_crossing c m k) (edge_numbers g)
across_count g c m labels es are ascend ordered =
    pairs_count g labels (is_crossing c m) es ascend (λ e inside. All-contains (λ f. f.a < f.b) es e ordered inside)
    (λ e inside.
    let n = edge_count g.axes in
    let more = joint-count n (is_between e.a e.b) es e inside (between_itself e) in
    subst (λ d. e.contact.count ≤ d.count) (sym (contact_in-is n e.a e.b es) ∙ are.contacts e.a e.b) more)

kids_ordered : (kids : List RegionGraph) → AreGraphs kids → AreOrdered (kept_edges kids)
kids_ordered kids graphs = All-from_contains (λ e. e.a < e.b) (kept_edges kids) (λ e inside.
    let found = kid_edge kids e inside in
    (graphs found.0 found.1).ordered e found.2)

-- the edges of the children, and those of the named ones from child to child
module _ (g : Grid) (c : Chunking) (h : IsChunking c) (m : ℕ) (node : m < node_count c) (inner : 0 < level_of c m) (labels : List ℕ)
    (kids : List RegionGraph) (regions : List Region) (crossing : List GraphEdge) where
  pub all_ordered : AreGraphs kids → AreOrdered crossing → AreOrdered (kept_edges kids ++ filter (are_named regions) crossing)
  all_ordered graphs ordered =
      All-append (λ (e : GraphEdge). e.a < e.b) (kept_edges kids) (filter (are_named regions) crossing)
      (kids_ordered kids graphs) (All-filter (are_named regions) (λ (e : GraphEdge). e.a < e.b) crossing ordered)

  pub all_few : IsWithinLimits g.axes → length kids ≡ child_count c m → KidsFit g c m kids → AreAcross g c m labels crossing
      → AllPairs StandsBefore crossing → AreOrdered crossing
      → count_of (kept_edges kids ++ filter (are_named regions) crossing) ≤ most_edges
  all_few limits one_each fit across_are ascend ordered =
      let across_few = across_count g c m labels crossing across_are ascend ordered in
      let fewer = filter-count (are_named regions) crossing in
      all_count c h m node inner g kids (filter (are_named regions) crossing) limits one_each (λ k below. (fit k below).few)
      (omega (arith, across_few, fewer))

-- ---- from list to list

-- the lists before they are put in order: the regions and edges of the children, and the edges from child to child
pub record AreFound (g : Grid) (c : Chunking) (m : ℕ) (labels : List ℕ) (kids : List RegionGraph) (regions : List Region)
    (edges crossing : List GraphEdge) : Type 0 where
  pub graphs : AreGraphs kids
  pub regions_are : regions ≡ kept_regions c m 0 kids
  pub edges_are : edges ≡ kept_edges kids
  pub contacts : (x y : ℕ) → contact_in (edge_count g.axes) crossing x y ≡ across g c m labels x y

pub found_lists : (g : Grid) (c : Chunking) (m : ℕ) (labels : List ℕ) (kids : List RegionGraph) (regions : List Region)
    (edges crossing : List GraphEdge) → All IsGraph kids → regions ≡ kept_regions c m 0 kids → edges ≡ kept_edges kids
    → ((x y : ℕ) → contact_in (edge_count g.axes) crossing x y ≡ across g c m labels x y)
    → AreFound g c m labels kids regions edges crossing
found_lists g c m labels kids regions edges crossing graphs regions_are edges_are contacts = record {
  graphs = graphs_at kids graphs;
  regions_are = regions_are;
  edges_are = edges_are;
  contacts = contacts;
}

-- edges in order
pub record AreSummed (edges : List GraphEdge) : Type 0 where
  pub ascend : AllPairs StandsBefore edges
  pub ordered : AreOrdered edges
  pub touching : AreTouching edges

pub found_across : (g : Grid) (c : Chunking) (m : ℕ) (labels : List ℕ) (kids : List RegionGraph) (raw : List Region)
    (start raw_crossing crossing : List GraphEdge) → AreFound g c m labels kids raw start raw_crossing
    → SameContacts raw_crossing crossing → AreTouching crossing → AreAcross g c m labels crossing
found_across g c m labels kids raw start raw_crossing crossing found same touching = record {
  touching = touching;
  contacts = λ x y. same (edge_count g.axes) x y ∙ found.contacts x y;
}

pub found_joined : (g : Grid) (c : Chunking) (m : ℕ) (labels : List ℕ) (kids : List RegionGraph) (raw regions : List Region)
    (start raw_crossing crossing all edges : List GraphEdge) → AreFound g c m labels kids raw start raw_crossing
    → AllPairs (λ r s. r.name < s.name) regions → SameRegions raw regions
    → SameContacts raw_crossing crossing → AreTouching crossing
    → all ≡ start ++ filter (are_named regions) crossing → SameContacts all edges → AreSummed edges
    → AreJoined g c m labels kids crossing regions edges
found_joined g c m labels kids raw regions start raw_crossing crossing all edges found ascend same_regions same_crossing touching
    all_is same_edges summed = record {
      graphs = found.graphs;
      across_are = found_across g c m labels kids raw start raw_crossing crossing found same_crossing touching;
      regions_ascend = ascend;
      same_regions = subst (λ rs. SameRegions rs regions) found.regions_are same_regions;
      edges_ascend = summed.ascend;
      ordered = summed.ordered;
      touching = summed.touching;
      same_contacts = subst (λ es. SameContacts es edges) (all_is ∙ ap (λ es. es ++ filter (are_named regions) crossing) found.edges_are)
          same_edges;
    }
