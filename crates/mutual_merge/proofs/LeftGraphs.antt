-- The graph of the regions that are kept is what is left.
use Rattle.std.proofs.Common.{◌≡◌, inl, inr, ℕ, ◌<◌, ◌≤◌, Bool, true, not, ◌&&◌, List, length, get_or, refl, sym, ap, ◌∙◌, subst, zero-add, arith}
use Rattle.std.specs.Prelude.{◌↔◌, Contains, AllPairs, filter, sum_by}
use Rattle.std.specs.List.{range_with_len}
use Rattle.std.proofs.lemmas.Bool.{and_parts, and_from}
use Rattle.std.proofs.lemmas.List.{get_or-map, length-map}
use Rattle.std.proofs.lemmas.List.FromFn.{length-range_with_len, get_or-range_with_len}
use Rattle.std.proofs.lemmas.List.Filters.{sum_by-filter_both}
use Rattle.std.proofs.lemmas.List.Kept.{AllPairs-filter}
use Rattle.std.proofs.lemmas.List.Elements.{All-contains, All-filter, Contains-get_or}
use Rattle.agglo_model.specs.PairOrder.{Threshold, Reaches}
use Rattle.agglo_model.specs.RegionGraph.{Region, GraphEdge, IsGraph, IsWithinEdges, HasRegion}
use Rattle.agglo_model.specs.Settling.{IsLeft, IsLeftOf}
use Rattle.agglo_model.proofs.Members.{Contains-map, Contains-unmap, Contains-filter, Contains-unfilter}
use Rattle.mutual_merge.specs.declared.links.Link.{Link}
use Rattle.mutual_merge.specs.Linked.{Ascend, AreLinked, IsLink, LinkBefore, link_edges, region_at, name_at, faces_at, edge_by, edges_by, graph_of}
use Rattle.mutual_merge.specs.Left.{AreLeft, IsLeftAt, is_kept, edges_left, regions_left}
use Rattle.mutual_merge.proofs.RegionPlaces.{names_ascend, region_place, same_place}
use Rattle.mutual_merge.proofs.LinkedEdges.{same_sums}
use Rattle.mutual_merge.proofs.PairRounds.{linked_graph, link_of}

in_range : (n k : ℕ) → Contains (range_with_len 0 n) k → k < n
in_range n k (i, below, same) =
    let len = length-range_with_len 0 n in
    let here = get_or-range_with_len 0 n i k (omega arith) in
    omega arith

range_has : (n k : ℕ) → k < n → Contains (range_with_len 0 n) k
range_has n k below =
    let len = length-range_with_len 0 n in (k, omega arith, get_or-range_with_len 0 n k k below ∙ zero-add k)

-- the edges of a part of the links have no more edges of the grid than all links
pub filtered-fewer : (regions : List Region) (links : List Link) (p : Link → Bool)
    → sum_by (λ e. e.contact.count) (edges_by (name_at regions) (filter p links)) ≤ link_edges links
filtered-fewer regions links p =
    let sums = same_sums (name_at regions) (filter p links) in
    let both = sum_by-filter_both p (λ l. not (p l)) (λ l. refl) (λ (l : Link). l.contact.count) links in
    omega (arith, sums, both)

pub edges_left-fewer : (regions : List Region) (links : List Link) (kept : List Bool)
    → sum_by (λ e. e.contact.count) (edges_left regions links kept) ≤ link_edges links
edges_left-fewer regions links kept = filtered-fewer regions links (λ l. is_kept kept l.a && is_kept kept l.b)

-- a part of the links, by a test, is linked as they are
pub filtered_linked : (regions : List Region) (links : List Link) (p : Link → Bool) → AreLinked regions links
    → AreLinked regions (filter p links)
filtered_linked regions links p linked = record {
  regions_ascend = linked.regions_ascend;
  fit = linked.fit;
  links_ascend = AllPairs-filter LinkBefore p links linked.links_ascend;
  links_are = record {
    each = All-filter p (IsLink (length regions)) links linked.links_are.each;
    within =
        let both = sum_by-filter_both p (λ l. not (p l)) (λ l. refl) (λ (l : Link). l.contact.count) links in
        let all = linked.links_are.within in omega arith;
  };
}

-- the regions that are kept, and the edges among them
module _ (regions : List Region) (links : List Link) (kept : List Bool) (linked : AreLinked regions links) where
  link_in : (l : Link) → Contains links l → IsLink (length regions) l
  link_in l inside = All-contains (IsLink (length regions)) links l linked.links_are.each inside

  still_linked : AreLinked regions (filter (λ l. is_kept kept l.a && is_kept kept l.b) links)
  still_linked = filtered_linked regions links (λ l. is_kept kept l.a && is_kept kept l.b) linked

  -- the place of a region that is kept
  pub kept_place : (r : Region) → Contains (regions_left regions kept) r
      → (k : ℕ) × (k < length regions) × (is_kept kept k ≡ true) × (region_at regions k ≡ r)
  kept_place r inside =
      let found = Contains-unmap (region_at regions) (filter (is_kept kept) (range_with_len 0 (length regions))) r inside in
      let passed = Contains-unfilter (is_kept kept) (range_with_len 0 (length regions)) found.0 found.1 in
      (found.0, in_range (length regions) found.0 passed.0, passed.1, found.2)

  pub kept_there : (k : ℕ) → k < length regions → is_kept kept k ≡ true → Contains (regions_left regions kept) (region_at regions k)
  kept_there k below pass =
      Contains-map (region_at regions) (filter (is_kept kept) (range_with_len 0 (length regions))) k
      (Contains-filter (is_kept kept) (range_with_len 0 (length regions)) k (range_has (length regions) k below) pass)

  kept_ascend : Ascend (regions_left regions kept)
  kept_ascend i j d before below =
      let ks = filter (is_kept kept) (range_with_len 0 (length regions)) in
      let len = length-map ks (region_at regions) in
      let k = get_or ks i 0 in
      let m = get_or ks j 0 in
      let in_m = in_range (length regions) m (Contains-unfilter (is_kept kept) (range_with_len 0 (length regions)) m (Contains-get_or ks j 0 (omega arith))).0 in
      let up : k < m = AllPairs-filter (λ x y. x < y) (is_kept kept) (range_with_len 0 (length regions)) rising i j 0 before (omega arith) in
      let less = names_ascend regions k m linked.regions_ascend up in_m in
      subst (λ z. z.name < (get_or (regions_left regions kept) j d).name) (sym (get_or-map (region_at regions) ks i 0 d (omega arith)))
      (subst (λ z. name_at regions k < z.name) (sym (get_or-map (region_at regions) ks j 0 d (omega arith))) less)
    where
      rising : AllPairs (λ x y. x < y) (range_with_len 0 (length regions))
      rising i j d before below =
          let len = length-range_with_len 0 (length regions) in
          let one = get_or-range_with_len 0 (length regions) i d (omega arith) in
          let other = get_or-range_with_len 0 (length regions) j d (omega arith) in
          omega arith

  -- the link of an edge that is kept
  pub edge_link : (e : GraphEdge) → Contains (edges_left regions links kept) e
      → (l : Link) × Contains links l × (is_kept kept l.a ≡ true) × (is_kept kept l.b ≡ true) × (edge_by (name_at regions) l ≡ e)
  edge_link e inside =
      let found = link_of regions (filter (λ l. is_kept kept l.a && is_kept kept l.b) links) still_linked e inside in
      let passed = Contains-unfilter (λ l. is_kept kept l.a && is_kept kept l.b) links found.0 found.1 in
      let both = and_parts (is_kept kept found.0.a) (is_kept kept found.0.b) passed.1 in
      (found.0, passed.0, both.0, both.1, found.2)

  pub has_kept : (k x : ℕ) → k < length regions → is_kept kept k ≡ true → name_at regions k ≡ x
      → HasRegion (record { regions = regions_left regions kept; edges = edges_left regions links kept }) x
  has_kept k x below pass name =
      subst (HasRegion (record { regions = regions_left regions kept; edges = edges_left regions links kept })) name
      (faces_at regions k, kept_there k below pass)

  pub a_in : (l : Link) → Contains links l → l.a < length regions
  a_in l inside = let is = link_in l inside in let up = is.ordered in let low = is.inside in omega arith

  pub IsGraph-left : IsGraph (record { regions = regions_left regions kept; edges = edges_left regions links kept })
  IsGraph-left =
      let whole = linked_graph regions (filter (λ l. is_kept kept l.a && is_kept kept l.b) links) still_linked in
      record {
        regions_ascend = kept_ascend;
        edges_ascend = whole.edges_ascend;
        ordered = whole.ordered;
        touching = whole.touching;
        from_region = λ e inside.
            let l = edge_link e inside in has_kept l.0.a e.a (a_in l.0 l.1) l.2 (ap (λ z. z.a) l.4);
        to_region = λ e inside.
            let l = edge_link e inside in has_kept l.0.b e.b (link_in l.0 l.1).inside l.3 (ap (λ z. z.b) l.4);
      }

  pub IsWithinEdges-left : IsWithinEdges (record { regions = regions_left regions kept; edges = edges_left regions links kept })
  IsWithinEdges-left =
      let sums = same_sums (name_at regions) (filter (λ l. is_kept kept l.a && is_kept kept l.b) links) in
      let within = still_linked.links_are.within in
      omega arith

  pub kept_name : (k x : ℕ) → k < length regions → name_at regions k ≡ x
      → HasRegion (record { regions = regions_left regions kept; edges = edges_left regions links kept }) x → is_kept kept k ≡ true
  kept_name k x below name (f, inside) =
      let place = kept_place (record { name = x; faces = f }) inside in
      let same = same_place regions place.0 k linked.regions_ascend place.1 below (ap (λ r. r.name) place.3 ∙ sym name) in
      subst (λ z. is_kept kept z ≡ true) same place.2

  -- the edges that are kept are those among the regions that are
  pub kept_edges_are : (e : GraphEdge) → Contains (edges_left regions links kept) e
      ↔ (Contains (edges_by (name_at regions) links) e
      × HasRegion (record { regions = regions_left regions kept; edges = edges_left regions links kept }) e.a
      × HasRegion (record { regions = regions_left regions kept; edges = edges_left regions links kept }) e.b)
  kept_edges_are e = (
    λ inside.
        let l = edge_link e inside in (
          subst (Contains (edges_by (name_at regions) links)) l.4 (Contains-map (edge_by (name_at regions)) links l.0 l.1),
          IsGraph-left.from_region e inside,
          IsGraph-left.to_region e inside,
        ),
    λ (inside, from, to).
        let found = link_of regions links linked e inside in
        let l = found.0 in
        let a = kept_name l.a e.a (a_in l found.1) (ap (λ z. z.a) found.2) from in
        let b = kept_name l.b e.b (link_in l found.1).inside (ap (λ z. z.b) found.2) to in
        subst (Contains (edges_left regions links kept)) found.2
        (Contains-map (edge_by (name_at regions)) (filter (λ l. is_kept kept l.a && is_kept kept l.b) links) l
        (Contains-filter (λ l. is_kept kept l.a && is_kept kept l.b) links l found.1 (and_from (is_kept kept l.a) (is_kept kept l.b) a b))),
  )

  module _ (t : Threshold) (faces : ℕ) (are_left : AreLeft t faces regions links kept) where
    -- a region is left where its place is
    is_left : (k : ℕ) → k < length regions → IsLeftAt t faces regions links k → IsLeft t faces (graph_of regions links) (region_at regions k)
    is_left k below (inl held) = inl held
    is_left k below (inr (l, inside, at_k, reaches)) =
        inr (
          edge_by (name_at regions) l,
          Contains-map (edge_by (name_at regions)) links l inside,
          elim at_k [ inl a ↦ inl (ap (name_at regions) a) | inr b ↦ inr (ap (name_at regions) b) ],
          reaches,
        )

    left_at : (k : ℕ) → k < length regions → IsLeft t faces (graph_of regions links) (region_at regions k) → IsLeftAt t faces regions links k
    left_at k below (inl held) = inl held
    left_at k below (inr (e, inside, at_r, reaches)) =
        let found = link_of regions links linked e inside in
        let l = found.0 in
        let place_a : e.a ≡ name_at regions k → l.a ≡ k = λ same.
        same_place regions l.a k linked.regions_ascend (a_in l found.1) below (ap (λ z. z.a) found.2 ∙ same) in
        let place_b : e.b ≡ name_at regions k → l.b ≡ k = λ same.
        same_place regions l.b k linked.regions_ascend (link_in l found.1).inside below (ap (λ z. z.b) found.2 ∙ same) in
        inr (
          l,
          found.1,
          elim at_r [ inl a ↦ inl (place_a a) | inr b ↦ inr (place_b b) ],
          subst (λ z. Reaches t z.contact) (sym found.2) reaches,
        )

    pub IsLeftOf-left : IsLeftOf t faces (graph_of regions links) (record { regions = regions_left regions kept; edges = edges_left regions links kept })
    IsLeftOf-left = record {
      graph_is = IsGraph-left;
      regions = λ r. (
        λ inside.
            let place = kept_place r inside in
            let there = Contains-get_or regions place.0 (record { name = 0; faces = 0 }) place.1 in (
              subst (Contains regions) place.3 there,
              subst (IsLeft t faces (graph_of regions links)) place.3
                  (is_left place.0 place.1 ((are_left.each place.0 place.1).0 place.2)),
            ),
        λ (inside, left).
            let place = region_place regions r inside in
            let here = left_at place.0 place.1 (subst (IsLeft t faces (graph_of regions links)) (sym place.2) left) in
            subst (Contains (regions_left regions kept)) place.2
            (kept_there place.0 place.1 ((are_left.each place.0 place.1).1 here)),
      );
      edges = kept_edges_are;
    }
