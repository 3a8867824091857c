-- The regions of one group are a part of the graph to which no edge that reaches the threshold leads.
use Rattle.std.proofs.Common.{◌≡◌, ℕ, ◌<◌, Bool, true, eqb, List, length, map, sym, ap, ◌∙◌, subst, arith}
use Rattle.std.specs.Prelude.{◌↔◌, Contains, slice_index, nat_eq}
use Rattle.std.proofs.lemmas.Bool.{eq-eqb, eqb-true}
use Rattle.std.proofs.lemmas.List.{get_or-map}
use Rattle.std.proofs.lemmas.List.Elements.{All-contains, Contains-get_or}
use Rattle.agglo_model.specs.PairOrder.{Threshold, Reaches}
use Rattle.agglo_model.specs.RegionGraph.{Region, GraphEdge, RegionGraph, HasRegion}
use Rattle.mutual_merge.specs.declared.links.Link.{Link}
use Rattle.mutual_merge.specs.Linked.{AreLinked, IsLink, name_at, edges_by}
use Rattle.mutual_merge.specs.Left.{is_kept}
use Rattle.mutual_merge.specs.Trimmed.{kept_graph}
use Rattle.mutual_merge.specs.Parts.{AreGroups, AreTogether, IsGroup}
use Rattle.mutual_merge.proofs.LeftGraphs.{IsGraph-left, a_in, has_kept, kept_edges_are, kept_name, kept_place}
use Rattle.mutual_merge.proofs.PairRounds.{link_of}

module _ (t : Threshold) (regions : List Region) (links : List Link) (count : ℕ) (groups : List ℕ) (group : ℕ)
    (linked : AreLinked regions links) (are : AreGroups t regions links count groups) where
  abbrev kept : List Bool
  kept = map (λ other. nat_eq other group) groups

  abbrev part : RegionGraph
  part = kept_graph regions links kept

  kept_is : (k : ℕ) → k < length regions → is_kept kept k ≡ eqb (slice_index groups k) group
  kept_is k below = let len = are.one_each in get_or-map (λ other. nat_eq other group) groups k 0 _ (omega arith)

  in_group : (k : ℕ) → k < length regions → is_kept kept k ≡ true → slice_index groups k ≡ group
  in_group k below pass = eqb-true (slice_index groups k) group (sym (kept_is k below) ∙ pass)

  group_in : (k : ℕ) → k < length regions → slice_index groups k ≡ group → is_kept kept k ≡ true
  group_in k below same = kept_is k below ∙ eq-eqb (slice_index groups k) group same

  -- a region of the group has this name
  abbrev IsMember : ℕ → Type 0
  IsMember x = (place : ℕ) × (place < length regions) × (slice_index groups place ≡ group) × (name_at regions place ≡ x)

  member_of : (x : ℕ) → HasRegion part x → IsMember x
  member_of x (f, inside) =
      let place = kept_place regions links kept linked (record { name = x; faces = f }) inside in
      (place.0, place.1, in_group place.0 place.1 place.2, ap (λ r. r.name) place.3)

  has_member : (x : ℕ) → IsMember x → HasRegion part x
  has_member x (k, below, same, name) = has_kept regions links kept linked k x below (group_in k below same) name

  -- both ends of an edge that reaches the threshold are in the part, or none is
  across : (e : GraphEdge) → Contains (edges_by (name_at regions) links) e → Reaches t e.contact → HasRegion part e.a ↔ HasRegion part e.b
  across e inside reaches =
      let found = link_of regions links linked e inside in
      let l : Link = found.0 in
      let is = All-contains (IsLink (length regions)) links l linked.links_are.each found.1 in
      let a_below : l.a < length regions = a_in regions links kept linked l found.1 in
      let b_below : l.b < length regions = is.inside in
      let a_name : name_at regions l.a ≡ e.a = ap (λ z. z.a) found.2 in
      let b_name : name_at regions l.b ≡ e.b = ap (λ z. z.b) found.2 in
      let same : slice_index groups l.a ≡ slice_index groups l.b =
      All-contains (AreTogether t groups) links l are.joined found.1 (subst (λ z. Reaches t z.contact) (sym found.2) reaches) in (
        λ has.
            let there = in_group l.a a_below (kept_name regions links kept linked l.a e.a a_below a_name has) in
            has_member e.b (l.b, b_below, sym same ∙ there, b_name),
        λ has.
            let there = in_group l.b b_below (kept_name regions links kept linked l.b e.b b_below b_name has) in
            has_member e.a (l.a, a_below, same ∙ there, a_name),
      )

  pub group_is : IsGroup t regions links groups group part
  group_is = record {
    is_closed = record {
      graph_is = IsGraph-left regions links kept linked;
      regions = λ r inside.
          let place = kept_place regions links kept linked r inside in
          subst (Contains regions) place.3 (Contains-get_or regions place.0 (record { name = 0; faces = 0 }) place.1);
      edges = kept_edges_are regions links kept linked;
      closed = across;
    };
    members = λ x. (member_of x, has_member x);
  }
