-- The places of regions among those that are kept, and the links between these.
use Rattle.std.proofs.Common.{◌≡◌, inl, inr, ℕ, ◌+◌, ◌<◌, ◌≤◌, Bool, true, false, ◌&&◌, List, [], ◌∷◌, ◌++◌, length, get_or, refl, sym, ap, ◌∙◌, subst, arith}
use Rattle.std.specs.Prelude.{map, filter, sum_by, Contains, All}
use Rattle.std.specs.List.{range_with_len}
use Rattle.std.proofs.lemmas.List.{get_or_append_left, get_or_push, length_push}
use Rattle.std.proofs.lemmas.List.Elements.{All-contains}
use Rattle.std.proofs.lemmas.Bool.{and_parts, both_ways}
use Rattle.agglo_model.specs.PairOrder.{Threshold}
use Rattle.agglo_model.specs.RegionGraph.{Region, IsGraph, IsWithinEdges}
use Rattle.agglo_model.specs.Settling.{IsLeftOf}
use Rattle.agglo_model.proofs.Members.{contains_head, contains_tail, Contains-unmap, All-from_contains, Contains-unfilter}
use Rattle.agglo_model.proofs.Cases.{below_next}
use Rattle.mutual_merge.specs.declared.links.Link.{Link}
use Rattle.mutual_merge.specs.Linked.{AreLinked, IsLink, region_at, name_at, edge_by, edges_by, graph_of}
use Rattle.mutual_merge.specs.Left.{AreLeft, is_kept, edges_left}
use Rattle.mutual_merge.specs.Trimmed.{AreKept, AreTrimmed, IsPart, kept_graph, kept_links, link_at}
use Rattle.mutual_merge.proofs.KeptRegions.{kept_upto-take, kept_upto-skip}
use Rattle.mutual_merge.proofs.LeftGraphs.{edges_left-fewer, IsGraph-left, IsWithinEdges-left, IsLeftOf-left}
use Rattle.mutual_merge.proofs.LinkedEdges.{AreLinked-from_edges, IsInside, same_sums}

-- what is kept of the first i regions
pub record AreKeptTo (regions : List Region) (kept : List Bool) (i : ℕ) (left : List Region) (places : List ℕ) : Type 0 where
  pub regions_are : left ≡ map (region_at regions) (filter (is_kept kept) (range_with_len 0 i))
  pub few : length left ≤ i
  pub one_each : length places ≡ i
  pub inside : (k : ℕ) → k < i → is_kept kept k ≡ true → get_or places k 0 < length left
  pub same : (k : ℕ) → k < i → is_kept kept k ≡ true → region_at left (get_or places k 0) ≡ region_at regions k

pub kept_none : (regions : List Region) (kept : List Bool) → AreKeptTo regions kept 0 [] []
kept_none regions kept = record {
  regions_are = refl;
  few = omega arith;
  one_each = refl;
  inside = λ k below. absurd (omega arith);
  same = λ k below. absurd (omega arith);
}

module _ (regions : List Region) (kept : List Bool) (i : ℕ) (left : List Region) (places : List ℕ) (so_far : AreKeptTo regions kept i left places) where
  abbrev more_places : List ℕ
  more_places = places ++ length left ∷ []

  place_before : (k : ℕ) → k < i → get_or more_places k 0 ≡ get_or places k 0
  place_before k below = let len = so_far.one_each in get_or_append_left places (length left ∷ []) 0 k (omega arith)

  pub kept_skip : is_kept kept i ≡ false → AreKeptTo regions kept (i + 1) left more_places
  kept_skip fail = record {
    regions_are = so_far.regions_are ∙ sym (kept_upto-skip regions kept i fail);
    few = let few = so_far.few in omega arith;
    one_each = length_push places (length left) ∙ ap (λ n. n + 1) so_far.one_each;
    inside = λ k below pass. elim (below_next k i below) [
      | inl before ↦ subst (λ p. p < length left) (sym (place_before k before)) (so_far.inside k before pass)
      | inr last ↦ absurd (both_ways (is_kept kept i) fail (subst (λ n. is_kept kept n ≡ true) last pass))
    ];
    same = λ k below pass. elim (below_next k i below) [
      | inl before ↦ ap (region_at left) (place_before k before) ∙ so_far.same k before pass
      | inr last ↦ absurd (both_ways (is_kept kept i) fail (subst (λ n. is_kept kept n ≡ true) last pass))
    ];
  }

  pub kept_take : (r : Region) → region_at regions i ≡ r → is_kept kept i ≡ true
      → AreKeptTo regions kept (i + 1) (left ++ r ∷ []) more_places
  kept_take r here pass =
      let one_more = length_push left r in
      record {
        regions_are = (λ j. so_far.regions_are j ++ sym here j ∷ []) ∙ sym (kept_upto-take regions kept i pass);
        few = let few = so_far.few in omega arith;
        one_each = length_push places (length left) ∙ ap (λ n. n + 1) so_far.one_each;
        inside = λ k below passes. elim (below_next k i below) [
          | inl before ↦
              let low = so_far.inside k before passes in
              subst (λ p. p < length (left ++ r ∷ [])) (sym (place_before k before)) (omega arith)
          | inr last ↦ subst (λ p. p < length (left ++ r ∷ [])) (sym (place_last k last)) (omega arith)
        ];
        same = λ k below passes. elim (below_next k i below) [
          | inl before ↦
              ap (region_at (left ++ r ∷ [])) (place_before k before)
              ∙ get_or_append_left left (r ∷ []) (record { name = 0; faces = 0 }) (get_or places k 0) (so_far.inside k before passes)
              ∙ so_far.same k before passes
          | inr last ↦
              ap (region_at (left ++ r ∷ [])) (place_last k last)
              ∙ get_or_push left r (record { name = 0; faces = 0 }) (length left) refl
              ∙ sym here ∙ ap (region_at regions) (sym last)
        ];
      }
    where
      place_last : (k : ℕ) → k ≡ i → get_or more_places k 0 ≡ length left
      place_last k last = get_or_push places (length left) 0 k (so_far.one_each ∙ sym last)

pub kept_all : (regions : List Region) (kept : List Bool) (i : ℕ) (left : List Region) (places : List ℕ)
    → i ≡ length regions → AreKeptTo regions kept i left places → AreKept regions kept left places
kept_all regions kept i left places end all =
    let whole = subst (λ n. AreKeptTo regions kept n left places) end all in
    record { regions_are = whole.regions_are; few = whole.few; one_each = whole.one_each; inside = whole.inside; same = whole.same }

module _ (regions : List Region) (links : List Link) (kept : List Bool) (left : List Region) (places : List ℕ)
    (linked : AreLinked regions links) (are_kept : AreKept regions kept left places) where
  abbrev chosen : List Link
  chosen = filter (λ l. is_kept kept l.a && is_kept kept l.b) links

  -- both regions of a link that is kept
  record HasKeptEnds (l : Link) : Type 0 where
    a_in : l.a < length regions
    b_in : l.b < length regions
    a_kept : is_kept kept l.a ≡ true
    b_kept : is_kept kept l.b ≡ true

  ends_of : (l : Link) → Contains chosen l → HasKeptEnds l
  ends_of l inside =
      let passed = Contains-unfilter (λ l. is_kept kept l.a && is_kept kept l.b) links l inside in
      let both = and_parts (is_kept kept l.a) (is_kept kept l.b) passed.1 in
      let is = All-contains (IsLink (length regions)) links l linked.links_are.each passed.0 in
      let up = is.ordered in
      let low = is.inside in
      record { a_in = omega arith; b_in = low; a_kept = both.0; b_kept = both.1 }

  same_link : (l : Link) → HasKeptEnds l → edge_by (name_at left) (link_at places l) ≡ edge_by (name_at regions) l
  same_link l ends =
      let a = are_kept.same l.a ends.a_in ends.a_kept in
      let b = are_kept.same l.b ends.b_in ends.b_kept in
      λ i. record { a = (a i).name; b = (b i).name; contact = l.contact }

  same_links : (ls : List Link) → ((l : Link) → Contains ls l → HasKeptEnds l)
      → edges_by (name_at left) (map (link_at places) ls) ≡ edges_by (name_at regions) ls
  same_links [] ends = refl
  same_links (l ∷ ls) ends =
      λ i. same_link l (ends l (contains_head l ls)) i ∷ same_links ls (λ m later. ends m (contains_tail l m ls later)) i

  same_edges : edges_by (name_at left) (kept_links kept places links) ≡ edges_left regions links kept
  same_edges = same_links chosen ends_of

  inside : All (IsInside (length left)) (kept_links kept places links)
  inside = All-from_contains (IsInside (length left)) (kept_links kept places links) (λ m at_m.
      let found = Contains-unmap (link_at places) chosen m at_m in
      let ends = ends_of found.0 found.1 in
      subst (IsInside (length left)) found.2 (record {
        a_in = are_kept.inside found.0.a ends.a_in ends.a_kept;
        b_in = are_kept.inside found.0.b ends.b_in ends.b_kept;
      }))

  same_graph : kept_graph regions links kept ≡ graph_of left (kept_links kept places links)
  same_graph = λ i. record { regions = sym are_kept.regions_are i; edges = sym same_edges i }

  pub part_is : IsPart regions links kept left (kept_links kept places links)
  part_is = record {
    linked =
        let fit = linked.fit in
        let few = are_kept.few in
        AreLinked-from_edges left (edges_left regions links kept) (kept_links kept places links)
        (subst (λ rs. IsGraph (record { regions = rs; edges = edges_left regions links kept })) (sym are_kept.regions_are)
        (IsGraph-left regions links kept linked))
        (subst (λ rs. IsWithinEdges (record { regions = rs; edges = edges_left regions links kept })) (sym are_kept.regions_are)
        (IsWithinEdges-left regions links kept linked))
        (omega arith) inside same_edges;
    few = are_kept.few;
    fewer =
        let mine = same_sums (name_at left) (kept_links kept places links) in
        let same = ap (sum_by (λ e. e.contact.count)) same_edges in
        let least = edges_left-fewer regions links kept in
        omega (arith, mine, same, least);
    graph_is = same_graph;
  }

-- where what is left is kept, the part is what is left
pub trimmed : (t : Threshold) (faces : ℕ) (regions : List Region) (links : List Link) (kept : List Bool) (left : List Region)
    (left_links : List Link) → AreLinked regions links → AreLeft t faces regions links kept
    → IsPart regions links kept left left_links → AreTrimmed t faces regions links left left_links
trimmed t faces regions links kept left left_links linked are_left part = record {
  linked = part.linked;
  few = part.few;
  fewer = part.fewer;
  left_is = subst (IsLeftOf t faces (graph_of regions links)) part.graph_is (IsLeftOf-left regions links kept linked t faces are_left);
}
