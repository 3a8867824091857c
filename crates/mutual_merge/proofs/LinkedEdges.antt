-- Links and the edges that they are.
use Rattle.std.proofs.Common.{◌≡◌, inl, inr, ℕ, ◌+◌, ◌^◌, ◌<◌, ◌≤◌, List, [], ◌∷◌, length, get_or, refl, sym, ap, ◌∙◌, subst, arith}
use Rattle.std.specs.Prelude.{Contains, All, AllPairs, sum_by}
use Rattle.std.proofs.lemmas.List.{get_or-map, length-map}
use Rattle.std.proofs.lemmas.List.Sums.{sum_by-cons}
use Rattle.std.proofs.lemmas.List.Elements.{Contains-get_or, All-get_or}
use Rattle.agglo_model.specs.RegionGraph.{Region, GraphEdge, IsGraph, IsWithinEdges, StandsBefore}
use Rattle.agglo_model.proofs.Members.{Contains-map}
use Rattle.mutual_merge.specs.declared.links.Link.{Link}
use Rattle.mutual_merge.specs.Linked.{Ascend, AreLinked, LinkBefore, link_edges, name_at, edge_by, edges_by}
use Rattle.mutual_merge.proofs.RegionPlaces.{place_less, same_place}

-- both places of a link are those of regions
pub record IsInside (n : ℕ) (l : Link) : Type 0 where
  pub a_in : l.a < n
  pub b_in : l.b < n

-- links have as many edges of the grid as the edges that they are
pub same_sums : (name : ℕ → ℕ) (links : List Link) → sum_by (λ e. e.contact.count) (edges_by name links) ≡ link_edges links
same_sums name [] = refl
same_sums name (l ∷ links) =
    sum_by-cons (λ e. e.contact.count) (edge_by name l) (edges_by name links)
    ∙ ap (λ n. l.contact.count + n) (same_sums name links)
    ∙ sym (sum_by-cons (λ m. m.contact.count) l links)

links_before : (rs : List Region) (l m : Link) → Ascend rs → IsInside (length rs) l → IsInside (length rs) m
    → StandsBefore (edge_by (name_at rs) l) (edge_by (name_at rs) m) → LinkBefore l m
links_before rs l m ascend in_l in_m (inl less) = inl (place_less rs l.a m.a ascend in_l.a_in in_m.a_in less)
links_before rs l m ascend in_l in_m (inr (same, less)) =
    inr (same_place rs l.a m.a ascend in_l.a_in in_m.a_in same, place_less rs l.b m.b ascend in_l.b_in in_m.b_in less)

-- links that are the edges of a graph
pub AreLinked-from_edges : (rs : List Region) (es : List GraphEdge) (links : List Link)
    → IsGraph (record { regions = rs; edges = es }) → IsWithinEdges (record { regions = rs; edges = es })
    → length rs ≤ 2 ^ 32 → All (IsInside (length rs)) links → edges_by (name_at rs) links ≡ es → AreLinked rs links
AreLinked-from_edges rs es links is within fit inside same =
    let ascend = is.regions_ascend in
    let name = name_at rs in
    let len = length-map links (edge_by name) in
    record {
      regions_ascend = ascend;
      fit = fit;
      links_ascend = λ i j d before below.
          let stands : StandsBefore (edge_by name (get_or links i d)) (edge_by name (get_or links j d)) =
          subst (λ e. StandsBefore e (edge_by name (get_or links j d))) (get_or-map (edge_by name) links i d (edge_by name d) (omega arith))
          (subst (λ e. StandsBefore (get_or (edges_by name links) i (edge_by name d)) e) (get_or-map (edge_by name) links j d (edge_by name d) below)
          (subst (AllPairs StandsBefore) (sym same) is.edges_ascend i j (edge_by name d) before (omega arith))) in
          links_before rs (get_or links i d) (get_or links j d) ascend
          (All-get_or (IsInside (length rs)) links i d (omega arith) inside) (All-get_or (IsInside (length rs)) links j d below inside) stands;
      links_are = record {
        each = λ k d below.
            let l = get_or links k d in
            let in_l = All-get_or (IsInside (length rs)) links k d below inside in
            let there : Contains es (edge_by name l) =
            subst (λ xs. Contains xs (edge_by name l)) same (Contains-map (edge_by name) links l (Contains-get_or links k d below)) in
            record {
              ordered = place_less rs l.a l.b ascend in_l.a_in in_l.b_in (is.ordered (edge_by name l) there);
              inside = in_l.b_in;
              touching = is.touching (edge_by name l) there;
            };
        within = let sums = same_sums name links in let total = ap (λ xs. sum_by (λ e. e.contact.count) xs) same in omega arith;
      };
    }
