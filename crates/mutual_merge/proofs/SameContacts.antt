-- Two graphs with the same edges between two names have the same contact there.
use Rattle.std.proofs.Common.{◌≡◌, ◌⊎◌, inl, inr, ℕ, ◌<◌, sym, ◌∙◌, eq-zero-or-pos}
use Rattle.std.specs.Prelude.{◌↔◌, Contains}
use Rattle.agglo_model.specs.RegionGraph.{GraphEdge, RegionGraph, IsGraph, no_contact, contact_in}
use Rattle.agglo_model.proofs.GraphEdges.{edge_contact, edge_of_contact}
use Rattle.agglo_model.proofs.GraphFirsts.{contact_in-none}

module _ (past : ℕ) (part graph : RegionGraph) (part_is : IsGraph part) (is : IsGraph graph) (x y : ℕ) (xy : x < y) where
  pub same_contact : ((e : GraphEdge) → e.a ≡ x → e.b ≡ y → Contains part.edges e ↔ Contains graph.edges e)
      → contact_in past part.edges x y ≡ contact_in past graph.edges x y
  same_contact same =
      by_cases (eq-zero-or-pos (contact_in past graph.edges x y).count) (eq-zero-or-pos (contact_in past part.edges x y).count)
    where
      by_edge : (e : GraphEdge) → Contains part.edges e → (e.a ≡ x) × (e.b ≡ y)
          → contact_in past part.edges x y ≡ contact_in past graph.edges x y
      by_edge e inside (at_a, at_b) =
          (λ i. contact_in past part.edges (sym at_a i) (sym at_b i)) ∙ edge_contact part part_is past e inside
          ∙ sym (edge_contact graph is past e ((same e at_a at_b).0 inside)) ∙ (λ i. contact_in past graph.edges (at_a i) (at_b i))

      by_cases : ((contact_in past graph.edges x y).count ≡ 0) ⊎ (0 < (contact_in past graph.edges x y).count)
          → ((contact_in past part.edges x y).count ≡ 0) ⊎ (0 < (contact_in past part.edges x y).count)
          → contact_in past part.edges x y ≡ contact_in past graph.edges x y
      by_cases (inr some) here =
          let found = edge_of_contact graph is past x y xy some in
          by_edge found.0 ((same found.0 found.2 found.3).1 found.1) (found.2, found.3)
      by_cases (inl none) (inr here) =
          let found = edge_of_contact part part_is past x y xy here in by_edge found.0 found.1 (found.2, found.3)
      by_cases (inl none) (inl gone) =
          contact_in-none part part_is past x y gone ∙ sym (contact_in-none graph is past x y none)

  -- without an edge there is no contact
  pub none_there : ((e : GraphEdge) → e.a ≡ x → e.b ≡ y → ¬ (Contains part.edges e)) → contact_in past part.edges x y ≡ no_contact past
  none_there none = elim (eq-zero-or-pos (contact_in past part.edges x y).count) [
    | inl gone ↦ contact_in-none part part_is past x y gone
    | inr some ↦ let found = edge_of_contact part part_is past x y xy some in absurd (none found.0 found.2 found.3 found.1)
  ]
