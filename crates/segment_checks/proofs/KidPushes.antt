-- One child more that fits into its cell.
use Rattle.std.proofs.Common.{◌≡◌, inl, inr, ℕ, ◌+◌, List, [], ◌∷◌, ◌++◌, length, get_or, refl, sym, ◌∙◌, subst, arith}
use Rattle.std.proofs.lemmas.Bool.{cases_lt}
use Rattle.std.proofs.lemmas.List.{get_or_append_left, get_or_at, length_push, length-map, map-append}
use Rattle.agglo_model.specs.Grid.{Grid}
use Rattle.agglo_model.specs.Cutting.{Chunking, child}
use Rattle.agglo_model.specs.RegionGraph.{RegionGraph}
use Rattle.region_graph.specs.declared.graph.Residue.{Residue}
use Rattle.parent_join.specs.Kids.{FitsInto, KidsFit, graphs_of}

-- the first children of a node, as many as were made
pub record AreFirstKids (g : Grid) (c : Chunking) (m i : ℕ) (kids : List Residue) : Type 0 where
  pub number : length kids ≡ i
  pub fit : KidsFit g c m (graphs_of kids)

pub no_kids : (g : Grid) (c : Chunking) (m : ℕ) → AreFirstKids g c m 0 []
no_kids g c m = record { number = refl; fit = λ k below. absurd (omega arith) }

fits_more : (g : Grid) (c : Chunking) (m i : ℕ) (graphs : List RegionGraph) (graph : RegionGraph) → length graphs ≡ i
    → KidsFit g c m graphs → FitsInto g c (child c m i) graph → KidsFit g c m (graphs ++ graph ∷ [])
fits_more g c m i graphs graph number fit fits k below =
    let none : RegionGraph = record { regions = []; edges = [] } in
    elim (cases_lt k (length graphs)) [
      | inl earlier ↦ subst (FitsInto g c (child c m k)) (sym (get_or_append_left graphs (graph ∷ []) none k earlier)) (fit k earlier)
      | inr late ↦
          let more = length_push graphs graph in
          let same : i ≡ k = omega arith in
          subst (λ n. FitsInto g c (child c m n) (get_or (graphs ++ graph ∷ []) k none)) same
          (subst (FitsInto g c (child c m i)) (sym (get_or_at graphs graph [] none k (omega arith))) fits)
    ]

pub kids_more : (g : Grid) (c : Chunking) (m i : ℕ) (kids : List Residue) (kid : Residue) → AreFirstKids g c m i kids
    → FitsInto g c (child c m i) kid.graph → AreFirstKids g c m (i + 1) (kids ++ kid ∷ [])
kids_more g c m i kids kid so_far fits = record {
  number = let more = length_push kids kid in let number = so_far.number in omega arith;
  fit = subst (KidsFit g c m) (sym (map-append (λ (r : Residue). r.graph) kids (kid ∷ [])))
      (fits_more g c m i (graphs_of kids) kid.graph (length-map kids (λ (r : Residue). r.graph) ∙ so_far.number) so_far.fit fits);
}
