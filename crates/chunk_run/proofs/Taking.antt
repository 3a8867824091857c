-- The children of a node are taken out of those that wait, one after another.
use Rattle.std.proofs.Common.{◌≡◌, ◌≢◌, ◌⊎◌, inl, inr, ℕ, ◌+◌, ◌<◌, List, [], ◌∷◌, ◌++◌, length, get_or, set, Option, Some, None, refl, sym, ap, ◌∙◌, arith}
use Rattle.std.proofs.Math.Seq.{get_or-append_seam}
use Rattle.std.proofs.lemmas.Bool.{cases_lt}
use Rattle.std.proofs.lemmas.List.{get_or_past, get_or_append_left, get_or-set_other, length-append, length-set}
use Rattle.agglo_model.specs.Cutting.{Chunking, IsChunking, node_count, child_count, child}
use Rattle.agglo_model.specs.RegionGraph.{RegionGraph, residue_of}
use Rattle.agglo_model.proofs.Cases.{below_next}
use Rattle.work_laws.proofs.Children.{is_inner, one_child}
use Rattle.chunk_run.specs.Turns.{Waits, AreTaken}

-- what waits has a place in the list
pub waits_inside : (waiting : List (Option RegionGraph)) (n : ℕ) (graph : RegionGraph) → Waits waiting n graph
    → n < length waiting
waits_inside waiting n graph waits = elim (cases_lt n (length waiting)) [
  | inl inside ↦ inside
  | inr past ↦ absurd (no_graph (sym (get_or_past waiting n None past) ∙ waits None))
]
  where
    no_graph : None ≡ Some graph → ⊥
    no_graph same = cc

-- at first none is taken
pub none_taken : (c : Chunking) (m : ℕ) (waiting : List (Option RegionGraph)) → AreTaken c m 0 waiting waiting []
none_taken c m waiting = record {
  one_each = refl;
  taken = λ i below. absurd (omega arith);
  same_length = refl;
  others = λ n d apart. refl;
}

module _ (c : Chunking) (h : IsChunking c) (m : ℕ) (node : m < node_count c) (i : ℕ) (inside : i < child_count c m)
    (before after : List (Option RegionGraph)) (kids : List RegionGraph) (so_far : AreTaken c m i before after kids) where
  -- the next child is none of those that were taken
  next_apart : (j : ℕ) → j < i → child c m i ≢ child c m j
  next_apart j less same =
      let one = one_child c h m node (is_inner c m (omega arith)) i j inside (omega arith) same in
      absurd (omega arith)

  -- so it still waits
  pub next_waits : (graph : RegionGraph) → Waits before (child c m i) graph → Waits after (child c m i) graph
  next_waits graph waits d = so_far.others (child c m i) d next_apart ∙ waits d

  taken_next : (graph : RegionGraph) → Waits before (child c m i) graph → (j : ℕ) (d : Option RegionGraph)
      → (j < i) ⊎ (j ≡ i) → get_or before (child c m j) d ≡ Some (residue_of (kids ++ graph ∷ []) j)
  taken_next graph waits j d (inl less) =
      so_far.taken j less d
      ∙ ap Some (sym (get_or_append_left kids (graph ∷ []) (record { regions = []; edges = [] }) j (omega (arith, so_far.one_each))))
  taken_next graph waits j d (inr same) =
      ap (λ k. get_or before (child c m k) d) same
      ∙ waits d
      ∙ ap Some (sym (get_or-append_seam kids graph [] (record { regions = []; edges = [] })))
      ∙ ap (λ k. Some (residue_of (kids ++ graph ∷ []) k)) (so_far.one_each ∙ sym same)

  -- and is taken
  pub next_taken : (graph : RegionGraph) → Waits before (child c m i) graph
      → AreTaken c m (i + 1) before (set after (child c m i) None) (kids ++ graph ∷ [])
  next_taken graph waits = record {
    one_each = omega (arith, length-append kids (graph ∷ []), so_far.one_each);
    taken = λ j below d. taken_next graph waits j d (below_next j i below);
    same_length = length-set after (child c m i) None ∙ so_far.same_length;
    others = λ n d apart.
        get_or-set_other after (child c m i) n None d (apart i (omega arith))
        ∙ so_far.others n d (λ j less. apart j (omega arith));
  }
