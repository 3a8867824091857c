-- What the levels count when one node more is worked.
use Rattle.std.proofs.Common.{◌≡◌, ◌≢◌, inl, inr, ℕ, suc, ◌+◌, ◌-◌, ◌<◌, ◌≤◌, min, List, [], ◌∷◌, ◌++◌, length, sum_by, sym, ap, ap₂, ◌∙◌, arith}
use Rattle.std.specs.List.{range_with_len}
use Rattle.std.proofs.Math.Seq.{get_or-append_seam}
use Rattle.std.proofs.lemmas.Bool.{cases_lt}
use Rattle.std.proofs.lemmas.List.{get_or_append_left}
use Rattle.agglo_model.specs.Greedy.{Merge}
use Rattle.agglo_model.specs.Cutting.{Chunking, cells_at, first_node}
use Rattle.agglo_model.specs.Work.{work_of}
use Rattle.agglo_model.specs.RegionGraph.{RegionGraph, residue_of}
use Rattle.agglo_model.proofs.Levels.{IsOnLevel, first_node_le}
use Rattle.chunk_run.specs.Turns.{nodes_among, count_among, with_node}
use Rattle.work_laws.proofs.RangeSums.{sum_end, same_sums}

-- how many of the first m nodes are on level k
abbrev pub size_among : Chunking → ℕ → ℕ → ℕ
size_among c m k = min (m - first_node c k) (cells_at c k)

-- node m is the next of its level
size_own : (c : Chunking) (m k : ℕ) → IsOnLevel c k m
    → (size_among c (m + 1) k ≡ suc (size_among c m k)) × (first_node c k + size_among c m k ≡ m)
size_own c m k on = (omega (arith, on.from, on.to), omega (arith, on.from, on.to))

-- and changes the number of no other level
size_other : (c : Chunking) (m j k : ℕ) → IsOnLevel c j m → j ≢ k → size_among c (m + 1) k ≡ size_among c m k
size_other c m j k on apart = elim (cases_lt k j) [
  | inl less ↦ omega (arith, on.from, first_node_le c (suc k) j (omega arith))
  | inr more ↦ omega (arith, on.to, first_node_le c (suc j) k (omega arith))
]

-- the nodes of a level among the first m are below m
among_below : (c : Chunking) (m k n : ℕ) → first_node c k ≤ n → n < first_node c k + size_among c m k → n < m
among_below c m k n from to = omega arith

-- with one thing more for node m, what one number of a level counts
counts_more : (f g : ℕ → ℕ) (c : Chunking) (m k : ℕ) → ((n : ℕ) → n < m → g n ≡ f n) → IsOnLevel c k m
    → sum_by g (nodes_among c (m + 1) k) ≡ sum_by f (nodes_among c m k) + g m
counts_more f g c m k same on =
    let size = size_own c m k on in
    ap (λ n. sum_by g (range_with_len (first_node c k) n)) size.0
    ∙ sum_end g (first_node c k) (size_among c m k)
    ∙ ap₂ (λ x n. x + g n)
    (same_sums g f (first_node c k) (size_among c m k) (λ n from to. same n (among_below c m k n from to))) size.1

counts_as_before : (f g : ℕ → ℕ) (c : Chunking) (m j k : ℕ) → ((n : ℕ) → n < m → g n ≡ f n) → IsOnLevel c j m → j ≢ k
    → sum_by g (nodes_among c (m + 1) k) ≡ sum_by f (nodes_among c m k)
counts_as_before f g c m j k same on apart =
    ap (λ n. sum_by g (range_with_len (first_node c k) n)) (size_other c m j k on apart)
    ∙ same_sums g f (first_node c k) (size_among c m k) (λ n from to. same n (among_below c m k n from to))

module _ (c : Chunking) (works : List (List Merge)) (residues : List RegionGraph) (made : List Merge) (left : RegionGraph)
    (m : ℕ) (worked : length works ≡ m) (one_each : length residues ≡ m) where
  -- those of the first nodes stay
  pub work_stays : (n : ℕ) → n < m → work_of (works ++ made ∷ []) n ≡ work_of works n
  work_stays n below = get_or_append_left works (made ∷ []) [] n (omega arith)

  pub residue_stays : (n : ℕ) → n < m → residue_of (residues ++ left ∷ []) n ≡ residue_of residues n
  residue_stays n below = get_or_append_left residues (left ∷ []) (record { regions = []; edges = [] }) n (omega arith)

  -- those of node m come to them
  pub work_added : work_of (works ++ made ∷ []) m ≡ made
  work_added = ap (work_of (works ++ made ∷ [])) (sym worked) ∙ get_or-append_seam works made [] []

  pub residue_added : residue_of (residues ++ left ∷ []) m ≡ left
  residue_added =
      ap (residue_of (residues ++ left ∷ [])) (sym one_each)
      ∙ get_or-append_seam residues left [] (record { regions = []; edges = [] })

  abbrev made_in : List (List Merge) → ℕ → ℕ
  made_in all n = length (work_of all n)

  abbrev passed_in : List RegionGraph → ℕ → ℕ
  passed_in all n = length (residue_of all n).regions

  pub own_level : (k : ℕ) → IsOnLevel c k m → count_among c (works ++ made ∷ []) (residues ++ left ∷ []) (m + 1) k
      ≡ with_node (count_among c works residues m k) (length made) (length left.regions)
  own_level k on =
      let nodes : size_among c (m + 1) k ≡ size_among c m k + 1 = omega (arith, size_own c m k on) in
      let merges = counts_more (made_in works) (made_in (works ++ made ∷ [])) c m k
      (λ n below. ap (λ work. length work) (work_stays n below)) on
      ∙ ap (λ work. sum_by (made_in works) (nodes_among c m k) + length work) work_added in
      let passed = counts_more (passed_in residues) (passed_in (residues ++ left ∷ [])) c m k
      (λ n below. ap (λ graph. length graph.regions) (residue_stays n below)) on
      ∙ ap (λ graph. sum_by (passed_in residues) (nodes_among c m k) + length graph.regions) residue_added in
      λ i. record { nodes = nodes i; merges = merges i; passed = passed i }

  pub other_level : (j k : ℕ) → IsOnLevel c j m → j ≢ k
      → count_among c (works ++ made ∷ []) (residues ++ left ∷ []) (m + 1) k ≡ count_among c works residues m k
  other_level j k on apart =
      let nodes = size_other c m j k on apart in
      let merges = counts_as_before (made_in works) (made_in (works ++ made ∷ [])) c m j k
      (λ n below. ap (λ work. length work) (work_stays n below)) on apart in
      let passed = counts_as_before (passed_in residues) (passed_in (residues ++ left ∷ [])) c m j k
      (λ n below. ap (λ graph. length graph.regions) (residue_stays n below)) on apart in
      λ i. record { nodes = nodes i; merges = merges i; passed = passed i }
