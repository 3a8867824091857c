-- What is left of a settled graph, by the places of its regions.
use Rattle.std.specs.Prelude.{◌≡◌, ◌≢◌, ℕ, ◌<◌, ◌⊎◌, ◌↔◌, Bool, false, ◌&&◌, IsTrue, List, map, filter, length, Contains, slice_index_or, bit_and}
use Rattle.std.specs.List.{range_with_len}
use Rattle.agglo_model.specs.PairOrder.{Threshold, Reaches}
use Rattle.agglo_model.specs.RegionGraph.{Region, GraphEdge}
use Rattle.mutual_merge.specs.declared.links.Link.{Link}
use Rattle.mutual_merge.specs.Linked.{IsAtPlace, region_at, faces_at, name_at, edges_by}

-- whether the region at a place is kept
abbrev pub is_kept : List Bool → ℕ → Bool
is_kept kept k = slice_index_or kept k false

-- held says which regions are held back
pub record AreHeldBack (faces : ℕ) (regions : List Region) (held : List Bool) : Type 0 where
  pub one_each : length held ≡ length regions
  pub each : (k : ℕ) → k < length regions → IsTrue (is_kept held k) ↔ (bit_and (faces_at regions k) faces ≢ 0)

-- a link at the place reaches the threshold
abbrev pub HasReaching : Threshold → List Link → ℕ → Type 0
HasReaching t links k = (l : Link) × Contains links l × IsAtPlace k l × Reaches t l.contact

-- besides those from before, the regions of links that reach the threshold are kept
pub record KeepsReaching (t : Threshold) (links : List Link) (old new : List Bool) : Type 0 where
  pub one_each : length new ≡ length old
  pub each : (k : ℕ) → k < length old → IsTrue (is_kept new k) ↔ (IsTrue (is_kept old k) ⊎ HasReaching t links k)

-- the region at a place is held back, or one of its links reaches the threshold
abbrev pub IsLeftAt : Threshold → ℕ → List Region → List Link → ℕ → Type 0
IsLeftAt t faces regions links k = (bit_and (faces_at regions k) faces ≢ 0)
    ⊎ HasReaching t links k

-- kept is what is left
pub record AreLeft (t : Threshold) (faces : ℕ) (regions : List Region) (links : List Link) (kept : List Bool) : Type 0 where
  pub one_each : length kept ≡ length regions
  pub each : (k : ℕ) → k < length regions → IsTrue (is_kept kept k) ↔ IsLeftAt t faces regions links k

-- the regions that are kept, and the edges between them
abbrev pub regions_left : List Region → List Bool → List Region
regions_left regions kept = map (region_at regions) (filter (is_kept kept) (range_with_len 0 (length regions)))

abbrev pub edges_left : List Region → List Link → List Bool → List GraphEdge
edges_left regions links kept =
    edges_by (name_at regions) (filter (λ l. is_kept kept l.a && is_kept kept l.b) links)
