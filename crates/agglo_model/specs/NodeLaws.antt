-- Why work on chunks gives the answer of the whole volume: what holds of connected labels, of frozen names,
-- and of the works of all nodes.
use Rattle.std.specs.Prelude.{◌≡◌, ◌≢◌, ℕ, ◌<◌, ◌≤◌, ◌⊎◌, ◌↔◌, true, IsTrue, List, length, Some, Contains}
use Rattle.agglo_model.specs.Axes.{voxel_count}
use Rattle.agglo_model.specs.Cell.{IsInBox}
use Rattle.agglo_model.specs.Grid.{Grid}
use Rattle.agglo_model.specs.Basins.{AreBasins, label_of}
use Rattle.agglo_model.specs.PairOrder.{Threshold, Reaches}
use Rattle.agglo_model.specs.Contacts.{joins, between, InContact, renamed}
use Rattle.agglo_model.specs.Greedy.{Merge, IsGreedyRun, IsMutual, IsMutualRun, after_merges}
use Rattle.agglo_model.specs.MergeLaws.{SameOutcome}
use Rattle.agglo_model.specs.Connected.{AreConnected}
use Rattle.agglo_model.specs.Cutting.{Chunking, IsChunking, node_count, cells_at, root, parent, low_corner, high_corner}
use Rattle.agglo_model.specs.Freezing.{is_held, is_inside, occurs_in, IsFrozen}
use Rattle.agglo_model.specs.Work.{IsFree, IsReciprocal, IsWork, IsOrderedWork, AreFirstWorks, AreWorks, work_of, labels_before, labels_within, labels_after, IsPassed, IsFirstPartner, all_merges}

-- the cell of a node, as a box
abbrev pub CellsAreBoxes : Type 0
CellsAreBoxes = (c : Chunking) (m v : ℕ) → IsChunking c → m < node_count c → v < voxel_count c.axes
    → (is_held c m v ≡ true) ↔ IsInBox c.axes (low_corner c m) (high_corner c m) v

-- basins are connected
abbrev pub BasinsAreConnected : Type 0
BasinsAreConnected = (g : Grid) (low : ℕ) (labels : List ℕ) → AreBasins g low labels → AreConnected g.axes labels

-- a merge of two names in contact keeps all names connected
abbrev pub MergesKeepConnected : Type 0
MergesKeepConnected = (g : Grid) (labels : List ℕ) (a b : ℕ) → InContact g labels a b
    → AreConnected g.axes labels → AreConnected g.axes (renamed labels a b)

-- a name that is free in a node lies in its cell with all its voxels and all its contact edges
pub record LiesInside (g : Grid) (c : Chunking) (m : ℕ) (labels : List ℕ) (x : ℕ) : Type 0 where
  pub voxels : (v : ℕ) → label_of labels v ≡ x → is_held c m v ≡ true
  pub contacts : (y e : ℕ) → joins g labels x y e ≡ true → is_inside c m e ≡ true

abbrev pub FreeNamesLieInside : Type 0
FreeNamesLieInside = (g : Grid) (c : Chunking) (m : ℕ) (labels : List ℕ) (x : ℕ) → IsChunking c → c.axes ≡ g.axes
    → m < node_count c → AreConnected g.axes labels → x ≢ 0 → IsFree c m labels x → LiesInside g c m labels x

-- Two reciprocal pairs of a node share no name. After the merge of a and b the pair of d and e is still a
-- reciprocal pair of the node, with the same contact, and the two merges give the same labels in either order.
pub record IsNodeDiamond (g : Grid) (t : Threshold) (c : Chunking) (m : ℕ) (labels : List ℕ) (a b d e : ℕ) : Type 0 where
  pub apart : (d ≢ a) × (d ≢ b) × (e ≢ a) × (e ≢ b)
  pub still_reciprocal : IsReciprocal g t c m (renamed labels a b) d e
  pub same_contact : between g (renamed labels a b) d e ≡ between g labels d e
  pub either_order : renamed (renamed labels a b) d e ≡ renamed (renamed labels d e) a b

abbrev pub NodeDiamond : Type 0
NodeDiamond = (g : Grid) (t : Threshold) (c : Chunking) (m : ℕ) (labels : List ℕ) (a b d e : ℕ)
    → IsReciprocal g t c m labels a b → IsReciprocal g t c m labels d e → (d ≢ a) ⊎ (e ≢ b)
    → IsNodeDiamond g t c m labels a b d e

-- works of a node in whatever order give the same labels, by the same merges in some order
abbrev pub WorksAgree : Type 0
WorksAgree = (g : Grid) (t : Threshold) (c : Chunking) (m : ℕ) (labels : List ℕ) (work other : List Merge)
    → IsWork g t c m labels work → IsWork g t c m labels other → SameOutcome labels work other

-- the work in pair order is one of them
abbrev pub OrderedWorkIsWork : Type 0
OrderedWorkIsWork = (g : Grid) (t : Threshold) (c : Chunking) (m : ℕ) (labels : List ℕ) (work : List Merge)
    → IsOrderedWork g t c m labels work → IsWork g t c m labels work

-- from any labels a node has a work in pair order
abbrev pub OrderedWorksExist : Type 0
OrderedWorksExist = (g : Grid) (t : Threshold) (c : Chunking) (m : ℕ) (labels : List ℕ)
    → (work : List Merge) × IsOrderedWork g t c m labels work

-- and one alone
abbrev pub OneOrderedWork : Type 0
OneOrderedWork = (g : Grid) (t : Threshold) (c : Chunking) (m : ℕ) (labels : List ℕ) (work other : List Merge)
    → IsOrderedWork g t c m labels work → IsOrderedWork g t c m labels other → work ≡ other

-- from any labels there are works of all nodes
abbrev pub WorksExist : Type 0
WorksExist = (g : Grid) (t : Threshold) (c : Chunking) (labels : List ℕ)
    → (works : List (List Merge)) × AreWorks g t c labels works

-- what the laws below are about: works of the first nodes on a connected list of labels
pub record AreWorksOn (g : Grid) (t : Threshold) (c : Chunking) (labels : List ℕ) (works : List (List Merge)) : Type 0 where
  pub cutting : IsChunking c
  pub axes : c.axes ≡ g.axes
  pub connected : AreConnected g.axes labels
  pub works_are : AreFirstWorks g t c labels works

-- a name that is frozen in a node after its work has the voxels that it had at the start
abbrev pub FrozenNamesAreWhole : Type 0
FrozenNamesAreWhole = (g : Grid) (t : Threshold) (c : Chunking) (labels : List ℕ) (works : List (List Merge))
    → AreWorksOn g t c labels works → (m : ℕ) → m < length works → (x : ℕ) → IsFrozen c m (labels_after labels works m) x
    → (v : ℕ) → (label_of (labels_after labels works m) v ≡ x) ↔ (label_of labels v ≡ x)

-- no work between that of a node and that of its parent changes a label in the node's cell
abbrev pub CellsWait : Type 0
CellsWait = (g : Grid) (t : Threshold) (c : Chunking) (labels : List ℕ) (works : List (List Merge))
    → AreWorksOn g t c labels works → (m p : ℕ) → p ≤ length works → m < node_count c → parent c m ≡ Some p
    → (v : ℕ) → is_held c m v ≡ true → label_of (labels_before labels works p) v ≡ label_of (labels_after labels works m) v

-- before the work of a leaf, the labels in its cell are those from the start
abbrev pub LeavesStartFresh : Type 0
LeavesStartFresh = (g : Grid) (t : Threshold) (c : Chunking) (labels : List ℕ) (works : List (List Merge))
    → AreWorksOn g t c labels works → (m : ℕ) → m ≤ length works → m < cells_at c 0
    → (v : ℕ) → is_held c m v ≡ true → label_of (labels_before labels works m) v ≡ label_of labels v

-- a name of a cell that isn't passed is in no later merge, and none of the two of a first pair that reaches,
-- whether before a later work or between its merges
pub record IsDropped (g : Grid) (t : Threshold) (labels : List ℕ) (works : List (List Merge)) (m x : ℕ) : Type 0 where
  pub in_no_merge : (n : ℕ) (merge : Merge) → m < n → Contains (work_of works n) merge
      → (merge.survivor ≢ x) × (merge.absorbed ≢ x)
  pub in_no_pair : (n k y z : ℕ) → m < n → IsFirstPartner g (labels_within labels works n k) y z
      → Reaches t (between g (labels_within labels works n k) y z) → (y ≢ x) × (z ≢ x)

abbrev pub DroppedNamesStay : Type 0
DroppedNamesStay = (g : Grid) (t : Threshold) (c : Chunking) (labels : List ℕ) (works : List (List Merge))
    → AreWorksOn g t c labels works → (m x : ℕ) → m < length works → x ≢ 0
    → IsTrue (occurs_in c m (labels_after labels works m) x)
    → ¬ (IsPassed g t c m (labels_after labels works m) x) → IsDropped g t labels works m x

-- a reciprocal pair of the whole volume is one of the root
abbrev pub RootHasAllPairs : Type 0
RootHasAllPairs = (g : Grid) (t : Threshold) (c : Chunking) → IsChunking c → c.axes ≡ g.axes → (labels : List ℕ) (a b : ℕ)
    → IsMutual g t labels a b → IsReciprocal g t c (root c) labels a b

-- the works of all nodes, one after another, are a run of reciprocal merges of the whole volume
abbrev pub WorksAreRun : Type 0
WorksAreRun = (g : Grid) (t : Threshold) (c : Chunking) (labels : List ℕ) (works : List (List Merge))
    → AreWorksOn g t c labels works → length works ≡ node_count c → IsMutualRun g t labels (all_merges works)

-- together they are the merges of greedy agglomeration in some order, and the root's work leaves its last labels
abbrev pub WorksAreGreedy : Type 0
WorksAreGreedy = (g : Grid) (t : Threshold) (c : Chunking) (labels : List ℕ) (works : List (List Merge)) (greedy : List Merge)
    → AreWorksOn g t c labels works → length works ≡ node_count c → IsGreedyRun g t labels greedy
    → SameOutcome labels (all_merges works) greedy
    × (labels_after labels works (root c) ≡ after_merges labels greedy)
