-- Nodes that are handed out to lanes, and come back worked.
use Rattle.std.specs.Prelude.{◌≡◌, ℕ, ◌+◌, ◌-◌, ◌<◌, ◌≤◌, List, [], length, map, IsPermutation, Option, Result, Ok, Vec, flat_map, slice_index_or}
use Rattle.std.specs.List.{range_with_len}
use Rattle.agglo_model.specs.Greedy.{Merge}
use Rattle.agglo_model.specs.Cutting.{Chunking, node_count, child, child_count}
use Rattle.agglo_model.specs.RegionGraph.{RegionGraph, residue_of}
use Rattle.agglo_model.specs.Report.{Level}
use Rattle.parent_join.specs.Kids.{graphs_of}
use Rattle.region_graph.specs.SiteView.{SiteView}
use Rattle.chunk_run.specs.declared.lanes.Job.{Job}
use Rattle.chunk_run.specs.declared.lanes.Lane.{Lane}
use Rattle.chunk_run.specs.declared.lanes.Worked.{Worked}
use Rattle.chunk_run.specs.Turns.{AreFromChildren, HasWorked, TakesTurn}

-- ---- lanes

-- the kids of each job
abbrev pub kid_lists : List Job → List (List RegionGraph)
kid_lists jobs = map (λ job. graphs_of job.kids.items) jobs

abbrev pub nodes_of : List Job → List ℕ
nodes_of jobs = map (λ job. job.node) jobs

abbrev pub jobs_in : List Lane → List Job
jobs_in lanes = flat_map (λ lane. lane.jobs.items) lanes

-- a job that can be done: its kids are residues of the children of its node
pub record IsReady (s : SiteView) (job : Job) : Type 0 where
  pub node : job.node < node_count s.cutting
  pub kids : AreFromChildren s job.node (graphs_of job.kids.items)

-- what came of a job
pub record IsDone (s : SiteView) (job : Job) (done : Worked) : Type 0 where
  pub same_node : done.node ≡ job.node
  pub turn : TakesTurn s job.node (graphs_of job.kids.items) done.settled.merges.items done.settled.residue

-- the nodes from `first` on, in order, have taken their turns, each with the kids at its place
pub record AreTurns (s : SiteView) (first : ℕ) (kids : List (List RegionGraph)) (done : List Worked) : Type 0 where
  pub numbers : (i : ℕ) (d : Worked) → i < length done → (slice_index_or done i d).node ≡ first + i
  pub turns : (i : ℕ) (d : Worked) → i < length done → TakesTurn s (first + i) (slice_index_or kids i [])
      (slice_index_or done i d).settled.merges.items (slice_index_or done i d).settled.residue

-- what the lanes have done, in one list, if all of them have ended well
abbrev pub ArePartsDone : {E A : Type 0} → List (Result (Vec Worked A) E) → List Worked → Type 0
ArePartsDone {E} {A} parts done = (lists : List (Vec Worked A)) × (parts ≡ map Ok lists) × (done ≡ flat_map (λ list. list.items) lists)

-- nodes in order of number
abbrev pub AreAscending : List Worked → Type 0
AreAscending done = (i j : ℕ) (d : Worked) → i ≤ j → j < length done → (slice_index_or done i d).node ≤ (slice_index_or done j d).node

-- ---- nodes whose children were taken

-- these are the residues of the children of node n, as the run has left them
pub record AreChildResidues (c : Chunking) (residues : List RegionGraph) (n : ℕ) (kids : List RegionGraph) : Type 0 where
  pub one_each : length kids ≡ child_count c n
  pub before : (i : ℕ) → i < child_count c n → child c n i < length residues
  pub are : (i : ℕ) → i < child_count c n → residue_of kids i ≡ residue_of residues (child c n i)

-- The first m nodes were worked, and those from m up to p have been given their kids, which are listed from node `first` on.
pub record HasTaken (s : SiteView) (first m p : ℕ) (waiting : List (Option RegionGraph)) (merges : List Merge) (levels : List Level) (kids : List (List RegionGraph)) : Type 0 where
  pub so_far : HasWorked s m p waiting merges levels
  pub kids_are : (n : ℕ) → m ≤ n → n < p → AreChildResidues s.cutting so_far.residues n (slice_index_or kids (n - first) [])

-- the nodes from `first` up to n were given their kids, and handed out in some order
pub record AreHandedOut (s : SiteView) (first n : ℕ) (before after : List (Option RegionGraph)) (handed : List Job) : Type 0 where
  pub jobs : List Job
  pub in_order : nodes_of jobs ≡ range_with_len first (n - first)
  pub same_jobs : IsPermutation jobs handed
  pub taken : (merges : List Merge) (levels : List Level) → HasWorked s first first before merges levels
      → HasTaken s first first n after merges levels (kid_lists jobs)

-- the nodes were worked up to m
pub record HasRun (s : SiteView) (m : ℕ) (waiting : List (Option RegionGraph)) (merges : List Merge) (worked : List ℕ) (levels : List Level) : Type 0 where
  pub so_far : HasWorked s m m waiting merges levels
  pub numbers : worked ≡ range_with_len 0 m
