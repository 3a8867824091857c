-- One step of the run: a node takes its children's residues, works, and is counted.
use Rattle.std.proofs.Common.{◌≡◌, ◌⊎◌, inl, inr, ℕ, ◌+◌, ◌-◌, ◌<◌, ◌≤◌, List, [], ◌∷◌, ◌++◌, length, get_or, take, drop, set, Option, Some, sym, ap, ◌∙◌, subst, arith}
use Rattle.std.proofs.Math.Seq.{get_or-append_seam}
use Rattle.std.proofs.lemmas.List.{append-nil, take_all, drop_all, get_or_append_left, length-append}
use Rattle.agglo_model.specs.Greedy.{Merge}
use Rattle.agglo_model.specs.Cutting.{Chunking, IsChunking, node_count, level_of, child, child_count}
use Rattle.agglo_model.specs.RegionGraph.{RegionGraph}
use Rattle.agglo_model.specs.Report.{Level}
use Rattle.agglo_model.proofs.Levels.{on_level}
use Rattle.agglo_model.proofs.Cases.{below_next}
use Rattle.region_graph.specs.SiteView.{SiteView, IsSite}
use Rattle.work_laws.specs.Turns.{ResiduesStay}
use Rattle.chunk_run.specs.Turns.{AreTaken, HasRoom, TakesTurn, level_at, with_node}
use Rattle.chunk_run.specs.declared.lanes.Worked.{Worked}
use Rattle.chunk_run.specs.Lanes.{AreChildResidues, AreTurns, HasTaken}
use Rattle.chunk_run.proofs.Going.{goes_on}
use Rattle.chunk_run.proofs.Kids.{are_left, kids_are, worked_still}
use Rattle.chunk_run.proofs.LevelCounts.{residue_stays}
use Rattle.chunk_run.proofs.Rooms.{are_small, had_room}

-- a list that was written through a slice of all of it
pub all_written : {X : Type 0} (n : ℕ) (xs ys : List X) → length xs ≡ length ys → length ys ≡ n
    → take n (xs ++ drop (length xs) ys) ≡ xs
all_written n xs ys same long =
    ap (λ l. take n (xs ++ l)) (drop_all (length xs) ys (omega arith)) ∙ ap (take n) (append-nil xs)
    ∙ take_all n xs (omega arith)

-- children of the same cutting, taken from the same list
pub taken_alike : (c other : Chunking) (m : ℕ) (before others after : List (Option RegionGraph)) (kids : List RegionGraph)
    → other ≡ c → others ≡ before → AreTaken other m (child_count other m) others after kids
    → AreTaken c m (child_count c m) before after kids
taken_alike c other m before others after kids cutting list taken =
    subst (λ l. AreTaken c m (child_count c m) l after kids) list
    (subst (λ t. AreTaken t m (child_count t m) others after kids) cutting taken)

-- ---- a node is given its kids

module _ (s : SiteView) (h : IsChunking s.cutting) (first n : ℕ) (node : n < node_count s.cutting) (from : first ≤ n)
    (level : level_of s.cutting first ≡ level_of s.cutting n) (waiting after : List (Option RegionGraph)) (merges : List Merge)
    (levels : List Level) (lists : List (List RegionGraph)) (long : length lists ≡ n - first)
    (so_far : HasTaken s first first n waiting merges levels lists) (kids : List RegionGraph)
    (taken : AreTaken s.cutting n (child_count s.cutting n) waiting after kids) where
  left_at : (q : ℕ) → first ≤ q → (q < n) ⊎ (q ≡ n)
      → AreChildResidues s.cutting so_far.so_far.residues q (get_or (lists ++ kids ∷ []) (q - first) [])
  left_at q past (inl less) =
      subst (AreChildResidues s.cutting so_far.so_far.residues q)
      (sym (get_or_append_left lists (kids ∷ []) [] (q - first) (omega arith))) (so_far.kids_are q past less)
  left_at q past (inr same) =
      let place : length lists ≡ q - first = omega arith in
      subst (λ k. AreChildResidues s.cutting so_far.so_far.residues k (get_or (lists ++ kids ∷ []) (q - first) [])) (sym same)
      (subst (AreChildResidues s.cutting so_far.so_far.residues n)
      (sym (ap (λ k. get_or (lists ++ kids ∷ []) k []) (sym place) ∙ get_or-append_seam lists kids [] []))
      (are_left s h first n node from level waiting merges levels so_far.so_far after kids taken))

  pub taken_more : HasTaken s first first (n + 1) after merges levels (lists ++ kids ∷ [])
  taken_more = record {
    so_far = worked_still s h first n node from level waiting merges levels so_far.so_far after kids taken;
    kids_are = λ q past below. left_at q past (below_next q n below);
  }

-- ---- a node that was worked is counted

-- what the step needs, and what it leaves
pub record IsStep (s : SiteView) (first m p : ℕ) (waiting : List (Option RegionGraph)) (merges : List Merge) (levels : List Level) (lists : List (List RegionGraph)) (made : List Merge) (left : RegionGraph) : Type 0 where
  pub room : HasRoom levels (level_of s.cutting m) (length made) (length left.regions)
  pub next : HasTaken s first (m + 1) p (waiting ++ Some left ∷ []) (merges ++ made)
      (set levels (level_of s.cutting m) (with_node (level_at levels (level_of s.cutting m)) (length made) (length left.regions))) lists

still_left : (s : SiteView) (works : List (List Merge)) (residues : List RegionGraph) (made : List Merge) (left : RegionGraph) (m n : ℕ)
    → length works ≡ m → length residues ≡ m → (kids : List RegionGraph) → AreChildResidues s.cutting residues n kids
    → AreChildResidues s.cutting (residues ++ left ∷ []) n kids
still_left s works residues made left m n worked long kids is = record {
  one_each = is.one_each;
  before = λ i below. omega (arith, is.before i below, length-append residues (left ∷ []));
  are = λ i below.
      is.are i below
      ∙ sym (residue_stays s.cutting works residues made left m worked long (child s.cutting n i) (omega (arith, is.before i below)));
}

pub step_of : ResiduesStay → (s : SiteView) → IsSite s → (first m p : ℕ) → first ≤ m → m < p → m < node_count s.cutting
    → (waiting : List (Option RegionGraph)) (merges : List Merge) (levels : List Level) (lists : List (List RegionGraph))
    → HasTaken s first m p waiting merges levels lists → (made : List Merge) (left : RegionGraph)
    → TakesTurn s m (get_or lists (m - first) []) made left → IsStep s first m p waiting merges levels lists made left
step_of stay s site first m p from below node waiting merges levels lists so_far made left turns =
    let h = site.chunking in
    let run = so_far.so_far in
    let own = level_of s.cutting m in
    let reached = (on_level s.cutting m node).reached in
    let kids = get_or lists (m - first) [] in
    let are_kids = kids_are s m p waiting merges levels run m kids (so_far.kids_are m (omega arith) below) in
    let turn = turns run.works run.works_on run.worked are_kids in
    let next = goes_on stay s h m node p waiting merges levels run made left turn in
    record {
      room = had_room levels own (length made) (length left.regions) (omega (arith, run.one_level_each))
          (are_small s site (m + 1) p (waiting ++ Some left ∷ []) (merges ++ made)
          (set levels own (with_node (level_at levels own) (length made) (length left.regions))) next own reached);
      next = record {
        so_far = next;
        kids_are = λ n past lt.
            still_left s run.works run.residues made left m n run.worked run.one_residue_each (get_or lists (n - first) [])
            (so_far.kids_are n (omega arith) lt);
      };
    }

-- the step with the lists that it left
pub step_done : (s : SiteView) (first m p : ℕ) (waiting : List (Option RegionGraph)) (merges : List Merge) (levels : List Level)
    (lists : List (List RegionGraph)) (made : List Merge) (left : RegionGraph)
    → IsStep s first m p waiting merges levels lists made left
    → (now_waiting : List (Option RegionGraph)) (now_merges : List Merge) (now_levels : List Level)
    → now_waiting ≡ waiting ++ Some left ∷ [] → now_merges ≡ merges ++ made
    → now_levels ≡ set levels (level_of s.cutting m) (with_node (level_at levels (level_of s.cutting m)) (length made) (length left.regions))
    → HasTaken s first (m + 1) p now_waiting now_merges now_levels lists
step_done s first m p waiting merges levels lists made left step now_waiting now_merges now_levels waiting_is merges_are levels_are =
    subst (λ l. HasTaken s first (m + 1) p l now_merges now_levels lists) (sym waiting_is)
    (subst (λ l. HasTaken s first (m + 1) p (waiting ++ Some left ∷ []) l now_levels lists) (sym merges_are)
    (subst (λ l. HasTaken s first (m + 1) p (waiting ++ Some left ∷ []) (merges ++ made) l lists) (sym levels_are) step.next))

-- the next of the nodes that came back
pub next_step : ResiduesStay → (s : SiteView) → IsSite s → (first m i : ℕ) (done : List Worked) → first + length done ≤ node_count s.cutting
    → m ≡ first + i → i < length done → (waiting : List (Option RegionGraph)) (merges : List Merge) (levels : List Level)
    (lists : List (List RegionGraph)) → AreTurns s first lists done
    → HasTaken s first m (first + length done) waiting merges levels lists → (worked : Worked) → worked ≡ get_or done i worked
    → IsStep s first m (first + length done) waiting merges levels lists worked.settled.merges.items worked.settled.residue
next_step stay s site first m i done nodes at lt waiting merges levels lists turns taken worked is =
    let place : i ≡ m - first = omega (arith, at) in
    let turn = subst (λ (w : Worked). TakesTurn s (first + i) (get_or lists i []) w.settled.merges.items w.settled.residue) (sym is)
    (turns.turns i worked lt) in
    let turn_at = subst (λ k. TakesTurn s k (get_or lists i []) worked.settled.merges.items worked.settled.residue) (sym at) turn in
    step_of stay s site first m (first + length done) (omega (arith, at)) (omega (arith, at)) (omega (arith, at)) waiting merges levels lists
    taken worked.settled.merges.items worked.settled.residue
    (subst (λ k. TakesTurn s m (get_or lists k []) worked.settled.merges.items worked.settled.residue) place turn_at)
