-- The works of all nodes up to a level are a run of merges of pairs that are reciprocal in some node of that level.
use Rattle.std.proofs.Common.{◌≡◌, ◌≢◌, ℕ, zero, suc, inl, inr, ◌+◌, ◌*◌, ◌-◌, ◌/◌, ◌^◌, ◌<◌, ◌≤◌, true, List, [], ◌∷◌, ◌++◌, length, take, refl, sym, ap, ◌∙◌, subst, arith}
use Rattle.std.proofs.lemmas.Bool.{cases_lt}
use Rattle.std.proofs.lemmas.List.{length-take-le}
use Rattle.std.proofs.lemmas.Grind.{fold-append}
use Rattle.std.proofs.lemmas.Nat.{pow-add}
use Rattle.std.proofs.Math.Nat.{div-div-eq-div-mul}
use Rattle.agglo_model.specs.Axes.{voxel_at, coordinate}
use Rattle.agglo_model.specs.Grid.{Grid}
use Rattle.agglo_model.specs.PairOrder.{Threshold}
use Rattle.agglo_model.specs.Contacts.{renamed}
use Rattle.agglo_model.specs.Greedy.{Merge, after_merge, after_merges}
use Rattle.agglo_model.specs.Connected.{AreConnected}
use Rattle.agglo_model.specs.Cutting.{Chunking, IsChunking, length_on, cell_length, level_grid, last_level, first_node, node_count, level_of, node_at}
use Rattle.agglo_model.specs.Freezing.{is_held}
use Rattle.agglo_model.specs.Work.{IsFree, IsReciprocal, IsWork, AreWorksFrom, all_merges, work_of, labels_before, labels_after}
use Rattle.agglo_model.specs.NodeLaws.{AreWorksOn}
use Rattle.agglo_model.proofs.CellBoxes.{node-coordinates}
use Rattle.agglo_model.proofs.ConnectedWorks.{connected_after, connected_after_step}
use Rattle.agglo_model.proofs.ContactEdges.{InContact-names}
use Rattle.agglo_model.proofs.Diamonds.{diamond}
use Rattle.agglo_model.proofs.FreeNames.{free_voxels}
use Rattle.agglo_model.proofs.Freezing.{held_voxel, held_node, held_from, occurs_at, part_held, part_name, part_from}
use Rattle.agglo_model.proofs.Levels.{IsOnLevel, on_level, level_of-is, first_node_le}
use Rattle.agglo_model.proofs.NestedFaces.{inner_face}
use Rattle.agglo_model.proofs.NodeCells.{node-on_level, on_level-lt, voxel_cell}
use Rattle.agglo_model.proofs.NodeNesting.{one_of_level}
use Rattle.agglo_model.proofs.NodeRuns.{free_alike, voxels_stay}
use Rattle.agglo_model.proofs.PairRuns.{ArePairsKept, IsRunOf}
use Rattle.agglo_model.proofs.WaitingCells.{label_waits}
use Rattle.agglo_model.proofs.Works.{after-is, connected_before, work_at}
use Rattle.agglo_model.proofs.WorksRun.{work_ends}
use Rattle.work_laws.proofs.AlikeCells.{reciprocal_alike}
use Rattle.work_laws.proofs.SameCells.{AgreeIn}

-- a and b are a reciprocal pair of some node of level k
pub record IsLevelPair (g : Grid) (t : Threshold) (c : Chunking) (k : ℕ) (labels : List ℕ) (a b : ℕ) : Type 0 where
  pub node : ℕ
  pub on : IsOnLevel c k node
  pub pair : IsReciprocal g t c node labels a b

-- such a pair is still one after the merge of another, be it of another node
pub level_pairs_kept : (g : Grid) (t : Threshold) (c : Chunking) (k : ℕ) → ArePairsKept (IsLevelPair g t c k) g
level_pairs_kept g t c k labels a b d e one other apart =
    let square = diamond g t labels a b d e one.pair.pair other.pair.pair apart in
    let pb : b ≢ 0 = omega (arith, InContact-names g labels a b one.pair.pair.touching) in
    let names = square.apart in
    record {
      still = record {
        node = other.node;
        on = other.on;
        pair = record {
          pair = square.still_mutual;
          a_free = free_alike c other.node labels (renamed labels a b) d
              (λ u. let stay = voxels_stay labels a b d u pb names.0 names.1 in (stay.1, stay.0)) other.pair.a_free;
          b_free = free_alike c other.node labels (renamed labels a b) e
              (λ u. let stay = voxels_stay labels a b e u pb names.2 names.3 in (stay.1, stay.0)) other.pair.b_free;
        };
      };
      same_contact = square.same_contact;
      either_order = square.either_order;
    }

-- ---- a pair of a node is one of a node above

module _ (c : Chunking) (h : IsChunking c) (k n : ℕ) (reached : k ≤ last_level c) (node : n < node_count c)
    (order : level_of c n ≤ k) where
  longer : (axis : ℕ) → cell_length c k axis ≡ cell_length c (level_of c n) axis * 2 ^ (k - level_of c n)
  longer axis =
      let sum : level_of c n + (k - level_of c n) ≡ k = omega arith in
      ap (λ j. length_on c.leaf axis * 2 ^ j) (sym sum)
      ∙ ap (λ p. length_on c.leaf axis * p) (pow-add 2 (level_of c n) (k - level_of c n))
      ∙ omega arith

  higher_quotient : (axis x : ℕ) → x / cell_length c k axis ≡ x / cell_length c (level_of c n) axis / 2 ^ (k - level_of c n)
  higher_quotient axis x =
      ap (λ l. x / l) (longer axis) ∙ sym (div-div-eq-div-mul x (cell_length c (level_of c n) axis) (2 ^ (k - level_of c n)))

  same_quotient : (axis x y : ℕ) → x / cell_length c (level_of c n) axis ≡ y / cell_length c (level_of c n) axis
      → x / cell_length c k axis ≡ y / cell_length c k axis
  same_quotient axis x y same =
      higher_quotient axis x ∙ ap (λ q. q / 2 ^ (k - level_of c n)) same ∙ sym (higher_quotient axis y)

  -- all voxels of the node are in one node of level k
  above_alike : (v w : ℕ) → is_held c n v ≡ true → is_held c n w ≡ true → node_at c k v ≡ node_at c k w
  above_alike v w in_v in_w =
      let at_v = node-coordinates c h n v node (held_voxel c n v in_v) (held_node c n v in_v) in
      let at_w = node-coordinates c h n w node (held_voxel c n w in_w) (held_node c n w in_w) in
      let x = same_quotient 0 (coordinate c.axes v 0) (coordinate c.axes w 0) (at_v.in_x ∙ sym at_w.in_x) in
      let y = same_quotient 1 (coordinate c.axes v 1) (coordinate c.axes w 1) (at_v.in_y ∙ sym at_w.in_y) in
      let z = same_quotient 2 (coordinate c.axes v 2) (coordinate c.axes w 2) (at_v.in_z ∙ sym at_w.in_z) in
      λ i. first_node c k + voxel_at (level_grid c k) (x i) (y i) (z i)

  module _ (v : ℕ) (held : is_held c n v ≡ true) where
    above_on : IsOnLevel c k (node_at c k v)
    above_on = node-on_level c k (coordinate c.axes v 0 / cell_length c k 0) (coordinate c.axes v 1 / cell_length c k 1)
        (coordinate c.axes v 2 / cell_length c k 2) reached (voxel_cell c h k v (held_voxel c n v held))

    above_level : level_of c (node_at c k v) ≡ k
    above_level = level_of-is c k (node_at c k v) above_on

    above_holds : (w : ℕ) → is_held c n w ≡ true → is_held c (node_at c k v) w ≡ true
    above_holds w in_w = held_from c (node_at c k v) w (held_voxel c n w in_w)
        (ap (λ j. node_at c j w) above_level ∙ above_alike w v in_w held)

    free_above : (labels : List ℕ) → AreConnected c.axes labels → (x : ℕ) → x ≢ 0 → IsFree c n labels x
        → IsFree c (node_at c k v) labels x
    free_above labels connected x some free =
        let m = node_at c k v in
        let found = (occurs_at c n labels x).0 free.occurs in
        let there = above_holds found.0 (part_held c n labels x found.0 found.1) in
        record {
          occurs = (occurs_at c m labels x).1
              (found.0, part_from c m labels x found.0 there (part_name c n labels x found.0 found.1));
          unfrozen = λ frozen.
              let u = frozen.voxel in
              let name = part_name c m labels x u frozen.part in
              let in_n = free_voxels c h n node labels connected x some free u name in
              let level : level_of c n ≤ level_of c m = omega (arith, above_level) in
              free.unfrozen (record {
                voxel = u;
                part = part_from c n labels x u in_n name;
                at_face = inner_face c h n m u node level in_n frozen.at_face;
              });
        }

-- ---- works as runs

module _ (g : Grid) (t : Threshold) (c : Chunking) (h : IsChunking c) (axes : c.axes ≡ g.axes) (k : ℕ) (reached : k ≤ last_level c) where
  pair_above : (n : ℕ) (labels : List ℕ) (a b : ℕ) → n < first_node c (suc k) → AreConnected g.axes labels
      → IsReciprocal g t c n labels a b → IsLevelPair g t c k labels a b
  pair_above n labels a b below connected pair =
      let node : n < node_count c = omega (arith, first_node_le c (suc k) (suc (last_level c)) (omega arith)) in
      let names = InContact-names g labels a b pair.pair.touching in
      let joined = subst (λ z. AreConnected z labels) (sym axes) connected in
      let found = (occurs_at c n labels a).0 pair.a_free.occurs in
      let held = part_held c n labels a found.0 found.1 in
      record {
        node = node_at c k found.0;
        on = above_on c h k n reached node (order n node below) found.0 held;
        pair = record {
          pair = pair.pair;
          a_free = free_above c h k n reached node (order n node below) found.0 held labels joined a (omega (arith, names)) pair.a_free;
          b_free = free_above c h k n reached node (order n node below) found.0 held labels joined b (omega (arith, names)) pair.b_free;
        };
      }
    where
      order : (n : ℕ) → n < node_count c → n < first_node c (suc k) → level_of c n ≤ k
      order n node below = elim (cases_lt k (level_of c n)) [
        | inr le ↦ le
        | inl more ↦ absurd (omega (arith, (on_level c n node).from, first_node_le c (suc k) (level_of c n) (omega arith)))
      ]

  work_then : (n : ℕ) (labels : List ℕ) (work rest : List Merge) → n < first_node c (suc k) → AreConnected g.axes labels
      → IsWork g t c n labels work → IsRunOf (IsLevelPair g t c k) g (after_merges labels work) rest
      → IsRunOf (IsLevelPair g t c k) g labels (work ++ rest)
  work_then n labels [] rest below connected work run = run
  work_then n labels (step ∷ steps) rest below connected work run = (
    record {
      pair = pair_above n labels step.survivor step.absorbed below connected work.0.reciprocal;
      contact_is = work.0.contact_is;
    },
    work_then n (after_merge labels step) steps rest below (connected_after_step g t c n labels step work.0 connected) work.1 run,
  )

  works_then : (n : ℕ) (labels last : List ℕ) (works : List (List Merge)) → n + length works ≤ first_node c (suc k)
      → AreConnected g.axes labels → AreWorksFrom g t c n labels works → after_merges labels (all_merges works) ≡ last
      → ((a b : ℕ) → ¬ (IsLevelPair g t c k last a b)) → IsRunOf (IsLevelPair g t c k) g labels (all_merges works)
  works_then n labels last [] few connected are at_end none =
      subst (λ l. (a b : ℕ) → ¬ (IsLevelPair g t c k l a b)) (sym at_end) none
  works_then n labels last (work ∷ works) few connected are at_end none =
      work_then n labels work (all_merges works) (omega arith) connected are.0
      (works_then (suc n) (after_merges labels work) last works (omega arith)
      (connected_after g t c n labels work are.0 connected) are.1
      (sym (fold-append after_merge labels work (all_merges works)) ∙ at_end) none)

-- the first so many works
works_taken : (g : Grid) (t : Threshold) (c : Chunking) (n i : ℕ) (labels : List ℕ) (works : List (List Merge))
    → AreWorksFrom g t c n labels works → AreWorksFrom g t c n labels (take i works)
works_taken g t c n zero labels works are = tt
works_taken g t c n (suc i) labels [] are = tt
works_taken g t c n (suc i) labels (work ∷ works) are =
    (are.0, works_taken g t c (suc n) i (after_merges labels work) works are.1)

module _ (g : Grid) (t : Threshold) (c : Chunking) (labels : List ℕ) (works : List (List Merge)) (on : AreWorksOn g t c labels works)
    (k : ℕ) (reached : k ≤ last_level c) (worked : first_node c (suc k) ≤ length works) where
  -- the labels after the last node of level k
  abbrev pub level_end : List ℕ
  level_end = labels_before labels works (first_node c (suc k))

  pub end_connected : AreConnected g.axes level_end
  end_connected = connected_before g t c labels works on (first_node c (suc k)) worked

  -- in a node's cell they are those after its work
  pub end_agrees : (m : ℕ) → IsOnLevel c k m → AgreeIn c m level_end (labels_after labels works m)
  end_agrees m here v held =
      label_waits g t c labels works on (m + 1) (first_node c (suc k)) v (omega (arith, here.to)) worked
      (λ n low high in_n.
      let level : level_of c n ≡ level_of c m =
      level_of-is c k n (record { reached = reached; from = omega (arith, here.from); to = high }) ∙ sym (level_of-is c k m here) in
      let one = one_of_level c n m v level in_n held in
      omega arith)

  pub after_connected : (m : ℕ) → IsOnLevel c k m → AreConnected g.axes (labels_after labels works m)
  after_connected m here = connected_before g t c labels works on (m + 1) (omega (arith, here.to))

  none_left : (a b : ℕ) → ¬ (IsLevelPair g t c k level_end a b)
  none_left a b pair =
      let m = pair.node in
      let here = pair.on in
      let last = labels_after labels works m in
      let below : m < length works = omega (arith, here.to) in
      let there = reciprocal_alike g t c on.cutting on.axes m (on_level-lt c k m here) level_end last end_connected
      (after_connected m here) (end_agrees m here) a b pair.pair in
      work_ends g t c m (labels_before labels works m) (work_of works m) (work_at g t c labels works on.works_are m below) a b
      (subst (λ l. IsReciprocal g t c m l a b) (after-is g t c labels works on m below) there)

  pub level_run : IsRunOf (IsLevelPair g t c k) g labels (all_merges (take (first_node c (suc k)) works))
  level_run =
      works_then g t c on.cutting on.axes k reached 0 labels level_end (take (first_node c (suc k)) works)
      (omega (arith, length-take-le (first_node c (suc k)) works worked)) on.connected
      (works_taken g t c 0 (first_node c (suc k)) labels works on.works_are.worked) refl none_left
