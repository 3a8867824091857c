-- The work of a node in whatever order: free names stay free, so every work has one outcome.
use Rattle.std.proofs.Common.{◌≡◌, ◌≢◌, ◌↔◌, ℕ, true, List, [], ◌∷◌, sym, ◌∙◌, arith}
use Rattle.std.proofs.lemmas.Bool.Decides.{nat_tests}
use Rattle.agglo_model.specs.Basins.{label_of}
use Rattle.agglo_model.specs.Grid.{Grid}
use Rattle.agglo_model.specs.PairOrder.{Threshold}
use Rattle.agglo_model.specs.Contacts.{renamed}
use Rattle.agglo_model.specs.Greedy.{Merge, after_merge}
use Rattle.agglo_model.specs.Cutting.{Chunking}
use Rattle.agglo_model.specs.Freezing.{is_part, IsFrozen}
use Rattle.agglo_model.specs.Work.{IsFree, IsReciprocal, IsWork}
use Rattle.agglo_model.specs.NodeLaws.{NodeDiamond, WorksAgree, OrderedWorkIsWork}
use Rattle.agglo_model.proofs.ContactEdges.{InContact-names}
use Rattle.agglo_model.proofs.Renames.{new_name, label-renamed}
use Rattle.agglo_model.proofs.Diamonds.{diamond}
use Rattle.agglo_model.proofs.PairRuns.{IsRunOf, ArePairsKept, one_outcome}
use Rattle.agglo_model.proofs.Freezing.{occurs_at, part_held, part_name, part_from}

others_stay : (a b c x : ℕ) → c ≢ a → c ≢ b → (new_name a b x ≡ c) ↔ (x ≡ c)
others_stay a b c x ca cb = (λ is. grind (arith, nat_tests), λ is. grind (arith, nat_tests))

-- a merge of two other names leaves a name its voxels
pub voxels_stay : (labels : List ℕ) (a b c v : ℕ) → b ≢ 0 → c ≢ a → c ≢ b
    → (label_of (renamed labels a b) v ≡ c) ↔ (label_of labels v ≡ c)
voxels_stay labels a b c v pb ca cb =
    let here = label-renamed labels a b v pb in
    let stay = others_stay a b c (label_of labels v) ca cb in
    (λ is. stay.0 (sym here ∙ is), λ is. here ∙ stay.1 is)

-- a name of the same voxels has the same parts in a cell, and is frozen or free there under both labels
pub part_alike : (c : Chunking) (m : ℕ) (labels others : List ℕ) (x v : ℕ)
    → ((u : ℕ) → label_of labels u ≡ x → label_of others u ≡ x) → is_part c m labels x v ≡ true
    → is_part c m others x v ≡ true
part_alike c m labels others x v same part =
    part_from c m others x v (part_held c m labels x v part) (same v (part_name c m labels x v part))

pub frozen_alike : (c : Chunking) (m : ℕ) (labels others : List ℕ) (x : ℕ)
    → ((u : ℕ) → label_of labels u ≡ x → label_of others u ≡ x) → IsFrozen c m labels x → IsFrozen c m others x
frozen_alike c m labels others x same frozen = record {
  voxel = frozen.voxel;
  part = part_alike c m labels others x frozen.voxel same frozen.part;
  at_face = frozen.at_face;
}

pub free_alike : (c : Chunking) (m : ℕ) (labels others : List ℕ) (x : ℕ)
    → ((u : ℕ) → (label_of labels u ≡ x) ↔ (label_of others u ≡ x)) → IsFree c m labels x → IsFree c m others x
free_alike c m labels others x same free = record {
  occurs =
      let found = (occurs_at c m labels x).0 free.occurs in
      (occurs_at c m others x).1 (found.0, part_alike c m labels others x found.0 (λ u. (same u).0) found.1);
  unfrozen = λ frozen. free.unfrozen (frozen_alike c m others labels x (λ u. (same u).1) frozen);
}

pub node_diamond : NodeDiamond
node_diamond g t c m labels a b d e one other apart =
    let square = diamond g t labels a b d e one.pair other.pair apart in
    let pb : b ≢ 0 = omega (arith, InContact-names g labels a b one.pair.touching) in
    let names = square.apart in
    let d_same : (u : ℕ) → (label_of labels u ≡ d) ↔ (label_of (renamed labels a b) u ≡ d) =
    λ u. let stay = voxels_stay labels a b d u pb names.0 names.1 in (stay.1, stay.0) in
    let e_same : (u : ℕ) → (label_of labels u ≡ e) ↔ (label_of (renamed labels a b) u ≡ e) =
    λ u. let stay = voxels_stay labels a b e u pb names.2 names.3 in (stay.1, stay.0) in
    record {
      apart = names;
      still_reciprocal = record {
        pair = square.still_mutual;
        a_free = free_alike c m labels (renamed labels a b) d d_same other.a_free;
        b_free = free_alike c m labels (renamed labels a b) e e_same other.b_free;
      };
      same_contact = square.same_contact;
      either_order = square.either_order;
    }

-- a reciprocal pair of a node is still one after the merge of another
reciprocal_kept : (g : Grid) (t : Threshold) (c : Chunking) (m : ℕ) → ArePairsKept (IsReciprocal g t c m) g
reciprocal_kept g t c m labels a b d e one other apart =
    let square = node_diamond g t c m labels a b d e one other apart in
    record {
      still = square.still_reciprocal;
      same_contact = square.same_contact;
      either_order = square.either_order;
    }

-- the work of a node as a run of merges of pairs
work_pairs : (g : Grid) (t : Threshold) (c : Chunking) (m : ℕ) (labels : List ℕ) (work : List Merge)
    → IsWork g t c m labels work → IsRunOf (IsReciprocal g t c m) g labels work
work_pairs g t c m labels [] work = work
work_pairs g t c m labels (step ∷ steps) work = (
  record { pair = work.0.reciprocal; contact_is = work.0.contact_is },
  work_pairs g t c m (after_merge labels step) steps work.1,
)

pub works_agree : WorksAgree
works_agree g t c m labels work other is also =
    one_outcome (IsReciprocal g t c m) g (reciprocal_kept g t c m) labels work other
    (work_pairs g t c m labels work is) (work_pairs g t c m labels other also)

pub ordered_work_is_work : OrderedWorkIsWork
ordered_work_is_work g t c m labels [] ordered = ordered
ordered_work_is_work g t c m labels (step ∷ steps) ordered =
    (ordered.0.step_is, ordered_work_is_work g t c m (after_merge labels step) steps ordered.1)
