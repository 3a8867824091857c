-- Sets of faces as numbers: the faces that a name touches are artificial.
use Rattle.std.proofs.Common.{◌≡◌, ◌≢◌, ◌↔◌, ℕ, ◌+◌, Bool, true, false, ◌&&◌, ◌==◌, List, refl, sym, ◌∙◌, subst}
use Rattle.std.specs.Prelude.{bit_and}
use Rattle.agglo_model.specs.Axes.{coordinate}
use Rattle.agglo_model.specs.Cutting.{Chunking, artificial_faces, cell_low, cell_high, is_low_artificial, is_high_artificial}
use Rattle.agglo_model.specs.Freezing.{IsFrozen, is_part, some_voxel, touched_faces, touches_low, touches_high}
use Rattle.agglo_model.proofs.Freezing.{frozen_touches}
use Rattle.work_laws.proofs.FaceBits.{and_faces, same_bits}

within : (p q : Bool) → ((p && q) && p) ≡ (p && q)
within true true = refl
within true false = refl
within false q = refl

low_within : (c : Chunking) (m : ℕ) (labels : List ℕ) (x axis : ℕ)
    → (touches_low c m labels x axis && is_low_artificial c m axis) ≡ touches_low c m labels x axis
low_within c m labels x axis =
    within (is_low_artificial c m axis) (some_voxel c (λ v. is_part c m labels x v && coordinate c.axes v axis == cell_low c m axis))

high_within : (c : Chunking) (m : ℕ) (labels : List ℕ) (x axis : ℕ)
    → (touches_high c m labels x axis && is_high_artificial c m axis) ≡ touches_high c m labels x axis
high_within c m labels x axis =
    within (is_high_artificial c m axis) (some_voxel c (λ v. is_part c m labels x v && coordinate c.axes v axis + 1 == cell_high c m axis))

-- the faces that a name touches in the cell of a node are artificial
pub touched_artificial : (c : Chunking) (m : ℕ) (labels : List ℕ) (x : ℕ)
    → bit_and (touched_faces c m labels x) (artificial_faces c m) ≡ touched_faces c m labels x
touched_artificial c m labels x =
    and_faces (touches_low c m labels x) (touches_high c m labels x) (is_low_artificial c m) (is_high_artificial c m)
    ∙ same_bits (λ axis. touches_low c m labels x axis && is_low_artificial c m axis)
    (λ axis. touches_high c m labels x axis && is_high_artificial c m axis)
    (touches_low c m labels x) (touches_high c m labels x) (low_within c m labels x) (high_within c m labels x)

-- a name is frozen exactly where one of the faces that it touches is artificial
pub frozen_by_faces : (c : Chunking) (m : ℕ) (labels : List ℕ) (x : ℕ)
    → IsFrozen c m labels x ↔ (bit_and (touched_faces c m labels x) (artificial_faces c m) ≢ 0)
frozen_by_faces c m labels x =
    subst (λ n. IsFrozen c m labels x ↔ (n ≢ 0)) (sym (touched_artificial c m labels x)) (frozen_touches c m labels x)
