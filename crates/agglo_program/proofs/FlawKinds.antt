-- The kinds of refusals that bytes may have: a volume's, those of a volume that is to be cut, and a tree's.
use Rattle.std.proofs.Common.{◌≡◌, ℕ, List, Option, Some, None, subst}
use Rattle.std.specs.Option.{option_or, option_and_then}
use Rattle.agglo_model.specs.Cutting.{SizesFlaw, ChunkZero, TooManyLeaves, sizes_flaw}
use Rattle.agglo_model.specs.TreeFile.{TreeFlaw, tree_flaw}
use Rattle.agglo_model.specs.VolumeFile.{VolumeFlaw, header_axes, header_flaw, body, body_flaw, volume_flaw}
use Rattle.merge_tree.specs.TreeFault.{fault_of as tree_fault_of}
use Rattle.volume_file.specs.Fault.{fault_of}
use Rattle.refusals.specs.declared.refusal.Refusal.{Refusal}
use Rattle.refusals.specs.declared.refusal.Refusal.TheVariants.{Volume, Leaves, Tree}
use Rattle.agglo_program.specs.Flaws.{volume_flaw_refusal, tree_flaw_refusal, sizes_refusal, leaves_refusal, basins_refusal, segment_refusal, show_refusal, SomeBytesHave}

abbrev pub IsOfVolume : Refusal → Type 0
IsOfVolume (Volume fault) = Unit {0}
IsOfVolume refusal = ⊥

abbrev pub IsOfCut : Refusal → Type 0
IsOfCut (Volume fault) = Unit {0}
IsOfCut (Leaves leaves) = Unit {0}
IsOfCut refusal = ⊥

abbrev pub IsOfTree : Refusal → Type 0
IsOfTree (Tree fault) = Unit {0}
IsOfTree refusal = ⊥

same : (a b : Refusal) → Some a ≡ Some b → a ≡ b
same a b e = cc e

nothing : (a : Refusal) {R : Type 0} → None ≡ Some a → R
nothing a e = cc e

-- each kind has the refusals of flaws
of_volume : (Is : Refusal → Type 0) → ((flaw : VolumeFlaw) → Is (Volume (fault_of flaw))) → (flaw : Option VolumeFlaw) (refusal : Refusal)
    → volume_flaw_refusal flaw ≡ Some refusal → Is refusal
of_volume Is each None refusal e = nothing refusal e
of_volume Is each (Some flaw) refusal e = subst Is (same (Volume (fault_of flaw)) refusal e) (each flaw)

of_tree : (flaw : Option TreeFlaw) (refusal : Refusal) → tree_flaw_refusal flaw ≡ Some refusal → IsOfTree refusal
of_tree None refusal e = nothing refusal e
of_tree (Some flaw) refusal e = subst IsOfTree (same (Tree (tree_fault_of flaw)) refusal e) tt

of_leaves : (flaw : Option SizesFlaw) (refusal : Refusal) → option_and_then sizes_refusal flaw ≡ Some refusal → IsOfCut refusal
of_leaves None refusal e = nothing refusal e
of_leaves (Some (ChunkZero axis)) refusal e = nothing refusal e
of_leaves (Some (TooManyLeaves leaves)) refusal e = subst IsOfCut (same (Leaves leaves) refusal e) tt

of_either : (first later : Option Refusal) (refusal : Refusal) → ((r : Refusal) → first ≡ Some r → IsOfCut r)
    → ((r : Refusal) → later ≡ Some r → IsOfCut r) → option_or first later ≡ Some refusal → IsOfCut refusal
of_either None later refusal f g e = g refusal e
of_either (Some r) later refusal f g e = f refusal e

pub volume_kind : (refusal : Refusal) → SomeBytesHave basins_refusal refusal → IsOfVolume refusal
volume_kind refusal h = of_volume IsOfVolume (λ _. tt) (volume_flaw h.bytes) refusal h.holds

pub cut_kind : (chunk : List ℕ) (refusal : Refusal) → SomeBytesHave (segment_refusal chunk) refusal → IsOfCut refusal
cut_kind chunk refusal h =
    of_either (volume_flaw_refusal (header_flaw h.bytes)) _ refusal (of_volume IsOfCut (λ _. tt) (header_flaw h.bytes))
    (λ r. of_either (leaves_refusal (header_axes h.bytes) chunk) _ r (of_leaves (sizes_flaw (header_axes h.bytes) chunk))
    (of_volume IsOfCut (λ _. tt) (body_flaw (header_axes h.bytes) (body h.bytes)))) h.holds

pub tree_kind : (refusal : Refusal) → SomeBytesHave show_refusal refusal → IsOfTree refusal
tree_kind refusal h = of_tree (tree_flaw h.bytes) refusal h.holds
