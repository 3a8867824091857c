-- Which names occur in a cell and which faces they touch, after one name has taken another.
use Rattle.std.proofs.Common.{◌≡◌, ◌≢◌, ◌⊎◌, inl, inr, ℕ, ◌==◌, ◌&&◌, eqb, List, get_or, sym, ap, ◌∙◌, subst, arith}
use Rattle.std.specs.Prelude.{IsTrue}
use Rattle.std.proofs.lemmas.Bool.Decides.{nat_tests}
use mathlib.Core.Path.{fun_ext}
use Rattle.agglo_model.specs.Contacts.{renamed}
use Rattle.agglo_model.specs.Cutting.{Chunking}
use Rattle.agglo_model.specs.Freezing.{is_held, is_part, some_voxel, occurs_in, touched_faces, IsFrozen}
use Rattle.agglo_model.proofs.Freezing.{occurs_at, part_held, part_name, part_from}
use Rattle.agglo_model.proofs.Renames.{new_name, label-renamed, not_absorbed}
use Rattle.work_laws.proofs.SameCells.{faces_of}

same_test : (l a b x : ℕ) → x ≢ a → x ≢ b → eqb (new_name a b l) x ≡ eqb l x
same_test l a b x xa xb = grind (arith, nat_tests)

-- another name has the voxels that it had
pub part-renamed : (c : Chunking) (m : ℕ) (labels : List ℕ) (a b x : ℕ) → b ≢ 0 → x ≢ a → x ≢ b
    → is_part c m (renamed labels a b) x ≡ is_part c m labels x
part-renamed c m labels a b x pb xa xb = fun_ext (λ v.
    ap (λ l. is_held c m v && l == x) (label-renamed labels a b v pb)
    ∙ ap (λ t. is_held c m v && t) (same_test (get_or labels v 0) a b x xa xb))

pub occurs-renamed : (c : Chunking) (m : ℕ) (labels : List ℕ) (a b x : ℕ) → b ≢ 0 → x ≢ a → x ≢ b
    → occurs_in c m (renamed labels a b) x ≡ occurs_in c m labels x
occurs-renamed c m labels a b x pb xa xb = ap (some_voxel c) (part-renamed c m labels a b x pb xa xb)

pub touched-renamed : (c : Chunking) (m : ℕ) (labels : List ℕ) (a b x : ℕ) → b ≢ 0 → x ≢ a → x ≢ b
    → touched_faces c m (renamed labels a b) x ≡ touched_faces c m labels x
touched-renamed c m labels a b x pb xa xb = ap (faces_of c m) (part-renamed c m labels a b x pb xa xb)

survivor_label : (l a b : ℕ) → new_name a b l ≡ a → (l ≡ a) ⊎ (l ≡ b)
survivor_label l a b same = grind (arith, nat_tests)

kept_label : (l a b : ℕ) → l ≡ a → new_name a b l ≡ a
kept_label l a b same = grind (arith, nat_tests)

-- the absorbed name occurs nowhere
pub absorbed_gone : (c : Chunking) (m : ℕ) (labels : List ℕ) (a b : ℕ) → a ≢ b → b ≢ 0
    → ¬ (IsTrue (occurs_in c m (renamed labels a b) b))
absorbed_gone c m labels a b ab pb occurs =
    let found = (occurs_at c m (renamed labels a b) b).0 occurs in
    not_absorbed a b (get_or labels found.0 0) ab
    (sym (label-renamed labels a b found.0 pb) ∙ part_name c m (renamed labels a b) b found.0 found.1)

-- the survivor still occurs
pub survivor_occurs : (c : Chunking) (m : ℕ) (labels : List ℕ) (a b : ℕ) → b ≢ 0 → IsTrue (occurs_in c m labels a)
    → IsTrue (occurs_in c m (renamed labels a b) a)
survivor_occurs c m labels a b pb occurs =
    let found = (occurs_at c m labels a).0 occurs in
    (occurs_at c m (renamed labels a b) a).1 (
      found.0,
      part_from c m (renamed labels a b) a found.0 (part_held c m labels a found.0 found.1)
          (label-renamed labels a b found.0 pb ∙ kept_label (get_or labels found.0 0) a b (part_name c m labels a found.0 found.1)),
    )

-- where the survivor is frozen, one of the two was
pub frozen_before : (c : Chunking) (m : ℕ) (labels : List ℕ) (a b : ℕ) → b ≢ 0 → IsFrozen c m (renamed labels a b) a
    → IsFrozen c m labels a ⊎ IsFrozen c m labels b
frozen_before c m labels a b pb frozen =
    let v = frozen.voxel in
    let held = part_held c m (renamed labels a b) a v frozen.part in
    let name = sym (label-renamed labels a b v pb) ∙ part_name c m (renamed labels a b) a v frozen.part in
    elim (survivor_label (get_or labels v 0) a b name) [
      | inl same ↦ inl (record { voxel = v; part = part_from c m labels a v held same; at_face = frozen.at_face })
      | inr same ↦ inr (record { voxel = v; part = part_from c m labels b v held same; at_face = frozen.at_face })
    ]

-- another name is frozen after the merge where it was before
pub frozen_other : (c : Chunking) (m : ℕ) (labels : List ℕ) (a b x : ℕ) → b ≢ 0 → x ≢ a → x ≢ b
    → IsFrozen c m (renamed labels a b) x → IsFrozen c m labels x
frozen_other c m labels a b x pb xa xb frozen = record {
  voxel = frozen.voxel;
  part = subst (λ p. IsTrue (p frozen.voxel)) (part-renamed c m labels a b x pb xa xb) frozen.part;
  at_face = frozen.at_face;
}
