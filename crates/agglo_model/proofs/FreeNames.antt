-- A name that is free in a node lies inside its cell: no path inside the name leaves it.
use Rattle.std.proofs.Common.{◌≡◌, ◌≢◌, ◌⊎◌, inl, inr, ℕ, zero, suc, ◌<◌, Bool, true, ◌&&◌, IsTrue, List, refl, sym, ◌∙◌, subst, arith}
use Rattle.std.proofs.lemmas.Bool.{cases_Bool, and_from}
use Rattle.std.proofs.lemmas.Bool.Decides.{nat_tests}
use Rattle.agglo_model.specs.Axes.{is_edge, lower_end, higher_end}
use Rattle.agglo_model.specs.Basins.{label_of}
use Rattle.agglo_model.specs.Contacts.{differ, are, lower_label, higher_label}
use Rattle.agglo_model.specs.Connected.{AreNeighbours, IsPath, AreConnected}
use Rattle.agglo_model.specs.Cutting.{Chunking, IsChunking, node_count}
use Rattle.agglo_model.specs.Freezing.{is_held, is_inside, IsFrozen}
use Rattle.agglo_model.specs.Work.{IsFree}
use Rattle.agglo_model.specs.NodeLaws.{FreeNamesLieInside}
use Rattle.agglo_model.proofs.Freezing.{occurs_at, part_held, part_name, part_from}
use Rattle.agglo_model.proofs.Crossings.{crossing}

-- a neighbour of a voxel that the name has in the cell is in the cell too, where the name isn't frozen
pub step_inside : (c : Chunking) → IsChunking c → (m : ℕ) → m < node_count c → (labels : List ℕ) (x : ℕ)
    → ¬ (IsFrozen c m labels x) → (v w : ℕ) → is_held c m v ≡ true → label_of labels v ≡ x
    → AreNeighbours c.axes v w → is_held c m w ≡ true
step_inside c h m node labels x unfrozen v w held name near = elim (cases_Bool (is_held c m w)) [
  | inl there ↦ there
  | inr out ↦ absurd (unfrozen (record {
    voxel = v;
    part = part_from c m labels x v held name;
    at_face = crossing c h m node v w held near out;
  }))
]

path_inside : (c : Chunking) → IsChunking c → (m : ℕ) → m < node_count c → (labels : List ℕ) (x : ℕ)
    → ¬ (IsFrozen c m labels x) → (k v w : ℕ) → IsPath c.axes labels x k v w → is_held c m v ≡ true
    → is_held c m w ≡ true
path_inside c h m node labels x unfrozen zero v w path held = subst (λ u. is_held c m u ≡ true) path.1 held
path_inside c h m node labels x unfrozen (suc k) v w (name, (u, near, path)) held =
    path_inside c h m node labels x unfrozen k u w path
    (step_inside c h m node labels x unfrozen v u held name near)

-- all voxels of a free name are in the cell
pub free_voxels : (c : Chunking) → IsChunking c → (m : ℕ) → m < node_count c → (labels : List ℕ)
    → AreConnected c.axes labels → (x : ℕ) → x ≢ 0 → IsFree c m labels x → (v : ℕ) → label_of labels v ≡ x
    → is_held c m v ≡ true
free_voxels c h m node labels connected x some free v name =
    let found = (occurs_at c m labels x).0 free.occurs in
    let u = found.0 in
    let held = part_held c m labels x u found.1 in
    let here = part_name c m labels x u found.1 in
    let path = connected u v (subst (λ y. y ≢ 0) (sym here) some) (name ∙ sym here) in
    path_inside c h m node labels x free.unfrozen path.0 u v
    (subst (λ y. IsPath c.axes labels y path.0 u v) here path.1) held

-- an edge that joins x to another name has an end in x
edge_at : (i : Bool) (p q x y : ℕ) → ((i && differ p q) && are p q x y) ≡ true → IsTrue i × ((p ≡ x) ⊎ (q ≡ x))
edge_at i p q x y joined = grind (arith, nat_tests)

free_edge : (c : Chunking) → IsChunking c → (m : ℕ) → m < node_count c → (labels : List ℕ) (x : ℕ)
    → ¬ (IsFrozen c m labels x) → ((v : ℕ) → label_of labels v ≡ x → is_held c m v ≡ true) → (e : ℕ)
    → IsTrue (is_edge c.axes e)
    → (label_of labels (lower_end c.axes e) ≡ x) ⊎ (label_of labels (higher_end e) ≡ x) → is_inside c m e ≡ true
free_edge c h m node labels x unfrozen voxels e edge (inl low) =
    let held = voxels (lower_end c.axes e) low in
    and_from (is_held c m (lower_end c.axes e)) (is_held c m (higher_end e)) held
    (step_inside c h m node labels x unfrozen (lower_end c.axes e) (higher_end e) held low (e, edge, inl (refl, refl)))
free_edge c h m node labels x unfrozen voxels e edge (inr high) =
    let held = voxels (higher_end e) high in
    and_from (is_held c m (lower_end c.axes e)) (is_held c m (higher_end e))
    (step_inside c h m node labels x unfrozen (higher_end e) (lower_end c.axes e) held high (e, edge, inr (refl, refl)))
    held

pub free_names_lie_inside : FreeNamesLieInside
free_names_lie_inside g c m labels x h axes node connected some free =
    let within = free_voxels c h m node labels (subst (λ a. AreConnected a labels) (sym axes) connected) x some free in
    record {
      voxels = within;
      contacts = λ y e joined.
          let at = edge_at (is_edge g.axes e) (lower_label g labels e) (higher_label g labels e) x y joined in
          free_edge c h m node labels x free.unfrozen within e
          (subst (λ a. IsTrue (is_edge a e)) (sym axes) at.0)
          (subst (λ a. (label_of labels (lower_end a e) ≡ x) ⊎ (label_of labels (higher_end e) ≡ x)) (sym axes) at.1);
    }
