-- The kept regions of a node's children are those of the single residues.
use Rattle.std.proofs.Common.{◌≡◌, inl, inr, ℕ, zero, suc, ◌+◌, ◌<◌, List, [], ◌∷◌, length, ap, ◌∙◌, subst, arith}
use Rattle.std.specs.Prelude.{Contains, map}
use Rattle.std.proofs.lemmas.List.Elements.{Contains-append_left, Contains-append_right, Contains-append_cases}
use Rattle.agglo_model.specs.Cutting.{Chunking, child}
use Rattle.agglo_model.specs.RegionGraph.{Region, RegionGraph, residue_of}
use Rattle.agglo_model.specs.Joining.{kept_region, kept_regions}
use Rattle.agglo_model.proofs.Members.{Contains-map, Contains-unmap, contains_none}

-- a region of the residue of one of the children from number i on becomes this one
pub record IsKeptFrom (c : Chunking) (m i : ℕ) (kids : List RegionGraph) (kept : Region) : Type 0 where
  pub kid : ℕ
  pub below : kid < length kids
  pub region : Region
  pub there : Contains (residue_of kids kid).regions region
  pub becomes : kept_region c m (child c m (i + kid)) region ≡ kept

pub kept_from : (c : Chunking) (m i : ℕ) (kids : List RegionGraph) (kept : Region)
    → Contains (kept_regions c m i kids) kept → IsKeptFrom c m i kids kept
kept_from c m i [] kept inside = absurd (contains_none kept inside)
kept_from c m i (kid ∷ kids) kept inside =
    elim (Contains-append_cases (map (kept_region c m (child c m i)) kid.regions) (kept_regions c m (i + 1) kids) kept inside) [
      | inl here ↦
          let found = Contains-unmap (kept_region c m (child c m i)) kid.regions kept here in
          let same : i + 0 ≡ i = omega arith in
          record {
            kid = 0;
            below = omega arith;
            region = found.0;
            there = found.1;
            becomes = ap (λ n. kept_region c m (child c m n) found.0) same ∙ found.2;
          }
      | inr later ↦
          let rest = kept_from c m (i + 1) kids kept later in
          let next : i + suc rest.kid ≡ i + 1 + rest.kid = omega arith in
          record {
            kid = suc rest.kid;
            below = omega (arith, rest.below);
            region = rest.region;
            there = rest.there;
            becomes = ap (λ n. kept_region c m (child c m n) rest.region) next ∙ rest.becomes;
          }
    ]

pub from_kept : (c : Chunking) (m i : ℕ) (kids : List RegionGraph) (k : ℕ) (r : Region) → k < length kids
    → Contains (residue_of kids k).regions r
    → Contains (kept_regions c m i kids) (kept_region c m (child c m (i + k)) r)
from_kept c m i [] k r below inside = absurd (omega arith)
from_kept c m i (kid ∷ kids) zero r below inside =
    let same : i ≡ i + 0 = omega arith in
    subst (λ n. Contains (kept_regions c m i (kid ∷ kids)) (kept_region c m (child c m n) r)) same
    (Contains-append_left (map (kept_region c m (child c m i)) kid.regions) (kept_regions c m (i + 1) kids)
    (kept_region c m (child c m i) r) (Contains-map (kept_region c m (child c m i)) kid.regions r inside))
from_kept c m i (kid ∷ kids) (suc k) r below inside =
    let next : i + 1 + k ≡ i + suc k = omega arith in
    subst (λ n. Contains (kept_regions c m i (kid ∷ kids)) (kept_region c m (child c m n) r)) next
    (Contains-append_right (map (kept_region c m (child c m i)) kid.regions) (kept_regions c m (i + 1) kids)
    (kept_region c m (child c m (i + 1 + k)) r) (from_kept c m (i + 1) kids k r (omega arith) inside))
