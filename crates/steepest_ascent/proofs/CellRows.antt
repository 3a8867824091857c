-- The rows of a cell: which steps lead out of it from there.
use Rattle.std.proofs.Common.{◌≡◌, ℕ, ◌+◌, ◌-◌, ◌<◌, ◌≤◌, ◌⊎◌, nat_lt, true, List, inl, inr, refl, sym, ◌∙◌, ap, subst, arith}
use Rattle.std.proofs.lemmas.Bool.{cases_lt}
use Rattle.std.proofs.lemmas.Bool.Decides.{nat_tests}
use Rattle.std.proofs.lemmas.List.{get_or_past}
use Rattle.agglo_model.specs.Axes.{Axes, IsPlace, voxel_at, voxel_count}
use Rattle.edge_order.specs.Steps.{leads_within, steps_within}
use Rattle.edge_order.specs.declared.step.Step.{Step}
use Rattle.edge_order.specs.declared.step.Step.TheVariants.{Stay, BackX, BackY, BackZ, OnX, OnY, OnZ}
use Rattle.edge_order.proofs.StepPlaces.{leads_at_place}
use Rattle.steepest_ascent.specs.CellEnds.{end_at}
use Rattle.steepest_ascent.specs.Charts.{Chart, IsCharted, IsEndAt, own_grid, step_of, GainsEnds, StaysWithin}
use Rattle.steepest_ascent.specs.declared.ends.End.{End}
use Rattle.steepest_ascent.proofs.CellFilling.{end_stays, within_stays}

some_back : (n : ℕ) → 0 < n → nat_lt 0 n ≡ true
some_back n lt = grind (arith, nat_tests)

some_on : (n m : ℕ) → n + 1 < m → nat_lt (n + 1) m ≡ true
some_on n m lt = grind (arith, nat_tests)

-- no step leads out of a cell from its inside
pub inner_place : (t : Chart) (ends : List End) (x y z : ℕ) → IsPlace (own_grid t) x y z → 0 < x
    → x + 1 < (own_grid t).nx → 0 < y → y + 1 < (own_grid t).ny → 0 < z → z + 1 < (own_grid t).nz
    → StaysWithin t ends (voxel_at (own_grid t) x y z)
inner_place t ends x y z place from_x to_x from_y to_y from_z to_z none =
    leads_at_place (own_grid t) x y z (step_of t (voxel_at (own_grid t) x y z)) place
    ∙ pick (step_of t (voxel_at (own_grid t) x y z))
  where
    pick : (s : Step) → steps_within (own_grid t) x y z s ≡ true
    pick Stay = refl
    pick BackX = some_back x from_x
    pick BackY = some_back y from_y
    pick BackZ = some_back z from_z
    pick OnX = some_on x (own_grid t).nx to_x
    pick OnY = some_on y (own_grid t).ny to_y
    pick OnZ = some_on z (own_grid t).nz to_z

-- of a row inside the cell only the first and the last voxel are looked at
pub inner_row : (t : Chart) (first last : List End) (y z : ℕ) → 0 < y → y + 1 < (own_grid t).ny → 0 < z
    → z + 1 < (own_grid t).nz → StaysWithin t first (voxel_at (own_grid t) 0 y z) → GainsEnds t first last
    → StaysWithin t last (voxel_at (own_grid t) ((own_grid t).nx - 1) y z)
    → (x : ℕ) → x < (own_grid t).nx → StaysWithin t last (voxel_at (own_grid t) x y z)
inner_row t first last y z from_y to_y from_z to_z begin gains end x lt = pick (cases_lt 0 x) (cases_lt (x + 1) (own_grid t).nx)
  where
    pick : (0 < x) ⊎ (x ≤ 0) → (x + 1 < (own_grid t).nx) ⊎ ((own_grid t).nx ≤ x + 1)
        → StaysWithin t last (voxel_at (own_grid t) x y z)
    pick (inr none) end_or_not =
        let is : 0 ≡ x = omega arith in
        within_stays t first last (voxel_at (own_grid t) x y z) gains
        (subst (λ k. StaysWithin t first (voxel_at (own_grid t) k y z)) is begin)
    pick (inl some) (inl more) = inner_place t last x y z
        (record { in_x = lt; in_y = omega arith; in_z = omega arith }) some more from_y to_y from_z to_z
    pick (inl some) (inr no_more) =
        let is : (own_grid t).nx - 1 ≡ x = omega arith in
        subst (λ k. StaysWithin t last (voxel_at (own_grid t) k y z)) is end

-- the voxels of a row that are done, and one more
pub place_more : (t : Chart) (before after : List End) (x y z : ℕ)
    → ((k : ℕ) → k < x → StaysWithin t before (voxel_at (own_grid t) k y z)) → GainsEnds t before after
    → StaysWithin t after (voxel_at (own_grid t) x y z)
    → (k : ℕ) → k < x + 1 → StaysWithin t after (voxel_at (own_grid t) k y z)
place_more t before after x y z done gains here k lt = elim (cases_lt k x) [
  | inl less ↦ within_stays t before after (voxel_at (own_grid t) k y z) gains (done k less)
  | inr ge ↦ (let is : x ≡ k = omega arith in subst (λ j. StaysWithin t after (voxel_at (own_grid t) j y z)) is here)
]

-- the rows that are done, and one more
pub row_more : (t : Chart) (before after : List End) (y z : ℕ)
    → ((i : ℕ) → i < voxel_at (own_grid t) 0 y z → StaysWithin t before i) → GainsEnds t before after
    → ((x : ℕ) → x < (own_grid t).nx → StaysWithin t after (voxel_at (own_grid t) x y z))
    → (i : ℕ) → i < voxel_at (own_grid t) 0 (y + 1) z → StaysWithin t after i
row_more t before after y z done gains row i lt = elim (cases_lt i (voxel_at (own_grid t) 0 y z)) [
  | inl less ↦ within_stays t before after i gains (done i less)
  | inr ge ↦ (let x : ℕ = i - voxel_at (own_grid t) 0 y z in
      let is : voxel_at (own_grid t) x y z ≡ i = omega arith in
      subst (λ j. StaysWithin t after j) is (row x (omega arith)))
]

-- beyond the cell there is no step
pub past_cell : (t : Chart) (own : Axes) (ends : List End) (i : ℕ) → IsCharted t own → voxel_count (own_grid t) ≤ i
    → StaysWithin t ends i
past_cell t own ends i h ge none =
    ap (λ s. leads_within (own_grid t) i s) (get_or_past t.steps i Stay (subst (λ n. n ≤ i) (sym h.one_each) ge))

-- the voxels of the rows that have their ends, and one row more
pub ends_more : (t : Chart) (before after : List End) (y z : ℕ)
    → ((i : ℕ) → i < voxel_at (own_grid t) 0 y z → IsEndAt t i (end_at before i)) → GainsEnds t before after
    → ((x : ℕ) → x < (own_grid t).nx → IsEndAt t (voxel_at (own_grid t) x y z) (end_at after (voxel_at (own_grid t) x y z)))
    → (i : ℕ) → i < voxel_at (own_grid t) 0 (y + 1) z → IsEndAt t i (end_at after i)
ends_more t before after y z done gains row i lt = elim (cases_lt i (voxel_at (own_grid t) 0 y z)) [
  | inl less ↦ end_stays t i before after gains (done i less)
  | inr ge ↦ (let x : ℕ = i - voxel_at (own_grid t) 0 y z in
      let is : voxel_at (own_grid t) x y z ≡ i = omega arith in
      subst (λ j. IsEndAt t j (end_at after j)) is (row x (omega arith)))
]

-- the voxels of a row that have theirs, and one more
pub end_more : (t : Chart) (before after : List End) (x y z : ℕ)
    → ((k : ℕ) → k < x → IsEndAt t (voxel_at (own_grid t) k y z) (end_at before (voxel_at (own_grid t) k y z)))
    → GainsEnds t before after → IsEndAt t (voxel_at (own_grid t) x y z) (end_at after (voxel_at (own_grid t) x y z))
    → (k : ℕ) → k < x + 1 → IsEndAt t (voxel_at (own_grid t) k y z) (end_at after (voxel_at (own_grid t) k y z))
end_more t before after x y z done gains here k lt = elim (cases_lt k x) [
  | inl less ↦ end_stays t (voxel_at (own_grid t) k y z) before after gains (done k less)
  | inr ge ↦ (let is : x ≡ k = omega arith in
      subst (λ j. IsEndAt t (voxel_at (own_grid t) j y z) (end_at after (voxel_at (own_grid t) j y z))) is here)
]
