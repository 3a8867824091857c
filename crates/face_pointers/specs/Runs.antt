-- Voxels one after another in a row of a leaf.
use Rattle.std.specs.Prelude.{◌≡◌, ℕ, ◌+◌, ◌<◌, ◌≤◌}
use Rattle.agglo_model.specs.Axes.{voxel_count}
use Rattle.agglo_model.specs.Cutting.{cells_at}
use Rattle.face_pointers.specs.Pieces.{Parts, leaf_grid, leaf_voxel}
use Rattle.face_pointers.specs.declared.exits.Run.{Run}

-- the voxels of the volume from v on are those of the run, in the same order
pub record IsRunFrom (p : Parts) (v : ℕ) (run : Run) : Type 0 where
  pub leaf : run.leaf < cells_at p.cutting 0
  pub some : 0 < run.length
  pub own : (k : ℕ) → k < run.length → run.own + k < voxel_count (leaf_grid p run.leaf)
  pub same : (k : ℕ) → k < run.length → leaf_voxel p run.leaf (run.own + k) ≡ v + k
  pub short : v + run.length ≤ voxel_count p.grid.axes
