-- Axes without a flaw are those within the limits.
use Rattle.std.proofs.Common.{◌≡◌, None, arith}
use Rattle.std.proofs.lemmas.Bool.Decides.{nat_tests}
use Rattle.agglo_model.specs.Axes.{Axes, IsWithinLimits, axes_flaw}

-- the limits hold of axes without a flaw
pub within_limits : (a : Axes) → axes_flaw a ≡ None → IsWithinLimits a
unfolding axes_flaw
within_limits a none = record {
  some_x = grind (arith, nat_tests);
  some_y = grind (arith, nat_tests);
  some_z = grind (arith, nat_tests);
  most_x = grind (arith, nat_tests);
  most_y = grind (arith, nat_tests);
  most_z = grind (arith, nat_tests);
  most_voxels = grind (arith, nat_tests);
}

-- axes within the limits have no flaw
pub no_flaw : (a : Axes) → IsWithinLimits a → axes_flaw a ≡ None
unfolding axes_flaw
no_flaw a limits = grind (arith, nat_tests)
