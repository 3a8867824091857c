-- A cutting is finer than itself, by no level.
use Rattle.std.proofs.Common.{◌≡◌, ℕ, ◌*◌, ◌^◌, inl, refl, sym, subst, arith}
use Rattle.agglo_model.specs.Cutting.{Chunking, IsChunking}
use Rattle.agglo_model.specs.Finer.{IsFiner}

pub no_finer : (t : Chunking) → IsChunking t → IsFiner t t 0
no_finer t h = record {
  cutting = h;
  axes = refl;
  on_x = inl (whole t.leaf.nx);
  on_y = inl (whole t.leaf.ny);
  on_z = inl (whole t.leaf.nz);
  levels = omega arith;
}
  where
    whole : (n : ℕ) → n ≡ n * 2 ^ 0
    whole n = omega arith

pub as_finer : (t c d : Chunking) (k j : ℕ) → d ≡ c → j ≡ k → IsFiner t c k → IsFiner t d j
as_finer t c d k j cutting levels finer = subst (IsFiner t d) (sym levels) (subst (λ z. IsFiner t z k) (sym cutting) finer)
