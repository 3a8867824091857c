-- Numbers as bytes, both ways.
use Rattle.std.specs.Prelude.{◌≡◌, ℕ, ◌+◌, ◌*◌, ◌^◌, ◌<◌, List, [], ◌∷◌, All}
use Rattle.agglo_model.specs.VolumeFile.{u32_at}
use Rattle.agglo_model.specs.LabelFile.{u32_bytes}
use Rattle.agglo_model.specs.MergeTree.{u64_bytes}

-- the number in the eight bytes from offset k, the lowest byte first
abbrev pub u64_at : ℕ → List ℕ → ℕ
u64_at k bytes = u32_at k bytes + 4294967296 * u32_at (k + 4) bytes

-- a number reads back from its four bytes, and from its eight
abbrev pub NumbersReadBack : Type 0
NumbersReadBack = ((n : ℕ) → n < 2 ^ 32 → u32_at 0 (u32_bytes n) ≡ n)
    × ((n : ℕ) → n < 2 ^ 64 → u64_at 0 (u64_bytes n) ≡ n)

-- four bytes are those of the number that they read as, and so are eight
abbrev pub BytesWriteBack : Type 0
BytesWriteBack = ((a b c d : ℕ) → All (λ byte. byte < 256) (a ∷ b ∷ c ∷ d ∷ [])
    → u32_bytes (u32_at 0 (a ∷ b ∷ c ∷ d ∷ [])) ≡ a ∷ b ∷ c ∷ d ∷ [])
    × ((a b c d e f g h : ℕ) → All (λ byte. byte < 256) (a ∷ b ∷ c ∷ d ∷ e ∷ f ∷ g ∷ h ∷ [])
    → u64_bytes (u64_at 0 (a ∷ b ∷ c ∷ d ∷ e ∷ f ∷ g ∷ h ∷ [])) ≡ a ∷ b ∷ c ∷ d ∷ e ∷ f ∷ g ∷ h ∷ [])
