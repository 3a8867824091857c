-- What tree files are like: bytes without a flaw hold a merge tree, whose file they are, and a merge tree is read
-- back.
use Rattle.std.specs.Prelude.{◌≡◌, ℕ, ◌^◌, ◌<◌, List, All, None}
use Rattle.agglo_model.specs.TreeFile.{MergeTree, IsMergeTree, tree_bytes, tree_flaw, tree_in}

abbrev pub SoundFilesHoldTrees : Type 0
SoundFilesHoldTrees = (bytes : List ℕ) → tree_flaw bytes ≡ None → IsMergeTree (tree_in bytes)

-- the threshold's numbers are those of four bytes
abbrev pub TreesReadBack : Type 0
TreesReadBack = (tree : MergeTree) → IsMergeTree tree → tree.threshold.p < 2 ^ 32 → tree.threshold.q < 2 ^ 32
    → (tree_flaw (tree_bytes tree) ≡ None) × (tree_in (tree_bytes tree) ≡ tree)

-- bytes without a flaw are the file of the tree that they hold
abbrev pub SoundFilesAreOfTrees : Type 0
SoundFilesAreOfTrees = (bytes : List ℕ) → All (λ byte. byte < 256) bytes → tree_flaw bytes ≡ None
    → tree_bytes (tree_in bytes) ≡ bytes
