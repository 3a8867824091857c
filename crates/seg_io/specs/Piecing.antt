-- What a Piecer means, and what its calls do to it and to its desk.
use Rattle.std.specs.Prelude.{◌≡◌, ℕ, Bool, true, false, List, [], ◌++◌}
use Rattle.seg_io.specs.declared.port.Port.{Port}
use Rattle.seg_io.specs.Desk.{DeskState, appended, FailsAfterWriting}

-- the port that a Piecer writes on, the bytes that it holds back, and whether a put of it failed
pub record PiecerState : Type 0 where
  pub port : Port
  pub held : List ℕ
  pub failed : Bool

-- a Piecer that was just made
abbrev pub new_piecer : Port → PiecerState
new_piecer port = record { port = port; held = []; failed = false }

-- The bytes were put: what the port gained, and then what is held, is what was held and then the bytes.
pub record Puts (bytes : List ℕ) (before now : PiecerState) (old new : DeskState) : Type 0 where
  pub written : List ℕ
  pub gained : written ++ now.held ≡ before.held ++ bytes
  pub after : new ≡ appended before.port written old
  pub kept : now ≡ record before { held = now.held }

-- A put failed: the port gained a prefix of what was held and then the bytes.
pub record FailsToPut (bytes : List ℕ) (before now : PiecerState) (old new : DeskState) : Type 0 where
  pub after : FailsAfterWriting before.port (before.held ++ bytes) old new
  pub marked : now ≡ record before { held = now.held; failed = true }
