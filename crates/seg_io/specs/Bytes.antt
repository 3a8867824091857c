-- What is said of bytes where a desk tells none.
use Rattle.std.specs.Prelude.{ℕ, ◌<◌, List, All}

-- some bytes, which are numbers below 256, of which this holds
pub record SomeBytes (Holds : List ℕ → Type 0) : Type 0 where
  pub bytes : List ℕ
  pub fit : All (λ byte. byte < 256) bytes
  pub holds : Holds bytes
