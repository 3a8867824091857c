-- The options that some command knows.
use Rattle.std.proofs.Common.{◌≢◌, List, All, AllPairs, Contains, refl, arith}
use Rattle.command_words.specs.Words.{Given}
use Rattle.command_words.specs.declared.options.OptionName.{OptionName}
use Rattle.command_words.specs.declared.options.OptionName.TheVariants.{Volume, Labels, Tree, Low, Merge, Chunk, Workers, Start, Dims}
use Rattle.command_words.specs.Slots.{option_names, spelled}

-- the options have names that some command knows, and each is given once
pub record AreKnownOnce (options : List Given) : Type 0 where
  pub known : All (λ o. Contains option_names o.name) options
  pub once : AllPairs (λ o p. o.name ≢ p.name) options

pub spelled_known : (n : OptionName) → Contains option_names (spelled n)
spelled_known Volume = (0, omega arith, refl)
spelled_known Labels = (1, omega arith, refl)
spelled_known Tree = (2, omega arith, refl)
spelled_known Low = (3, omega arith, refl)
spelled_known Merge = (4, omega arith, refl)
spelled_known Chunk = (5, omega arith, refl)
spelled_known Workers = (6, omega arith, refl)
spelled_known Start = (7, omega arith, refl)
spelled_known Dims = (8, omega arith, refl)
