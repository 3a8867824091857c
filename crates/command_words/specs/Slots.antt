-- The options of all commands, and the values that words give them.
use Rattle.std.specs.Prelude.{◌≡◌, ◌≢◌, ℕ, List, [], ◌∷◌, All, AllPairs, Option, None, MatchOption, slice_index_or, codes}
use Rattle.std.specs.List.{flat_map}
use denote.Ref.{Bor}
use Rattle.command_words.specs.Words.{Given, given_words, AreOptionsOf, HasValue, IsName}
use Rattle.command_words.specs.declared.options.OptionName.{OptionName}
use Rattle.command_words.specs.declared.options.OptionName.TheVariants.{Volume, Labels, Tree, Low, Merge, Chunk, Workers, Start, Dims}
use Rattle.command_words.specs.declared.job.WordsFault.{WordsFault}
use Rattle.command_words.specs.declared.job.WordsFault.TheVariants.{NoSettings, Memory}

-- the names of all options of all commands
abbrev pub option_names : List (List ℕ)
option_names = codes "volume" ∷ codes "labels" ∷ codes "tree" ∷ codes "low" ∷ codes "merge" ∷ codes "chunk" ∷ codes "workers" ∷ codes "start" ∷ codes "dims" ∷ []

abbrev pub spelled : OptionName → List ℕ
spelled Volume = codes "volume"
spelled Labels = codes "labels"
spelled Tree = codes "tree"
spelled Low = codes "low"
spelled Merge = codes "merge"
spelled Chunk = codes "chunk"
spelled Workers = codes "workers"
spelled Start = codes "start"
spelled Dims = codes "dims"

-- the place of an option's value among those of all
abbrev pub place : OptionName → ℕ
place Volume = 0
place Labels = 1
place Tree = 2
place Low = 3
place Merge = 4
place Chunk = 5
place Workers = 6
place Start = 7
place Dims = 8

-- the value of an option, if there is one
abbrev pub slot_of : List (Option (Bor (List ℕ))) → OptionName → Option (Bor (List ℕ))
slot_of values option = slice_index_or values (place option) None

-- no option of this name is given
abbrev pub IsMissing : List Given → List ℕ → Type 0
IsMissing options name = All (λ o. o.name ≢ name) options

-- the value at an option's place is the one that is given, or none is
abbrev pub IsSlot : List Given → List ℕ → Option (Bor (List ℕ)) → Type 0
IsSlot options name slot = MatchOption slot (IsMissing options name) (λ value. HasValue options name value.now)

-- no option is given twice, and each place has the value of its option
pub record AreSlots (options : List Given) (values : List (Option (Bor (List ℕ)))) : Type 0 where
  pub once : AllPairs (λ o p. o.name ≢ p.name) options
  pub slots : (option : OptionName) → IsSlot options (spelled option) (slot_of values option)

-- the words are the options of these names, and these are their values
pub record ReadsOptions (names words : List (List ℕ)) (values : List (Option (Bor (List ℕ)))) : Type 0 where
  pub options : List Given
  pub words_are : words ≡ flat_map given_words options
  pub options_are : AreOptionsOf names options
  pub slots : AreSlots options values

-- why they are not: whatever options of these names stand there, one has a value that no option takes
abbrev pub RefusesOptions : List (List ℕ) → List (List ℕ) → WordsFault → Type 0
RefusesOptions names words NoSettings = (options : List Given) → AreOptionsOf names options → All (λ o. IsName o.value) options
    → ¬ (words ≡ flat_map given_words options)
RefusesOptions names words Memory = Unit {0}
