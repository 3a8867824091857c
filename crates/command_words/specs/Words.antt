-- The words of the command line, each a list of bytes.
use Rattle.std.specs.Prelude.{◌≡◌, ◌≢◌, ℕ, ◌+◌, ◌*◌, ◌-◌, ◌<◌, ◌≤◌, Bool, if◌then◌else◌, List, [], ◌∷◌, ◌++◌, length, map, fold, All, AllPairs, Contains, slice_index, codes}
use Rattle.std.specs.List.{flat_map}
use Rattle.std.specs.Char.{IsAsciiDigit}
use Rattle.agglo_model.specs.Axes.{Axes, IsWithinLimits}
use Rattle.agglo_model.specs.PairOrder.{Threshold}
use Rattle.command_words.specs.Parts.{IsWithout}

-- a name of a file: any text that is not empty and does not begin with `-`
pub record IsName (word : List ℕ) : Type 0 where
  pub some : 0 < length word
  pub no_option : slice_index word 0 ≢ 45

-- the number that decimal digits spell
abbrev pub digits_number : List ℕ → ℕ
digits_number word = fold (λ n digit. 10 * n + (digit - 48)) 0 word

-- the word is one to ten digits, leading zeros among them, and spells a number from least to most
pub record IsNumber (least most : ℕ) (word : List ℕ) : Type 0 where
  pub some : 0 < length word
  pub at_most_ten : length word ≤ 10
  pub digits : All IsAsciiDigit word
  pub low_enough : digits_number word ≤ most
  pub high_enough : least ≤ digits_number word

-- the word is two numbers with `/` between them, and spells p / q: p is 0 to 2^32 - 1, q is 1 to 2^32 - 1
pub record IsFraction (word : List ℕ) (t : Threshold) : Type 0 where
  pub above : List ℕ
  pub below : List ℕ
  pub parts : word ≡ above ++ codes "/" ++ below
  pub numerator : IsNumber 0 4294967295 above
  pub denominator : IsNumber 1 4294967295 below
  pub p_is : digits_number above ≡ t.p
  pub q_is : digits_number below ≡ t.q

-- the word is three numbers from 1 to 65,535 with `,` between them, and spells these sizes on x, y and z
pub record AreSizes (word : List ℕ) (sizes : List ℕ) : Type 0 where
  pub x : List ℕ
  pub y : List ℕ
  pub z : List ℕ
  pub parts : word ≡ x ++ codes "," ++ y ++ codes "," ++ z
  pub x_number : IsNumber 1 65535 x
  pub y_number : IsNumber 1 65535 y
  pub z_number : IsNumber 1 65535 z
  pub sizes_are : sizes ≡ digits_number x ∷ digits_number y ∷ digits_number z ∷ []

-- the word is three numbers with `,` between them, and spells axes of a volume: they are within its limits
pub record SpellsAxes (word : List ℕ) (axes : Axes) : Type 0 where
  pub sizes : AreSizes word (axes.nx ∷ axes.ny ∷ axes.nz ∷ [])
  pub limits : IsWithinLimits axes

-- ---- options

-- an option as it is given: its name without the dashes, its value, and whether both are one word
pub record Given : Type 0 where
  pub name : List ℕ
  pub value : List ℕ
  pub is_one_word : Bool

-- the words that an option is given by: `--name=value`, or `--name` and the value
abbrev pub given_words : Given → List (List ℕ)
given_words o = if o.is_one_word then (codes "--" ++ o.name ++ codes "=" ++ o.value) ∷ []
    else (codes "--" ++ o.name) ∷ o.value ∷ []

-- Of the options of these names each stands there once, in any order, and no other stands there.
pub record AreOptionsOf (names : List (List ℕ)) (options : List Given) : Type 0 where
  pub known : All (λ o. Contains names o.name) options
  pub once : AllPairs (λ o p. o.name ≢ p.name) options
  pub all : All (λ name. Contains (map (λ o. o.name) options) name) names

-- an option of this name is given this value
abbrev pub HasValue : List Given → List ℕ → List ℕ → Type 0
HasValue options name value = (o : Given) × Contains options o × (o.name ≡ name) × (o.value ≡ value)

-- an option of this name is given a number in this range
pub record HasNumber (options : List Given) (name : List ℕ) (least most n : ℕ) : Type 0 where
  pub word : List ℕ
  pub given : HasValue options name word
  pub number : IsNumber least most word
  pub value : digits_number word ≡ n

-- an option of this name is given the name of a file
pub record HasName (options : List Given) (name file : List ℕ) : Type 0 where
  pub given : HasValue options name file
  pub is_name : IsName file

-- an option of this name is given a fraction
pub record HasFraction (options : List Given) (name : List ℕ) (t : Threshold) : Type 0 where
  pub word : List ℕ
  pub given : HasValue options name word
  pub fraction : IsFraction word t

-- an option of this name is given three sizes
pub record HasSizes (options : List Given) (name sizes : List ℕ) : Type 0 where
  pub word : List ℕ
  pub given : HasValue options name word
  pub sizes_are : AreSizes word sizes

-- an option of this name is given the axes of a volume
pub record HasAxes (options : List Given) (name : List ℕ) (axes : Axes) : Type 0 where
  pub word : List ℕ
  pub given : HasValue options name word
  pub axes_are : SpellsAxes word axes

-- ---- commands

-- the words of the commands
abbrev pub commands : List (List ℕ)
commands = codes "basins" ∷ codes "segment" ∷ codes "make" ∷ codes "trial" ∷ codes "show" ∷ []

-- the options of each
abbrev pub basins_options : List (List ℕ)
basins_options = codes "volume" ∷ codes "labels" ∷ codes "low" ∷ []

abbrev pub segment_options : List (List ℕ)
segment_options = codes "volume" ∷ codes "labels" ∷ codes "tree" ∷ codes "low" ∷ codes "merge" ∷ codes "chunk" ∷ codes "workers" ∷ []

abbrev pub make_options : List (List ℕ)
make_options = codes "volume" ∷ codes "start" ∷ codes "dims" ∷ []

abbrev pub trial_options : List (List ℕ)
trial_options = codes "start" ∷ codes "dims" ∷ codes "low" ∷ codes "merge" ∷ codes "chunk" ∷ codes "workers" ∷ []

abbrev pub show_options : List (List ℕ)
show_options = codes "tree" ∷ []

-- what the options of `basins` say
pub record BasinsSettings : Type 0 where
  pub volume : List ℕ
  pub labels : List ℕ
  pub low : ℕ

pub record GivesBasins (options : List Given) (settings : BasinsSettings) : Type 0 where
  pub options_are : AreOptionsOf basins_options options
  pub volume : HasName options (codes "volume") settings.volume
  pub labels : HasName options (codes "labels") settings.labels
  pub low : HasNumber options (codes "low") 0 255 settings.low
  pub differ : settings.volume ≢ settings.labels

-- what the options of `segment` say
pub record SegmentSettings : Type 0 where
  pub volume : List ℕ
  pub labels : List ℕ
  pub tree : List ℕ
  pub low : ℕ
  pub threshold : Threshold
  pub chunk : List ℕ
  pub workers : ℕ

pub record GivesSegment (options : List Given) (settings : SegmentSettings) : Type 0 where
  pub options_are : AreOptionsOf segment_options options
  pub volume : HasName options (codes "volume") settings.volume
  pub labels : HasName options (codes "labels") settings.labels
  pub tree : HasName options (codes "tree") settings.tree
  pub low : HasNumber options (codes "low") 0 255 settings.low
  pub merge : HasFraction options (codes "merge") settings.threshold
  pub chunk : HasSizes options (codes "chunk") settings.chunk
  pub workers : HasNumber options (codes "workers") 1 32 settings.workers
  pub volume_labels : settings.volume ≢ settings.labels
  pub volume_tree : settings.volume ≢ settings.tree
  pub labels_tree : settings.labels ≢ settings.tree

-- the option of `show` names this tree file
pub record GivesShow (options : List Given) (tree : List ℕ) : Type 0 where
  pub options_are : AreOptionsOf show_options options
  pub tree_name : HasName options (codes "tree") tree

-- what the options of `make` say
pub record MakeSettings : Type 0 where
  pub volume : List ℕ
  pub start : ℕ
  pub axes : Axes

pub record GivesMake (options : List Given) (settings : MakeSettings) : Type 0 where
  pub options_are : AreOptionsOf make_options options
  pub volume : HasName options (codes "volume") settings.volume
  pub start : HasNumber options (codes "start") 0 4294967295 settings.start
  pub dims : HasAxes options (codes "dims") settings.axes

-- what the options of `trial` say
pub record TrialSettings : Type 0 where
  pub start : ℕ
  pub axes : Axes
  pub low : ℕ
  pub threshold : Threshold
  pub chunk : List ℕ
  pub workers : ℕ

pub record GivesTrial (options : List Given) (settings : TrialSettings) : Type 0 where
  pub options_are : AreOptionsOf trial_options options
  pub start : HasNumber options (codes "start") 0 4294967295 settings.start
  pub dims : HasAxes options (codes "dims") settings.axes
  pub low : HasNumber options (codes "low") 0 255 settings.low
  pub merge : HasFraction options (codes "merge") settings.threshold
  pub chunk : HasSizes options (codes "chunk") settings.chunk
  pub workers : HasNumber options (codes "workers") 1 32 settings.workers

-- what words ask for
pub data Task : Type 0 where
  Basins : BasinsSettings → Task
  Segment : SegmentSettings → Task
  Make : MakeSettings → Task
  Trial : TrialSettings → Task
  Show : List ℕ → Task

-- the command word
abbrev pub command_of : Task → List ℕ
command_of (Basins settings) = codes "basins"
command_of (Segment settings) = codes "segment"
command_of (Make settings) = codes "make"
command_of (Trial settings) = codes "trial"
command_of (Show tree) = codes "show"

-- the names of its options
abbrev pub options_of : Task → List (List ℕ)
options_of (Basins settings) = basins_options
options_of (Segment settings) = segment_options
options_of (Make settings) = make_options
options_of (Trial settings) = trial_options
options_of (Show tree) = show_options

-- what follows it
abbrev pub Gives : List Given → Task → Type 0
Gives options (Basins settings) = GivesBasins options settings
Gives options (Segment settings) = GivesSegment options settings
Gives options (Make settings) = GivesMake options settings
Gives options (Trial settings) = GivesTrial options settings
Gives options (Show tree) = GivesShow options tree

-- The words are settings, and ask for this: the command word, and then its options one after another.
pub record Spells (words : List (List ℕ)) (task : Task) : Type 0 where
  pub options : List Given
  pub words_are : words ≡ command_of task ∷ flat_map given_words options
  pub gives : Gives options task

-- the words are no settings of any command
abbrev pub AreNoSettings : List (List ℕ) → Type 0
AreNoSettings words = (task : Task) → ¬ (Spells words task)

-- a word that says at once that the words are no settings: `--`, or `--name=` with nothing after it
pub data IsBare (word : List ℕ) : Type 0 where
  Dashes : word ≡ codes "--" → IsBare word
  NoValue : (name : List ℕ) → IsWithout 61 name → word ≡ codes "--" ++ name ++ codes "=" → IsBare word

-- the words may be settings: the first is that of a command, and none of the others is bare
pub record MayBeSettings (words : List (List ℕ)) : Type 0 where
  pub command : List ℕ
  pub others : List (List ℕ)
  pub words_are : words ≡ command ∷ others
  pub known : Contains commands command
  pub none_bare : All (λ word. ¬ (IsBare word)) others

-- words spell one task at most
abbrev pub OneTask : Type 0
OneTask = (words : List (List ℕ)) (a b : Task) → Spells words a → Spells words b → a ≡ b

-- none of three sizes is 0
pub record AreSomeSizes (sizes : List ℕ) : Type 0 where
  pub x : 0 < slice_index sizes 0
  pub y : 0 < slice_index sizes 1
  pub z : 0 < slice_index sizes 2

-- the sizes of leaves that words spell are not 0
pub record SizesAreSome : Type 0 where
  pub of_segment : (words : List (List ℕ)) (settings : SegmentSettings) → Spells words (Segment settings) → AreSomeSizes settings.chunk
  pub of_trial : (words : List (List ℕ)) (settings : TrialSettings) → Spells words (Trial settings) → AreSomeSizes settings.chunk
