-- Words spell one task at most.
use Rattle.std.proofs.Common.{◌≡◌, ℕ, List, ◌∷◌, refl, sym, ap, ◌∙◌, subst}
use Rattle.std.specs.List.{flat_map}
use Rattle.agglo_model.specs.Axes.{Axes}
use Rattle.agglo_model.specs.PairOrder.{Threshold}
use Rattle.command_words.specs.Words.{Given, given_words, HasValue, HasName, HasNumber, HasFraction, HasSizes, HasAxes, IsFraction, AreSizes, SpellsAxes, AreSomeSizes, SizesAreSome, digits_number, BasinsSettings, SegmentSettings, MakeSettings, TrialSettings, GivesBasins, GivesSegment, GivesMake, GivesTrial, Task, Basins, Segment, Make, Trial, Show, command_of, Gives, Spells}
use Rattle.command_words.proofs.Slots.{AreKnownOnce}
use Rattle.command_words.proofs.Cuts.{fraction_once, sizes_once, axes_once, same_first, same_rest}
use Rattle.command_words.proofs.GivenValues.{same_value}
use Rattle.command_words.proofs.OneReading.{SamePairs, one_reading, given_there}
use Rattle.command_words.proofs.WholeWords.{apart, gives_known}

-- two readings of the same options
record AreSame (given options : List Given) : Type 0 where
  pub pairs : SamePairs given options
  pub known : AreKnownOnce options

word_same : (given options : List Given) → AreSame given options → (name a b : List ℕ) → HasValue given name a → HasValue options name b → a ≡ b
word_same given options same name a b (o, there, named, valued) has =
    let on = given_there given options same.pairs o there in
    same_value options same.known.once name a b (on.0, on.1, on.2 ∙ named, on.3 ∙ valued) has

name_same : (given options : List Given) → AreSame given options → (name a b : List ℕ) → HasName given name a → HasName options name b → a ≡ b
name_same given options same name a b h k = word_same given options same name a b h.given k.given

number_same : (given options : List Given) → AreSame given options → (name : List ℕ) (least most n m : ℕ)
    → HasNumber given name least most n → HasNumber options name least most m → n ≡ m
number_same given options same name least most n m h k =
    sym h.value ∙ ap digits_number (word_same given options same name h.word k.word h.given k.given) ∙ k.value

fraction_same : (given options : List Given) → AreSame given options → (name : List ℕ) (t u : Threshold)
    → HasFraction given name t → HasFraction options name u → t ≡ u
fraction_same given options same name t u h k =
    fraction_once k.word t u
    (subst (λ (w : List ℕ). IsFraction w t) (word_same given options same name h.word k.word h.given k.given) h.fraction) k.fraction

sizes_same : (given options : List Given) → AreSame given options → (name a b : List ℕ)
    → HasSizes given name a → HasSizes options name b → a ≡ b
sizes_same given options same name a b h k =
    sizes_once k.word a b
    (subst (λ (w : List ℕ). AreSizes w a) (word_same given options same name h.word k.word h.given k.given) h.sizes_are) k.sizes_are

axes_same : (given options : List Given) → AreSame given options → (name : List ℕ) (a b : Axes)
    → HasAxes given name a → HasAxes options name b → a ≡ b
axes_same given options same name a b h k =
    axes_once k.word a b
    (subst (λ (w : List ℕ). SpellsAxes w a) (word_same given options same name h.word k.word h.given k.given) h.axes_are) k.axes_are

basins_same : (given options : List Given) → AreSame given options → (s t : BasinsSettings) → GivesBasins given s
    → GivesBasins options t → s ≡ t
basins_same given options same s t h k =
    let volume = name_same given options same _ s.volume t.volume h.volume k.volume in
    let labels = name_same given options same _ s.labels t.labels h.labels k.labels in
    let low = number_same given options same _ _ _ s.low t.low h.low k.low in
    λ i. record { volume = volume i; labels = labels i; low = low i }

segment_same : (given options : List Given) → AreSame given options → (s t : SegmentSettings) → GivesSegment given s
    → GivesSegment options t → s ≡ t
segment_same given options same s t h k =
    let volume = name_same given options same _ s.volume t.volume h.volume k.volume in
    let labels = name_same given options same _ s.labels t.labels h.labels k.labels in
    let tree = name_same given options same _ s.tree t.tree h.tree k.tree in
    let low = number_same given options same _ _ _ s.low t.low h.low k.low in
    let threshold = fraction_same given options same _ s.threshold t.threshold h.merge k.merge in
    let chunk = sizes_same given options same _ s.chunk t.chunk h.chunk k.chunk in
    let workers = number_same given options same _ _ _ s.workers t.workers h.workers k.workers in
    λ i. record {
      volume = volume i;
      labels = labels i;
      tree = tree i;
      low = low i;
      threshold = threshold i;
      chunk = chunk i;
      workers = workers i;
    }

make_same : (given options : List Given) → AreSame given options → (s t : MakeSettings) → GivesMake given s
    → GivesMake options t → s ≡ t
make_same given options same s t h k =
    let volume = name_same given options same _ s.volume t.volume h.volume k.volume in
    let start = number_same given options same _ _ _ s.start t.start h.start k.start in
    let axes = axes_same given options same _ s.axes t.axes h.dims k.dims in
    λ i. record { volume = volume i; start = start i; axes = axes i }

trial_same : (given options : List Given) → AreSame given options → (s t : TrialSettings) → GivesTrial given s
    → GivesTrial options t → s ≡ t
trial_same given options same s t h k =
    let start = number_same given options same _ _ _ s.start t.start h.start k.start in
    let axes = axes_same given options same _ s.axes t.axes h.dims k.dims in
    let low = number_same given options same _ _ _ s.low t.low h.low k.low in
    let threshold = fraction_same given options same _ s.threshold t.threshold h.merge k.merge in
    let chunk = sizes_same given options same _ s.chunk t.chunk h.chunk k.chunk in
    let workers = number_same given options same _ _ _ s.workers t.workers h.workers k.workers in
    λ i. record {
      start = start i;
      axes = axes i;
      low = low i;
      threshold = threshold i;
      chunk = chunk i;
      workers = workers i;
    }

tasks_same : (given options : List Given) → AreSame given options → (a b : Task) → command_of a ≡ command_of b
    → Gives given a → Gives options b → a ≡ b
tasks_same given options same (Basins s) (Basins t) e h k = ap Basins (basins_same given options same s t h k)
tasks_same given options same (Segment s) (Segment t) e h k = ap Segment (segment_same given options same s t h k)
tasks_same given options same (Make s) (Make t) e h k = ap Make (make_same given options same s t h k)
tasks_same given options same (Trial s) (Trial t) e h k = ap Trial (trial_same given options same s t h k)
tasks_same given options same (Show s) (Show t) e h k = ap Show (name_same given options same _ s t h.tree_name k.tree_name)
tasks_same given options same a b e h k = absurd (apart (command_of a) (command_of b) refl e)

pub one_task : (words : List (List ℕ)) (a b : Task) → Spells words a → Spells words b → a ≡ b
one_task words a b s t =
    let both : command_of a ∷ flat_map given_words s.options ≡ command_of b ∷ flat_map given_words t.options =
    sym s.words_are ∙ t.words_are in
    let rests = same_rest (command_of a) (command_of b) (flat_map given_words s.options) (flat_map given_words t.options) both in
    let known = gives_known t.options b t.gives in
    let same : AreSame s.options t.options = record {
      pairs = one_reading s.options t.options (flat_map given_words s.options) refl rests (gives_known s.options a s.gives) known;
      known = known;
    } in
    tasks_same s.options t.options same a b
    (same_first (command_of a) (command_of b) (flat_map given_words s.options) (flat_map given_words t.options) both) s.gives t.gives

sizes_some : (word sizes : List ℕ) → AreSizes word sizes → AreSomeSizes sizes
sizes_some word sizes a = subst AreSomeSizes (sym a.sizes_are)
    (record { x = a.x_number.high_enough; y = a.y_number.high_enough; z = a.z_number.high_enough })

pub sizes_are_some : SizesAreSome
sizes_are_some = record {
  of_segment = λ words settings s. sizes_some s.gives.chunk.word settings.chunk s.gives.chunk.sizes_are;
  of_trial = λ words settings s. sizes_some s.gives.chunk.word settings.chunk s.gives.chunk.sizes_are;
}
