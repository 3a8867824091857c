-- Values that options take are not empty, and do not begin with a dash.
use Rattle.std.proofs.Common.{◌≡◌, ◌≢◌, ℕ, zero, suc, List, [], ◌∷◌, ◌++◌, get_or, All, AllPairs, Contains, codes, refl, sym, subst, arith}
use Rattle.std.specs.Char.{IsAsciiDigit}
use Rattle.std.proofs.lemmas.List.{get_or_default}
use Rattle.agglo_model.specs.Axes.{Axes}
use Rattle.agglo_model.specs.PairOrder.{Threshold}
use Rattle.command_words.specs.Words.{Given, HasValue, HasName, HasNumber, HasFraction, HasSizes, HasAxes, IsName, IsNumber, IsFraction, AreSizes, Task, Basins, Segment, Make, Trial, Show, Gives, GivesSegment, SegmentSettings, AreOptionsOf, basins_options, segment_options, make_options, trial_options, show_options}
use Rattle.command_words.proofs.Cuts.{fraction_cut, sizes_first}
use Rattle.command_words.proofs.GivenValues.{same_value}

-- ---- words of each form

number_named : (least most : ℕ) (word : List ℕ) → IsNumber least most word → IsName word
number_named least most word n =
    let first : IsAsciiDigit (get_or word 0 0) = n.digits 0 0 n.some in
    record { some = n.some; no_option = λ e. omega (arith, first, e) }

front_named : (front rest : List ℕ) → IsName front → IsName (front ++ rest)
front_named [] rest n = absurd (let some = n.some in omega arith)
front_named (x ∷ front) rest n = record { some = omega arith; no_option = n.no_option }

fraction_named : (word : List ℕ) (t : Threshold) → IsFraction word t → IsName word
fraction_named word t f = subst IsName (sym (fraction_cut word t f)) (front_named f.above (47 ∷ f.below) (number_named 0 4294967295 f.above f.numerator))

sizes_named : (word sizes : List ℕ) → AreSizes word sizes → IsName word
sizes_named word sizes s = subst IsName (sym (sizes_first word sizes s)) (front_named s.x (44 ∷ (s.y ++ 44 ∷ s.z)) (number_named 1 65535 s.x s.x_number))

-- ---- options

abbrev Once : List Given → Type 0
Once given = AllPairs (λ o p. o.name ≢ p.name) given

valued : (given : List Given) (name value : List ℕ) → Once given → HasValue given name value → IsName value → (o : Given) → Contains given o
    → o.name ≡ name → IsName o.value
valued given name value once has good o there named = subst IsName (same_value given once name value o.value has (o, there, named, refl)) good

name_value : (given : List Given) (name file : List ℕ) → Once given → HasName given name file → (o : Given) → Contains given o → o.name ≡ name → IsName o.value
name_value given name file once h = valued given name file once h.given h.is_name

number_value : (given : List Given) (name : List ℕ) (least most n : ℕ) → Once given → HasNumber given name least most n → (o : Given) → Contains given o
    → o.name ≡ name → IsName o.value
number_value given name least most n once h = valued given name h.word once h.given (number_named least most h.word h.number)

fraction_value : (given : List Given) (name : List ℕ) (t : Threshold) → Once given → HasFraction given name t → (o : Given) → Contains given o
    → o.name ≡ name → IsName o.value
fraction_value given name t once h = valued given name h.word once h.given (fraction_named h.word t h.fraction)

sizes_value : (given : List Given) (name sizes : List ℕ) → Once given → HasSizes given name sizes → (o : Given) → Contains given o → o.name ≡ name → IsName o.value
sizes_value given name sizes once h = valued given name h.word once h.given (sizes_named h.word sizes h.sizes_are)

axes_value : (given : List Given) (name : List ℕ) (axes : Axes) → Once given → HasAxes given name axes → (o : Given) → Contains given o → o.name ≡ name → IsName o.value
axes_value given name axes once h = valued given name h.word once h.given (sizes_named h.word _ h.axes_are.sizes)

-- every option of this name has a value that is not empty, and begins with no dash
abbrev IsGood : List Given → List ℕ → Type 0
IsGood given name = (o : Given) → Contains given o → o.name ≡ name → IsName o.value

-- every option of these names has
AllGood : List Given → List (List ℕ) → Type 0
AllGood given [] = Unit {0}
AllGood given (name ∷ names) = IsGood given name × AllGood given names

good_at : (given : List Given) (names : List (List ℕ)) → AllGood given names → (name : List ℕ) → Contains names name → IsGood given name
unfolding AllGood
good_at given [] good name (k, lt, is) = absurd (omega arith)
good_at given (n ∷ names) good name (zero, lt, is) = subst (IsGood given) is good.0
good_at given (n ∷ names) good name (suc k, lt, is) = good_at given names good.1 name (k, omega arith, is)

all_named : (given : List Given) (names : List (List ℕ)) → AreOptionsOf names given → AllGood given names → All (λ o. IsName o.value) given
all_named given names are good k d lt =
    let o = get_or given k d in
    good_at given names good o.name (are.known k d lt) o (k, lt, get_or_default given k o d lt) refl

pub values_are_names : (given : List Given) (task : Task) → Gives given task → All (λ o. IsName o.value) given
unfolding AllGood
values_are_names given (Basins s) g =
    let once = g.options_are.once in
    all_named given basins_options g.options_are (
      name_value given (codes "volume") s.volume once g.volume,
      (name_value given (codes "labels") s.labels once g.labels, (number_value given (codes "low") 0 255 s.low once g.low, tt)),
    )
values_are_names given (Segment s) g =
    let once = g.options_are.once in
    all_named given segment_options g.options_are (
      name_value given (codes "volume") s.volume once g.volume,
      (
        name_value given (codes "labels") s.labels once g.labels,
        (
          name_value given (codes "tree") s.tree once g.tree,
          rest_of_segment given s g,
        ),
      ),
    )
  where
    rest_of_segment : (given : List Given) (s : SegmentSettings) → GivesSegment given s
        → AllGood given (codes "low" ∷ codes "merge" ∷ codes "chunk" ∷ codes "workers" ∷ [])
    rest_of_segment given s g =
        let once = g.options_are.once in (
          number_value given (codes "low") 0 255 s.low once g.low,
          (
            fraction_value given (codes "merge") s.threshold once g.merge,
            (sizes_value given (codes "chunk") s.chunk once g.chunk, (number_value given (codes "workers") 1 32 s.workers once g.workers, tt)),
          ),
        )
values_are_names given (Make s) g =
    let once = g.options_are.once in
    all_named given make_options g.options_are (
      name_value given (codes "volume") s.volume once g.volume,
      (number_value given (codes "start") 0 4294967295 s.start once g.start, (axes_value given (codes "dims") s.axes once g.dims, tt)),
    )
values_are_names given (Trial s) g =
    let once = g.options_are.once in
    all_named given trial_options g.options_are (
      number_value given (codes "start") 0 4294967295 s.start once g.start,
      (
        axes_value given (codes "dims") s.axes once g.dims,
        (
          number_value given (codes "low") 0 255 s.low once g.low,
          (
            fraction_value given (codes "merge") s.threshold once g.merge,
            (
              sizes_value given (codes "chunk") s.chunk once g.chunk,
              (number_value given (codes "workers") 1 32 s.workers once g.workers, tt),
            ),
          ),
        ),
      ),
    )
values_are_names given (Show tree) g =
    all_named given show_options g.options_are (name_value given (codes "tree") tree g.options_are.once g.tree_name, tt)
