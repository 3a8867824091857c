-- The value of an option is one, so what is made of it is one.
use Rattle.std.proofs.Common.{◌≡◌, ◌≢◌, inl, inr, ℕ, ◌<◌, List, length, get_or, AllPairs, codes, Option, Some, None, MatchOption, sym, ap, ◌∙◌, subst}
use denote.Ref.{Bor}
use Rattle.std.proofs.lemmas.Bool.{cases_order}
use Rattle.std.proofs.lemmas.List.{get_or_default}
use Rattle.agglo_model.specs.Axes.{Axes}
use Rattle.agglo_model.specs.PairOrder.{Threshold}
use Rattle.command_words.specs.Words.{Given, AreOptionsOf, show_options, GivesShow, HasValue, HasName, HasNumber, HasFraction, HasSizes, HasAxes, IsName, IsNumber, IsFraction, AreSizes, SpellsAxes, digits_number}
use Rattle.command_words.specs.declared.options.OptionName.{OptionName}
use Rattle.command_words.specs.Slots.{spelled, slot_of, IsSlot, AreSlots}

-- two places of options with one name are one place
same_place : (given : List Given) (k j : ℕ) (o p : Given) → AllPairs (λ a b. a.name ≢ b.name) given → k < j → j < length given
    → get_or given k o ≡ o → get_or given j p ≡ p → o.name ≡ p.name → ⊥
same_place given k j o p once less lt is is' names =
    once k j o less lt (ap (λ (g : Given). g.name) is ∙ names
    ∙ sym (ap (λ (g : Given). g.name) (get_or_default given j o p lt ∙ is')))

by_order : (given : List Given) (k j : ℕ) (o p : Given) → AllPairs (λ a b. a.name ≢ b.name) given → k < length given → j < length given
    → get_or given k o ≡ o → get_or given j p ≡ p → o.name ≡ p.name → o ≡ p
by_order given k j o p once lt lt' is is' names = elim (cases_order k j) [
  | inl same ↦ sym is ∙ ap (λ i. get_or given i o) same ∙ get_or_default given j o p lt' ∙ is'
  | inr (inl less) ↦ absurd (same_place given k j o p once less lt' is is' names)
  | inr (inr more) ↦ absurd (same_place given j k p o once more lt is' is (sym names))
]

-- an option that is given once has one value
pub same_value : (given : List Given) → AllPairs (λ o p. o.name ≢ p.name) given → (name a b : List ℕ) → HasValue given name a → HasValue given name b → a ≡ b
same_value given once name a b (o, there, named, valued) (p, there', named', valued') =
    sym valued ∙ ap (λ (g : Given). g.value)
    (by_order given there.0 there'.0 o p once there.1 there'.1 there.2 there'.2 (named ∙ sym named')) ∙ valued'

-- one name of a file
pub same_name : (given : List Given) → AllPairs (λ o p. o.name ≢ p.name) given → (name a b : List ℕ) → HasName given name a → HasName given name b → a ≡ b
same_name given once name a b h g = same_value given once name a b h.given g.given

-- what a slot tells of its option
pub slot_some : (given : List Given) (n : OptionName) (values : List (Option (Bor (List ℕ)))) (value : Bor (List ℕ))
    → AreSlots given values → slot_of values n ≡ Some value → HasValue given (spelled n) value.now
slot_some given n values value slots is = subst (IsSlot given (spelled n)) is (slots.slots n)

-- the word of an option is that in its slot
pub slot_word : (given : List Given) (n : OptionName) (values : List (Option (Bor (List ℕ)))) (value : Bor (List ℕ)) (word : List ℕ)
    → AreSlots given values → slot_of values n ≡ Some value → HasValue given (spelled n) word → word ≡ value.now
slot_word given n values value word slots is has =
    same_value given slots.once (spelled n) word value.now has (slot_some given n values value slots is)

-- ---- what is made of a word

pub no_name : (given : List Given) (n : OptionName) (values : List (Option (Bor (List ℕ)))) (value : Bor (List ℕ)) (file : List ℕ)
    → AreSlots given values → slot_of values n ≡ Some value → ¬ (IsName value.now) → ¬ (HasName given (spelled n) file)
no_name given n values value file slots is bad has =
    bad (subst IsName (slot_word given n values value file slots is has.given) has.is_name)

pub number_outcome : (r : Option ℕ) (given : List Given) (n : OptionName) (values : List (Option (Bor (List ℕ)))) (value : Bor (List ℕ)) (least most : ℕ)
    → AreSlots given values → slot_of values n ≡ Some value
    → MatchOption r (¬ (IsNumber least most value.now)) (λ k. IsNumber least most value.now × (k ≡ digits_number value.now))
    → MatchOption r ((k : ℕ) → ¬ (HasNumber given (spelled n) least most k)) (λ k. HasNumber given (spelled n) least most k)
number_outcome None given n values value least most slots is bad = λ k has.
    bad (subst (IsNumber least most) (slot_word given n values value has.word slots is has.given) has.number)
number_outcome (Some k) given n values value least most slots is (number, k_is) = record {
  word = value.now;
  given = slot_some given n values value slots is;
  number = number;
  value = sym k_is;
}

pub fraction_outcome : (r : Option Threshold) (given : List Given) (n : OptionName) (values : List (Option (Bor (List ℕ)))) (value : Bor (List ℕ))
    → AreSlots given values → slot_of values n ≡ Some value
    → MatchOption r ((t : Threshold) → ¬ (IsFraction value.now t)) (λ t. IsFraction value.now t)
    → MatchOption r ((t : Threshold) → ¬ (HasFraction given (spelled n) t)) (λ t. HasFraction given (spelled n) t)
fraction_outcome None given n values value slots is bad = λ t has.
    bad t (subst (λ w. IsFraction w t) (slot_word given n values value has.word slots is has.given) has.fraction)
fraction_outcome (Some t) given n values value slots is good = record {
  word = value.now;
  given = slot_some given n values value slots is;
  fraction = good;
}

pub sizes_outcome : (r : Option (List ℕ)) (given : List Given) (n : OptionName) (values : List (Option (Bor (List ℕ)))) (value : Bor (List ℕ))
    → AreSlots given values → slot_of values n ≡ Some value
    → MatchOption r ((sizes : List ℕ) → ¬ (AreSizes value.now sizes)) (λ sizes. AreSizes value.now sizes)
    → MatchOption r ((sizes : List ℕ) → ¬ (HasSizes given (spelled n) sizes)) (λ sizes. HasSizes given (spelled n) sizes)
sizes_outcome None given n values value slots is bad = λ sizes has.
    bad sizes (subst (λ w. AreSizes w sizes) (slot_word given n values value has.word slots is has.given) has.sizes_are)
sizes_outcome (Some sizes) given n values value slots is good = record {
  word = value.now;
  given = slot_some given n values value slots is;
  sizes_are = good;
}

pub axes_outcome : (r : Option Axes) (given : List Given) (n : OptionName) (values : List (Option (Bor (List ℕ)))) (value : Bor (List ℕ))
    → AreSlots given values → slot_of values n ≡ Some value
    → MatchOption r ((axes : Axes) → ¬ (SpellsAxes value.now axes)) (λ axes. SpellsAxes value.now axes)
    → MatchOption r ((axes : Axes) → ¬ (HasAxes given (spelled n) axes)) (λ axes. HasAxes given (spelled n) axes)
axes_outcome None given n values value slots is bad = λ axes has.
    bad axes (subst (λ w. SpellsAxes w axes) (slot_word given n values value has.word slots is has.given) has.axes_are)
axes_outcome (Some axes) given n values value slots is good = record {
  word = value.now;
  given = slot_some given n values value slots is;
  axes_are = good;
}

pub show_outcome : (r : Option (Bor (List ℕ))) (given : List Given) → AreOptionsOf show_options given
    → MatchOption r ((file : List ℕ) → ¬ (HasName given (codes "tree") file)) (λ file. HasName given (codes "tree") file.now)
    → MatchOption r ((tree : List ℕ) → ¬ (GivesShow given tree)) (λ tree. GivesShow given tree.now)
show_outcome None given are bad = λ tree gives. bad tree gives.tree_name
show_outcome (Some tree) given are has = record { options_are = are; tree_name = has }
