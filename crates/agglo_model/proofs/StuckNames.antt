-- A name is stuck where none of its contacts reaches the threshold: it stays so, and no merge takes it.
use Rattle.std.proofs.Common.{◌≡◌, ◌≢◌, ◌⊎◌, inl, inr, ℕ, ◌+◌, ◌<◌, List, sym, ◌∙◌, subst, arith}
use Rattle.std.proofs.lemmas.Bool.{cases_eq}
use Rattle.agglo_model.specs.Grid.{Grid}
use Rattle.agglo_model.specs.PairOrder.{Contact, Threshold, Reaches, added}
use Rattle.agglo_model.specs.Contacts.{between, InContact, renamed}
use Rattle.agglo_model.specs.Greedy.{Merge}
use Rattle.agglo_model.specs.Cutting.{Chunking}
use Rattle.agglo_model.specs.Work.{IsFirstPartner, IsNodeStep, FirstPairReaches}
use Rattle.agglo_model.proofs.ContactEdges.{between-swap, InContact-swap, InContact-names}
use Rattle.agglo_model.proofs.Means.{before-reaches}
use Rattle.agglo_model.proofs.Renames.{merges_contacts}
use Rattle.agglo_model.proofs.Reducible.{not_in_contact-left, not_in_contact-right}
use Rattle.agglo_model.proofs.Diamonds.{InContact-absorbed, count_cases}
use Rattle.agglo_model.proofs.FirstPartners.{first_partner_exists}
use Rattle.agglo_model.proofs.Works.{StepsKeep}
use Rattle.agglo_model.proofs.Cases.{name_cases}

-- no contact of x reaches the threshold
abbrev pub IsStuck : Grid → Threshold → ℕ → List ℕ → Type 0
IsStuck g t x labels = (y : ℕ) → InContact g labels x y → ¬ (Reaches t (between g labels x y))

-- a name whose first pair doesn't reach is stuck
pub stuck_from_first : (g : Grid) (t : Threshold) (labels : List ℕ) (x : ℕ) → ¬ (FirstPairReaches g t labels x)
    → IsStuck g t x labels
stuck_from_first g t labels x low y touching reaches = elim (first_partner_exists g labels x) [
  | inl none ↦ none y touching
  | inr (z, first) ↦ low (z, first, by_partner z first (cases_eq y z))
]
  where
    by_partner : (z : ℕ) → IsFirstPartner g labels x z → (y ≡ z) ⊎ (y ≢ z) → Reaches t (between g labels x z)
    by_partner z first (inl same) = subst (λ w. Reaches t (between g labels x w)) same reaches
    by_partner z first (inr apart) = before-reaches t (between g labels x z) (between g labels x y) touching
        (first.first y apart touching) reaches

-- a stuck name is none of the two of a pair that reaches
pub stuck_apart : (g : Grid) (t : Threshold) (labels : List ℕ) (x a b : ℕ) → IsStuck g t x labels
    → InContact g labels a b → Reaches t (between g labels a b) → (a ≢ x) × (b ≢ x)
stuck_apart g t labels x a b stuck touching reaches = (
  (λ at_a. stuck b (subst (λ z. InContact g labels z b) at_a touching)
      (subst (λ z. Reaches t (between g labels z b)) at_a reaches)),
  (λ at_b. stuck a (InContact-swap g labels a x (subst (InContact g labels a) at_b touching))
      (subst (Reaches t) (between-swap g labels a x) (subst (λ z. Reaches t (between g labels a z)) at_b reaches))),
)

-- two contacts that don't reach, added up, don't reach
low_added : (t : Threshold) (c d : Contact) → ¬ (Reaches t c) → ¬ (Reaches t d) → ¬ (Reaches t (added c d))
low_added t c d one other both = omega (arith, one, other, both)

-- the contact of x with the survivor of a merge of two other names
low_merged : (g : Grid) (t : Threshold) (labels : List ℕ) (a b x : ℕ) → a ≢ b → a ≢ 0 → b ≢ 0 → x ≢ a → x ≢ b
    → IsStuck g t x labels → InContact g (renamed labels a b) x a → ¬ (Reaches t (between g (renamed labels a b) x a))
low_merged g t labels a b x ab pa pb xa xb stuck touching =
    let p = between g labels a x in
    let q = between g labels b x in
    let sum : between g (renamed labels a b) x a ≡ added p q =
    between-swap g (renamed labels a b) x a ∙ (merges_contacts g labels a b ab pa pb).third x xa xb in
    let some : 0 < p.count + q.count = subst (λ z. 0 < z.count) sum touching in
    let low_p : InContact g labels a x → ¬ (Reaches t p) = λ meets.
    subst (λ z. ¬ (Reaches t z)) (between-swap g labels x a) (stuck a (InContact-swap g labels a x meets)) in
    let low_q : InContact g labels b x → ¬ (Reaches t q) = λ meets.
    subst (λ z. ¬ (Reaches t z)) (between-swap g labels x b) (stuck b (InContact-swap g labels b x meets)) in
    let low : ¬ (Reaches t (added p q)) = elim (count_cases p.count q.count some) [
      | inl both ↦ low_added t p q (low_p both.0) (low_q both.1)
      | inr (inl left) ↦ subst (λ z. ¬ (Reaches t z)) (sym (not_in_contact-right g labels a x b x left.1)) (low_p left.0)
      | inr (inr right) ↦ subst (λ z. ¬ (Reaches t z)) (sym (not_in_contact-left g labels a x b x right.0)) (low_q right.1)
    ] in
    subst (λ z. ¬ (Reaches t z)) (sym sum) low

-- a stuck name stays stuck when two other names merge
pub stuck_after : (g : Grid) (t : Threshold) (labels : List ℕ) (a b x : ℕ) → a ≢ b → a ≢ 0 → b ≢ 0 → x ≢ a → x ≢ b
    → IsStuck g t x labels → IsStuck g t x (renamed labels a b)
stuck_after g t labels a b x ab pa pb xa xb stuck y touching = elim (name_cases y a b) [
  | inl at_a ↦ subst (λ z. ¬ (Reaches t (between g (renamed labels a b) x z))) (sym at_a)
      (low_merged g t labels a b x ab pa pb xa xb stuck (subst (InContact g (renamed labels a b) x) at_a touching))
  | inr (inl at_b) ↦ absurd (InContact-absorbed g labels a b x ab pb
      (subst (InContact g (renamed labels a b) x) at_b touching))
  | inr (inr apart) ↦
      let same = (merges_contacts g labels a b ab pa pb).others x y xa xb apart.0 apart.1 in
      subst (λ z. ¬ (Reaches t z)) (sym same) (stuck y (subst (λ z. 0 < z.count) same touching))
]

-- the merge of a reciprocal pair takes no stuck name
pub merge_apart : (g : Grid) (t : Threshold) (c : Chunking) (m x : ℕ) (labels : List ℕ) (step : Merge)
    → IsStuck g t x labels → IsNodeStep g t c m labels step → (step.survivor ≢ x) × (step.absorbed ≢ x)
merge_apart g t c m x labels step stuck here =
    stuck_apart g t labels x step.survivor step.absorbed stuck here.reciprocal.pair.touching here.reciprocal.pair.reaches

pub steps_keep_stuck : (g : Grid) (t : Threshold) (c : Chunking) (m x : ℕ) → StepsKeep (IsStuck g t x) g t c m
steps_keep_stuck g t c m x labels step connected here stuck =
    let apart = merge_apart g t c m x labels step stuck here in
    let names = InContact-names g labels step.survivor step.absorbed here.reciprocal.pair.touching in
    stuck_after g t labels step.survivor step.absorbed x names.2 (omega (arith, names)) (omega (arith, names))
    (λ same. apart.0 (sym same)) (λ same. apart.1 (sym same)) stuck
