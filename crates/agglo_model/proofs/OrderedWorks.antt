-- The work of a node in pair order: where a node has a reciprocal pair it has a first one, and each merge leaves
-- fewer contact edges. So from any labels there is such a work, and one alone.
use Rattle.std.proofs.Common.{◌≡◌, ◌⊎◌, inl, inr, ℕ, zero, suc, ◌<◌, Bool, true, false, ◌&&◌, List, [], ◌∷◌, length, refl, sym, ap, ◌∙◌, subst, arith}
use Rattle.std.proofs.lemmas.Bool.{and_parts, and_from, cases_eq, cases_lt, false≢true}
use Rattle.agglo_model.specs.Axes.{edge_count, is_edge}
use Rattle.agglo_model.specs.Grid.{Grid}
use Rattle.agglo_model.specs.PairOrder.{Threshold, Before}
use Rattle.agglo_model.specs.Contacts.{lower_label, higher_label, is_contact_edge, between}
use Rattle.agglo_model.specs.Greedy.{Merge, IsMutual, after_merge, after_merges}
use Rattle.agglo_model.specs.Cutting.{Chunking, node_count}
use Rattle.agglo_model.specs.Work.{IsFree, IsReciprocal, IsFirstNodeStep, IsOrderedWork, AreWorksFrom, IsFirstPartner}
use Rattle.agglo_model.specs.NodeLaws.{OrderedWorksExist, OneOrderedWork, WorksExist}
use Rattle.agglo_model.proofs.ContactEdges.{joins-edge, between-swap, InContact-tie, same_tie}
use Rattle.agglo_model.proofs.Means.{before_asym}
use Rattle.agglo_model.proofs.FirstPairs.{edge_of, names_are}
use Rattle.agglo_model.proofs.FirstEdges.{contact_at, NotAfter, first_below, tie_contact}
use Rattle.agglo_model.proofs.FirstExists.{not_same, reaches_cases}
use Rattle.agglo_model.proofs.FirstPartners.{first_partner_exists}
use Rattle.agglo_model.proofs.Diamonds.{first_partner_of_a, first_partner_of_b, mutual_from_partners, one_first}
use Rattle.agglo_model.proofs.PairRuns.{pair_cases, same_merge, different_swap}
use Rattle.agglo_model.proofs.GreedyRuns.{contact_edges, fewer_edges}
use Rattle.agglo_model.proofs.NodeRuns.{ordered_work_is_work}
use Rattle.agglo_model.proofs.NodeTests.{is_free, IsFree-by_test, is_free-from}

-- ---- two names are a reciprocal pair of a node, or they aren't

holds : (A : Type 0) → Dec A → Bool
holds A (yes it) = true
holds A (no none) = false

holds-true : (A : Type 0) (decided : Dec A) → holds A decided ≡ true → A
unfolding holds
holds-true A (yes it) pass = it
holds-true A (no none) pass = absurd (false≢true pass)

holds-from : (A : Type 0) (decided : Dec A) → A → holds A decided ≡ true
unfolding holds
holds-from A (yes it) now = refl
holds-from A (no none) now = absurd (none now)

first_partner_decided : (g : Grid) (labels : List ℕ) (x y : ℕ) → Dec (IsFirstPartner g labels x y)
first_partner_decided g labels x y = elim (first_partner_exists g labels x) [
  | inl alone ↦ no (λ first. alone y first.touching)
  | inr (z, best) ↦ elim (cases_eq z y) [
    | inl same ↦ yes (subst (IsFirstPartner g labels x) same best)
    | inr apart ↦ no (λ first. one_first best first apart)
  ]
]

mutual_decided : (g : Grid) (t : Threshold) (labels : List ℕ) (a b : ℕ) → Dec (IsMutual g t labels a b)
mutual_decided g t labels a b = elim (cases_lt a b) [
  | inr late ↦ no (λ pair. omega (arith, late, pair.ordered))
  | inl ordered ↦ elim (first_partner_decided g labels a b) [
    | no none ↦ no (λ pair. none (first_partner_of_a pair))
    | yes one ↦ elim (first_partner_decided g labels b a) [
      | no none ↦ no (λ pair. none (first_partner_of_b pair))
      | yes other ↦ elim (reaches_cases t (between g labels a b)) [
        | inr low ↦ no (λ pair. low pair.reaches)
        | inl high ↦ yes (mutual_from_partners ordered one other high)
      ]
    ]
  ]
]

free_decided : (c : Chunking) (m : ℕ) (labels : List ℕ) (x : ℕ) → Dec (IsFree c m labels x)
free_decided c m labels x = by_test (is_free c m labels x) refl
  where
    by_test : (b : Bool) → is_free c m labels x ≡ b → Dec (IsFree c m labels x)
    by_test true is = yes (IsFree-by_test c m labels x is)
    by_test false is = no (λ free. false≢true (sym is ∙ is_free-from c m labels x free))

reciprocal_decided : (g : Grid) (t : Threshold) (c : Chunking) (m : ℕ) (labels : List ℕ) (a b : ℕ)
    → Dec (IsReciprocal g t c m labels a b)
reciprocal_decided g t c m labels a b = elim (mutual_decided g t labels a b) [
  | no none ↦ no (λ both. none both.pair)
  | yes pair ↦ elim (free_decided c m labels a) [
    | no frozen ↦ no (λ both. frozen both.a_free)
    | yes a_free ↦ elim (free_decided c m labels b) [
      | no frozen ↦ no (λ both. frozen both.b_free)
      | yes b_free ↦ yes (record { pair = pair; a_free = a_free; b_free = b_free })
    ]
  ]
]

-- ---- the first reciprocal pair

-- the merge of two names, with their contact
abbrev merge_at : Grid → List ℕ → ℕ → ℕ → Merge
merge_at g labels a b = record { survivor = a; absorbed = b; contact = between g labels a b }

either_decided : (A B : Type 0) → Dec A → Dec B → Dec (A ⊎ B)
either_decided A B (yes it) other = yes (inl it)
either_decided A B (no none) (yes it) = yes (inr it)
either_decided A B (no none) (no neither) = no (λ it. elim it [ inl a ↦ none a | inr b ↦ neither b ])

module _ (g : Grid) (t : Threshold) (c : Chunking) (m : ℕ) (labels : List ℕ) where
  -- the labels at the ends of an edge are a reciprocal pair, the smaller name at one end or at the other
  abbrev JoinsPair : ℕ → Type 0
  JoinsPair e = IsReciprocal g t c m labels (lower_label g labels e) (higher_label g labels e)
      ⊎ IsReciprocal g t c m labels (higher_label g labels e) (lower_label g labels e)

  joins_decided : (e : ℕ) → Dec (JoinsPair e)
  joins_decided e =
      let x = lower_label g labels e in
      let y = higher_label g labels e in
      either_decided (IsReciprocal g t c m labels x y) (IsReciprocal g t c m labels y x)
      (reciprocal_decided g t c m labels x y) (reciprocal_decided g t c m labels y x)

  -- a contact edge of a reciprocal pair
  abbrev is_edge_of_pair : ℕ → Bool
  is_edge_of_pair e = is_contact_edge g labels e && holds (JoinsPair e) (joins_decided e)

  joins_pair : (a b e : ℕ) → IsReciprocal g t c m labels a b
      → ((lower_label g labels e ≡ a) × (higher_label g labels e ≡ b))
      ⊎ ((lower_label g labels e ≡ b) × (higher_label g labels e ≡ a)) → JoinsPair e
  joins_pair a b e pair (inl (p, q)) = inl (subst (λ x. IsReciprocal g t c m labels x (higher_label g labels e)) (sym p)
      (subst (IsReciprocal g t c m labels a) (sym q) pair))
  joins_pair a b e pair (inr (p, q)) = inr (subst (λ x. IsReciprocal g t c m labels x (lower_label g labels e)) (sym q)
      (subst (IsReciprocal g t c m labels a) (sym p) pair))

  -- the tie of a reciprocal pair passes
  tie_passes : (a b : ℕ) → IsReciprocal g t c m labels a b → is_edge_of_pair (between g labels a b).tie ≡ true
  tie_passes a b pair =
      let e = (between g labels a b).tie in
      let joined = InContact-tie g labels a b pair.pair.touching in
      let i = is_edge g.axes e in
      let x = lower_label g labels e in
      let y = higher_label g labels e in
      and_from (is_contact_edge g labels e) _ (edge_of i x y a b joined)
      (holds-from (JoinsPair e) (joins_decided e) (joins_pair a b e pair (names_are i x y a b joined)))

  -- a reciprocal pair whose contact is the first of all such edges is the first of the node
  first_from_edge : (a b : ℕ) → IsReciprocal g t c m labels a b
      → ((f : ℕ) → f < edge_count g.axes → is_edge_of_pair f ≡ true
      → NotAfter (between g labels a b) (contact_at g labels f))
      → IsFirstNodeStep g t c m labels (merge_at g labels a b)
  first_from_edge a b pair first = record {
    step_is = record { reciprocal = pair; contact_is = refl };
    first = λ d h other apart.
        let f = (between g labels d h).tie in
        let touching = other.pair.touching in
        let late : NotAfter (between g labels a b) (between g labels d h) =
        subst (NotAfter (between g labels a b)) (tie_contact g labels d h touching)
        (first f (joins-edge g labels d h f (InContact-tie g labels d h touching)) (tie_passes d h other)) in
        elim late [
          | inl same ↦ absurd (not_same a b d h
              (same_tie g labels a b d h pair.pair.touching touching (ap (λ z. z.tie) same))
              pair.pair.ordered other.pair.ordered apart)
          | inr before ↦ before
        ];
  }

  -- either the node has no reciprocal pair, or it has a first one
  end_or_first : ((a b : ℕ) → ¬ (IsReciprocal g t c m labels a b))
      ⊎ ((a : ℕ) × (b : ℕ) × IsFirstNodeStep g t c m labels (merge_at g labels a b))
  end_or_first =
      elim (first_below g labels is_edge_of_pair (λ e pass. (and_parts (is_contact_edge g labels e) _ pass).0) (edge_count g.axes)) [
        | inl none ↦ inl (λ a b pair.
            let f = (between g labels a b).tie in
            let joined = InContact-tie g labels a b pair.pair.touching in
            false≢true (sym (none f (joins-edge g labels a b f joined)) ∙ tie_passes a b pair))
        | inr (e, best) ↦ inr (by_end e best.first
            (holds-true (JoinsPair e) (joins_decided e) (and_parts (is_contact_edge g labels e) _ best.passes).1))
      ]
    where
      by_end : (e : ℕ) → ((f : ℕ) → f < edge_count g.axes → is_edge_of_pair f ≡ true
          → NotAfter (contact_at g labels e) (contact_at g labels f))
          → JoinsPair e → (a : ℕ) × (b : ℕ) × IsFirstNodeStep g t c m labels (merge_at g labels a b)
      by_end e first (inl pair) =
          let x = lower_label g labels e in
          let y = higher_label g labels e in
          (x, y, first_from_edge x y pair first)
      by_end e first (inr pair) =
          let x = lower_label g labels e in
          let y = higher_label g labels e in (
            y,
            x,
            first_from_edge y x pair
                (λ f below pass. subst (λ z. NotAfter z (contact_at g labels f)) (between-swap g labels x y) (first f below pass)),
          )

-- ---- the works

ordered_from : (n : ℕ) (g : Grid) (t : Threshold) (c : Chunking) (m : ℕ) (labels : List ℕ)
    → contact_edges g labels < n → (work : List Merge) × IsOrderedWork g t c m labels work
ordered_from zero g t c m labels few = absurd (omega arith)
ordered_from (suc n) g t c m labels few = elim (end_or_first g t c m labels) [
  | inl none ↦ ([], none)
  | inr (a, b, first) ↦
      let step = merge_at g labels a b in
      let fewer = fewer_edges g labels a b first.step_is.reciprocal.pair.touching in
      let rest = ordered_from n g t c m (after_merge labels step) (omega (arith, few, fewer)) in
      (step ∷ rest.0, (first, rest.1))
]

pub ordered_works_exist : OrderedWorksExist
ordered_works_exist g t c m labels = ordered_from (suc (contact_edges g labels)) g t c m labels (omega arith)

-- two first merges of a node are one
first_is_one : (g : Grid) (t : Threshold) (c : Chunking) (m : ℕ) (labels : List ℕ) (step other : Merge)
    → IsFirstNodeStep g t c m labels step → IsFirstNodeStep g t c m labels other → step ≡ other
first_is_one g t c m labels s n one two = elim (pair_cases s.survivor s.absorbed n.survivor n.absorbed) [
  | inl (p, q) ↦ same_merge s n p q
      (one.step_is.contact_is ∙ ((λ i. between g labels (p i) (q i)) ∙ sym two.step_is.contact_is))
  | inr apart ↦
      let before : Before s.contact n.contact = subst (Before s.contact) (sym two.step_is.contact_is)
      (one.first n.survivor n.absorbed two.step_is.reciprocal apart) in
      let after : Before n.contact s.contact = subst (Before n.contact) (sym one.step_is.contact_is)
      (two.first s.survivor s.absorbed one.step_is.reciprocal
      (different_swap s.survivor s.absorbed n.survivor n.absorbed apart)) in
      absurd (before_asym s.contact n.contact before after)
]

pub one_ordered_work : OneOrderedWork
one_ordered_work g t c m labels [] [] one two = refl
one_ordered_work g t c m labels [] (n ∷ others) one two = absurd (one n.survivor n.absorbed two.0.step_is.reciprocal)
one_ordered_work g t c m labels (s ∷ work) [] one two = absurd (two s.survivor s.absorbed one.0.step_is.reciprocal)
one_ordered_work g t c m labels (s ∷ work) (n ∷ others) one two =
    let head = first_is_one g t c m labels s n one.0 two.0 in
    let tail = one_ordered_work g t c m (after_merge labels s) work others one.1
    (subst (λ x. IsOrderedWork g t c m (after_merge labels x) others) (sym head) two.1) in
    λ i. head i ∷ tail i

works_from : (n : ℕ) (g : Grid) (t : Threshold) (c : Chunking) (m : ℕ) (labels : List ℕ)
    → (works : List (List Merge)) × (length works ≡ n) × AreWorksFrom g t c m labels works
works_from zero g t c m labels = ([], refl, tt)
works_from (suc n) g t c m labels =
    let first = ordered_works_exist g t c m labels in
    let rest = works_from n g t c (suc m) (after_merges labels first.0) in
    (first.0 ∷ rest.0, ap suc rest.1, (ordered_work_is_work g t c m labels first.0 first.1, rest.2))

pub works_exist : WorksExist
works_exist g t c labels =
    let found = works_from (node_count c) g t c 0 labels in
    (found.0, record { one_each = found.1; worked = found.2 })
