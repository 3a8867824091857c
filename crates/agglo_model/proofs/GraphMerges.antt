-- The contacts of a graph's edges after one of two names has taken the other.
use Rattle.std.proofs.Common.{◌≡◌, ◌≢◌, ◌⊎◌, inl, inr, ℕ, false, ◌&&◌, ◌||◌, List, refl, sym, ◌∙◌, subst, arith}
use Rattle.std.specs.Prelude.{map}
use Rattle.std.proofs.lemmas.Bool.Decides.{nat_tests}
use Rattle.agglo_model.specs.PairOrder.{added}
use Rattle.agglo_model.specs.Contacts.{are}
use Rattle.agglo_model.specs.Greedy.{Merge}
use Rattle.agglo_model.specs.RegionGraph.{GraphEdge, is_between, no_contact, contact_in}
use Rattle.agglo_model.specs.Settling.{edge_after}
use Rattle.agglo_model.proofs.GraphContacts.{joint, contact_in-is, joint-map, joint-agree, joint-or, joint-none}
use Rattle.agglo_model.proofs.Renames.{new_name}
use Rattle.agglo_model.proofs.Cases.{name_cases}

swap_of : (p q x y : ℕ) → are p q x y ≡ are p q y x
swap_of p q x y = grind (arith, nat_tests)

-- the order of the two names doesn't matter
pub contact_in-swap : (past x y : ℕ) (es : List GraphEdge) → contact_in past es x y ≡ contact_in past es y x
contact_in-swap past x y es =
    contact_in-is past x y es
    ∙ joint-agree past (is_between x y) (is_between y x) es (λ e inside. swap_of e.a e.b x y)
    ∙ sym (contact_in-is past y x es)

third_of : (p q s b y : ℕ) → s ≢ b → y ≢ s → y ≢ b
    → are (new_name s b p) (new_name s b q) s y ≡ (are p q s y || are p q b y)
third_of p q s b y sb ys yb = grind (arith, nat_tests)

apart_of : (p q s b y : ℕ) → s ≢ b → y ≢ s → y ≢ b → (are p q s y && are p q b y) ≡ false
apart_of p q s b y sb ys yb = grind (arith, nat_tests)

gone_of : (p q s b y : ℕ) → s ≢ b → are (new_name s b p) (new_name s b q) b y ≡ false
gone_of p q s b y sb = grind (arith, nat_tests)

others_of : (p q s b x y : ℕ) → x ≢ s → x ≢ b → y ≢ s → y ≢ b
    → are (new_name s b p) (new_name s b q) x y ≡ are p q x y
others_of p q s b x y xs xb ys yb = grind (arith, nat_tests)

-- the contact of two names after the merge, by the new names of the edges
contact_in-after : (past x y : ℕ) (m : Merge) (es : List GraphEdge)
    → contact_in past (map (edge_after m) es) x y ≡ joint past (λ e. is_between x y (edge_after m e)) es
contact_in-after past x y m es =
    contact_in-is past x y (map (edge_after m) es) ∙ joint-map past (is_between x y) (edge_after m) es (λ e. refl)

-- the survivor's contact with a third name is that of both
pub merged-third : (past : ℕ) (m : Merge) (es : List GraphEdge) (y : ℕ) → m.survivor ≢ m.absorbed
    → y ≢ m.survivor → y ≢ m.absorbed
    → contact_in past (map (edge_after m) es) m.survivor y
    ≡ added (contact_in past es m.survivor y) (contact_in past es m.absorbed y)
merged-third past m es y sb ys yb =
    let s = m.survivor in let b = m.absorbed in
    contact_in-after past s y m es
    ∙ joint-agree past (λ e. is_between s y (edge_after m e)) (λ e. is_between s y e || is_between b y e) es
    (λ e inside. third_of e.a e.b s b y sb ys yb)
    ∙ joint-or past (is_between s y) (is_between b y) es (λ e. apart_of e.a e.b s b y sb ys yb)
    ∙ (λ i. added (sym (contact_in-is past s y es) i) (sym (contact_in-is past b y es) i))

-- the absorbed name has no contact left
pub merged-gone : (past : ℕ) (m : Merge) (es : List GraphEdge) (y : ℕ) → m.survivor ≢ m.absorbed
    → contact_in past (map (edge_after m) es) m.absorbed y ≡ no_contact past
merged-gone past m es y sb =
    contact_in-after past m.absorbed y m es
    ∙ joint-none past (λ e. is_between m.absorbed y (edge_after m e)) es
    (λ e inside. gone_of e.a e.b m.survivor m.absorbed y sb)

-- the contact of two other names stays
pub merged-others : (past : ℕ) (m : Merge) (es : List GraphEdge) (x y : ℕ) → x ≢ m.survivor → x ≢ m.absorbed
    → y ≢ m.survivor → y ≢ m.absorbed → contact_in past (map (edge_after m) es) x y ≡ contact_in past es x y
merged-others past m es x y xs xb ys yb =
    contact_in-after past x y m es
    ∙ joint-agree past (λ e. is_between x y (edge_after m e)) (is_between x y) es
    (λ e inside. others_of e.a e.b m.survivor m.absorbed x y xs xb ys yb)
    ∙ sym (contact_in-is past x y es)

-- two lists of edges with the same contacts
abbrev pub SameContacts : List GraphEdge → List GraphEdge → Type 0
SameContacts es fs = (past x y : ℕ) → x ≢ y → contact_in past es x y ≡ contact_in past fs x y

-- they have the same contacts after a merge too
after_at_survivor : (past : ℕ) (m : Merge) (es fs : List GraphEdge) (y : ℕ) → m.survivor ≢ m.absorbed
    → SameContacts es fs → y ≢ m.survivor → y ≢ m.absorbed
    → contact_in past (map (edge_after m) es) m.survivor y ≡ contact_in past (map (edge_after m) fs) m.survivor y
after_at_survivor past m es fs y sb same ys yb =
    merged-third past m es y sb ys yb
    ∙ (λ i. added (same past m.survivor y (λ e. ys (sym e)) i) (same past m.absorbed y (λ e. yb (sym e)) i))
    ∙ sym (merged-third past m fs y sb ys yb)

after_at_absorbed : (past : ℕ) (m : Merge) (es fs : List GraphEdge) (y : ℕ) → m.survivor ≢ m.absorbed
    → contact_in past (map (edge_after m) es) m.absorbed y ≡ contact_in past (map (edge_after m) fs) m.absorbed y
after_at_absorbed past m es fs y sb = merged-gone past m es y sb ∙ sym (merged-gone past m fs y sb)

swapped : (past x y : ℕ) (es fs : List GraphEdge) → contact_in past es y x ≡ contact_in past fs y x
    → contact_in past es x y ≡ contact_in past fs x y
swapped past x y es fs same = contact_in-swap past x y es ∙ same ∙ contact_in-swap past y x fs

abbrev NameCases : ℕ → ℕ → ℕ → Type 0
NameCases x s b = (x ≡ s) ⊎ (x ≡ b) ⊎ ((x ≢ s) × (x ≢ b))

abbrev SameAfter : ℕ → Merge → List GraphEdge → List GraphEdge → ℕ → ℕ → Type 0
SameAfter past m es fs x y = contact_in past (map (edge_after m) es) x y ≡ contact_in past (map (edge_after m) fs) x y

turned : (past : ℕ) (m : Merge) (es fs : List GraphEdge) (x y : ℕ) → SameAfter past m es fs y x
    → SameAfter past m es fs x y
turned past m es fs x y same = swapped past x y (map (edge_after m) es) (map (edge_after m) fs) same

-- the survivor, and a name other than it
with_survivor : (past : ℕ) (m : Merge) (es fs : List GraphEdge) (y : ℕ) → m.survivor ≢ m.absorbed
    → SameContacts es fs → y ≢ m.survivor → NameCases y m.survivor m.absorbed → SameAfter past m es fs m.survivor y
with_survivor past m es fs y sb same ys (inl at_s) = absurd (ys at_s)
with_survivor past m es fs y sb same ys (inr (inl at_b)) =
    subst (SameAfter past m es fs m.survivor) (sym at_b)
    (turned past m es fs m.survivor m.absorbed (after_at_absorbed past m es fs m.survivor sb))
with_survivor past m es fs y sb same ys (inr (inr (ys', yb))) = after_at_survivor past m es fs y sb same ys yb

after_cases : (past : ℕ) (m : Merge) (es fs : List GraphEdge) (x y : ℕ) → m.survivor ≢ m.absorbed
    → SameContacts es fs → x ≢ y → NameCases x m.survivor m.absorbed → NameCases y m.survivor m.absorbed
    → SameAfter past m es fs x y
after_cases past m es fs x y sb same xy (inl at_s) other =
    subst (λ z. SameAfter past m es fs z y) (sym at_s)
    (with_survivor past m es fs y sb same (λ e. xy (at_s ∙ sym e)) other)
after_cases past m es fs x y sb same xy (inr (inl at_b)) other =
    subst (λ z. SameAfter past m es fs z y) (sym at_b) (after_at_absorbed past m es fs y sb)
after_cases past m es fs x y sb same xy (inr (inr (xs, xb))) (inl at_s) =
    turned past m es fs x y
    (subst (λ z. SameAfter past m es fs z x) (sym at_s) (after_at_survivor past m es fs x sb same xs xb))
after_cases past m es fs x y sb same xy (inr (inr (xs, xb))) (inr (inl at_b)) =
    turned past m es fs x y
    (subst (λ z. SameAfter past m es fs z x) (sym at_b) (after_at_absorbed past m es fs x sb))
after_cases past m es fs x y sb same xy (inr (inr (xs, xb))) (inr (inr (ys, yb))) =
    merged-others past m es x y xs xb ys yb ∙ same past x y xy ∙ sym (merged-others past m fs x y xs xb ys yb)

pub SameContacts-after : (m : Merge) (es fs : List GraphEdge) → m.survivor ≢ m.absorbed → SameContacts es fs
    → SameContacts (map (edge_after m) es) (map (edge_after m) fs)
SameContacts-after m es fs sb same past x y xy =
    after_cases past m es fs x y sb same xy (name_cases x m.survivor m.absorbed) (name_cases y m.survivor m.absorbed)
