-- Two reciprocal pairs: they share no name, and neither merge disturbs the other.
use Rattle.std.proofs.Common.{◌≡◌, ◌≢◌, ◌⊎◌, inl, inr, ℕ, ◌+◌, ◌<◌, Bool, false, ◌&&◌, List, [], ◌∷◌, refl, sym, ◌∙◌, subst, arith}
use Rattle.std.proofs.lemmas.Bool.Decides.{nat_tests}
use Rattle.std.proofs.lemmas.Bool.{false≢true}
use Rattle.agglo_model.specs.Axes.{is_edge}
use Rattle.agglo_model.specs.Grid.{Grid}
use Rattle.agglo_model.specs.PairOrder.{Contact, Threshold, Before, Reaches, added}
use Rattle.agglo_model.specs.Contacts.{differ, are, lower_label, higher_label, between, InContact, renamed}
use Rattle.agglo_model.specs.Greedy.{IsMutual}
use Rattle.agglo_model.specs.MergeLaws.{IsDiamond}
use Rattle.agglo_model.specs.Work.{IsFirstPartner}
use Rattle.agglo_model.proofs.ContactEdges.{between-swap, InContact-swap, InContact-names, InContact-tie}
use Rattle.agglo_model.proofs.Means.{before_asym}
use Rattle.agglo_model.proofs.Renames.{new_name, joins-renamed, merges_contacts}
use Rattle.agglo_model.proofs.Reducible.{not_in_contact-left, not_in_contact-right}
use Rattle.agglo_model.proofs.Cases.{name_cases}

-- the two names of a reciprocal pair are each other's first partners
pub first_partner_of_a : {g : Grid} {t : Threshold} {labels : List ℕ} {a b : ℕ} → IsMutual g t labels a b
    → IsFirstPartner g labels a b
first_partner_of_a pair = record { touching = pair.touching; first = pair.first_of_a }

pub first_partner_of_b : {g : Grid} {t : Threshold} {labels : List ℕ} {a b : ℕ} → IsMutual g t labels a b
    → IsFirstPartner g labels b a
first_partner_of_b {g} {t} {labels} {a} {b} pair = record {
  touching = InContact-swap g labels a b pair.touching;
  first = λ z other touching.
      subst (λ c. Before c (between g labels b z)) (between-swap g labels a b)
      (pair.first_of_b z other touching);
}

-- and where they are, their contact is that of a reciprocal pair if it reaches
pub mutual_from_partners : {g : Grid} {t : Threshold} {labels : List ℕ} {a b : ℕ} → a < b
    → IsFirstPartner g labels a b → IsFirstPartner g labels b a → Reaches t (between g labels a b) → IsMutual g t labels a b
mutual_from_partners {g} {t} {labels} {a} {b} ordered one other reaches = record {
  ordered = ordered;
  touching = one.touching;
  first_of_a = one.first;
  first_of_b = λ z apart touching.
      subst (λ c. Before c (between g labels b z)) (between-swap g labels b a) (other.first z apart touching);
  reaches = reaches;
}

-- a name has one first partner
pub one_first : {g : Grid} {labels : List ℕ} {x y z : ℕ} → IsFirstPartner g labels x y
    → IsFirstPartner g labels x z → y ≢ z → ⊥
one_first {g} {labels} {x} {y} {z} one other apart =
    before_asym (between g labels x y) (between g labels x z)
    (one.first z (λ same. apart (sym same)) other.touching)
    (other.first y apart one.touching)

-- two contacts that come after a third, added up, do too
before-added : (c d e : Contact) → Before c d → Before c e → Before c (added d e)
before-added c d e (inl one) (inl other) = inl (omega (arith, one, other))
before-added c d e (inl one) (inr (same, tie)) = inl (omega (arith, one, same))
before-added c d e (inr (same, tie)) (inl other) = inl (omega (arith, other, same))
before-added c d e (inr (same, tie)) (inr (same', tie')) =
    inr (omega (arith, same, same'), omega (arith, tie, tie'))

gone_of : (i : Bool) (x y a b c : ℕ) → a ≢ b
    → ((i && differ (new_name a b x) (new_name a b y)) && are (new_name a b x) (new_name a b y) c b) ≡ false
gone_of i x y a b c ab = grind (arith, nat_tests)

-- an absorbed name is in contact with none
pub InContact-absorbed : (g : Grid) (labels : List ℕ) (a b c : ℕ) → a ≢ b → b ≢ 0
    → ¬ (InContact g (renamed labels a b) c b)
InContact-absorbed g labels a b c ab pb touching =
    let e = (between g (renamed labels a b) c b).tie in
    false≢true (
    sym (gone_of (is_edge g.axes e) (lower_label g labels e) (higher_label g labels e) a b c ab)
    ∙ sym (joins-renamed g labels a b c b e pb)
    ∙ InContact-tie g (renamed labels a b) c b touching)

-- which of two contacts has edges, where they have some together
pub count_cases : (m n : ℕ) → 0 < m + n → ((0 < m) × (0 < n)) ⊎ ((0 < m) × (0 < n → ⊥)) ⊎ ((0 < m → ⊥) × (0 < n))
count_cases m n h = grind arith

-- what comes before the contacts of c with a and with b comes before the one that they merge into
before-merged : (g : Grid) (labels : List ℕ) (a b c : ℕ) (x : Contact) → a ≢ b → a ≢ 0 → b ≢ 0
    → c ≢ a → c ≢ b
    → (InContact g labels c a → Before x (between g labels c a))
    → (InContact g labels c b → Before x (between g labels c b))
    → InContact g (renamed labels a b) c a → Before x (between g (renamed labels a b) c a)
before-merged g labels a b c x ab pa pb ca cb first second touching =
    let p = between g labels a c in
    let q = between g labels b c in
    let sum : between g (renamed labels a b) c a ≡ added p q =
    between-swap g (renamed labels a b) c a ∙ (merges_contacts g labels a b ab pa pb).third c ca cb in
    let some : 0 < p.count + q.count = subst (λ z. 0 < z.count) sum touching in
    let at_p : InContact g labels a c → Before x p = λ t.
    subst (Before x) (between-swap g labels c a) (first (InContact-swap g labels a c t)) in
    let at_q : InContact g labels b c → Before x q = λ t.
    subst (Before x) (between-swap g labels c b) (second (InContact-swap g labels b c t)) in
    let goal : Before x (added p q) = elim (count_cases p.count q.count some) [
      | inl both ↦ before-added x p q (at_p both.0) (at_q both.1)
      | inr (inl left) ↦ subst (Before x) (sym (not_in_contact-right g labels a c b c left.1)) (at_p left.0)
      | inr (inr right) ↦ subst (Before x) (sym (not_in_contact-left g labels a c b c right.0)) (at_q right.1)
    ] in
    subst (Before x) (sym sum) goal

-- what comes before all contacts of c, but for one with d, still does after two other names merge
pub before-renamed : (g : Grid) (labels : List ℕ) (a b c d : ℕ) (x : Contact) → a ≢ b → a ≢ 0 → b ≢ 0
    → c ≢ a → c ≢ b → d ≢ a → d ≢ b
    → ((e : ℕ) → e ≢ d → InContact g labels c e → Before x (between g labels c e))
    → (e : ℕ) → e ≢ d → InContact g (renamed labels a b) c e
    → Before x (between g (renamed labels a b) c e)
before-renamed g labels a b c d x ab pa pb ca cb da db first e ed touching =
    let here : InContact g (renamed labels a b) c a → Before x (between g (renamed labels a b) c a) =
    before-merged g labels a b c x ab pa pb ca cb
    (first a (λ s. da (sym s))) (first b (λ s. db (sym s))) in
    elim (name_cases e a b) [
      | inl at_a ↦ subst (λ f. Before x (between g (renamed labels a b) c f)) (sym at_a)
          (here (subst (InContact g (renamed labels a b) c) at_a touching))
      | inr (inl at_b) ↦ absurd (InContact-absorbed g labels a b c ab pb
          (subst (InContact g (renamed labels a b) c) at_b touching))
      | inr (inr apart) ↦
          let same = (merges_contacts g labels a b ab pa pb).others c e ca cb apart.0 apart.1 in
          subst (Before x) (sym same) (first e ed (subst (λ z. 0 < z.count) same touching))
    ]

-- four different names: two renames give the same in either order
commute_of : (a b c d x : ℕ) → c ≢ b → d ≢ a → d ≢ b
    → new_name c d (new_name a b x) ≡ new_name a b (new_name c d x)
commute_of a b c d x cb da db = grind (arith, nat_tests)

renamed-swap : (labels : List ℕ) (a b c d : ℕ) → c ≢ b → d ≢ a → d ≢ b
    → renamed (renamed labels a b) c d ≡ renamed (renamed labels c d) a b
renamed-swap [] a b c d cb da db = refl
renamed-swap (x ∷ labels) a b c d cb da db =
    λ i. commute_of a b c d x cb da db i ∷ renamed-swap labels a b c d cb da db i

four : (a b c d : ℕ) → a < b → c < d → (c ≡ a → d ≢ b → ⊥) → (c ≡ b → d ≢ a → ⊥)
    → (d ≡ a → c ≢ b → ⊥) → (d ≡ b → c ≢ a → ⊥) → (c ≢ a) ⊎ (d ≢ b)
    → (c ≢ a) × (c ≢ b) × (d ≢ a) × (d ≢ b)
four a b c d ab cd ac bc ad bd (inl ca) =
    (ca, λ e. bc e (omega arith), λ e. ad e (omega arith), λ e. bd e ca)
four a b c d ab cd ac bc ad bd (inr db) =
    (λ e. ac e db, λ e. bc e (omega arith), λ e. ad e (omega arith), db)

-- two reciprocal pairs share no name
mutual_apart : (g : Grid) (t : Threshold) (labels : List ℕ) (a b c d : ℕ) → IsMutual g t labels a b
    → IsMutual g t labels c d → (c ≢ a) ⊎ (d ≢ b) → (c ≢ a) × (c ≢ b) × (d ≢ a) × (d ≢ b)
mutual_apart g t labels a b c d one other apart =
    let ac : c ≡ a → d ≢ b → ⊥ = λ same db. one_first {g = g} {labels = labels} {x = a} {y = b} {z = d}
    (first_partner_of_a one)
    (subst (λ z. IsFirstPartner g labels z d) same (first_partner_of_a other)) (λ s. db (sym s)) in
    let bc : c ≡ b → d ≢ a → ⊥ = λ same da. one_first {g = g} {labels = labels} {x = b} {y = a} {z = d}
    (first_partner_of_b one)
    (subst (λ z. IsFirstPartner g labels z d) same (first_partner_of_a other)) (λ s. da (sym s)) in
    let ad : d ≡ a → c ≢ b → ⊥ = λ same cb. one_first {g = g} {labels = labels} {x = a} {y = b} {z = c}
    (first_partner_of_a one)
    (subst (λ z. IsFirstPartner g labels z c) same (first_partner_of_b other)) (λ s. cb (sym s)) in
    let bd : d ≡ b → c ≢ a → ⊥ = λ same ca. one_first {g = g} {labels = labels} {x = b} {y = a} {z = c}
    (first_partner_of_b one)
    (subst (λ z. IsFirstPartner g labels z c) same (first_partner_of_b other)) (λ s. ca (sym s)) in
    four a b c d one.ordered other.ordered ac bc ad bd apart

-- the law of two reciprocal pairs
pub diamond : (g : Grid) (t : Threshold) (labels : List ℕ) (a b c d : ℕ) → IsMutual g t labels a b
    → IsMutual g t labels c d → (c ≢ a) ⊎ (d ≢ b) → IsDiamond g t labels a b c d
diamond g t labels a b c d one other different =
    let names = InContact-names g labels a b one.touching in
    let pa : a ≢ 0 = omega (arith, names) in
    let pb : b ≢ 0 = omega (arith, names) in
    let ab : a ≢ b = names.2 in
    let apart = mutual_apart g t labels a b c d one other different in
    let same = (merges_contacts g labels a b ab pa pb).others c d apart.0 apart.1 apart.2 apart.3 in
    let x = between g labels c d in
    record {
      apart = apart;
      still_mutual = record {
        ordered = other.ordered;
        touching = subst (λ z. 0 < z.count) (sym same) other.touching;
        first_of_a = λ e ed touching. subst (λ z. Before z (between g (renamed labels a b) c e)) (sym same)
            (before-renamed g labels a b c d x ab pa pb apart.0 apart.1 apart.2 apart.3 other.first_of_a e ed touching);
        first_of_b = λ e ec touching. subst (λ z. Before z (between g (renamed labels a b) d e)) (sym same)
            (before-renamed g labels a b d c x ab pa pb apart.2 apart.3 apart.0 apart.1 other.first_of_b e ec touching);
        reaches = subst (Reaches t) (sym same) other.reaches;
      };
      same_contact = same;
      either_order = renamed-swap labels a b c d apart.1 apart.2 apart.3;
    }
