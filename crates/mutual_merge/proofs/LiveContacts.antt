-- The contacts of links are those of the links that are live.
use Rattle.std.proofs.Common.{◌≡◌, ◌≢◌, ◌⊎◌, inl, inr, ℕ, false, List, [], ◌∷◌, refl, sym, ap, ◌∙◌, arith}
use Rattle.std.specs.Prelude.{Contains}
use Rattle.std.proofs.lemmas.Bool.Decides.{nat_tests}
use Rattle.agglo_model.specs.PairOrder.{added}
use Rattle.agglo_model.specs.Contacts.{are}
use Rattle.agglo_model.specs.RegionGraph.{contact_in}
use Rattle.agglo_model.proofs.Members.{contains_head, contains_tail}
use Rattle.agglo_model.proofs.GraphContacts.{contact_in-append, contact_in-other}
use Rattle.mutual_merge.specs.declared.links.Link.{Link}
use Rattle.mutual_merge.specs.Linked.{edge_by, edges_by}
use Rattle.mutual_merge.specs.Merged.{SameContactsBy}
use Rattle.mutual_merge.specs.Slots.{IsLive}

-- two ways to name places that agree at the ends of live links
abbrev pub AgreeAtLive : (ℕ → ℕ) → (ℕ → ℕ) → List Link → Type 0
AgreeAtLive f g links = (l : Link) → Contains links l → IsLive l → (f l.a ≡ g l.a) × (f l.b ≡ g l.b)

is_live : (l : Link) → (l.a ≡ l.b) ⊎ IsLive l
is_live l = cases l.a l.b
  where
    cases : (a b : ℕ) → (a ≡ b) ⊎ (a ≢ b)
    cases a b = grind arith

gone_test : (p q x y : ℕ) → p ≡ q → x ≢ y → are p q x y ≡ false
gone_test p q x y same xy = grind (arith, nat_tests)

-- a link that is gone is no contact
gone_contact : (name : ℕ → ℕ) (l : Link) (past x y : ℕ) → l.a ≡ l.b → x ≢ y
    → contact_in past (edge_by name l ∷ []) x y ≡ contact_in past [] x y
gone_contact name l past x y same xy =
    contact_in-other past x y [] (edge_by name l) (gone_test (name l.a) (name l.b) x y (ap name same) xy)

one_contact : (f g : ℕ → ℕ) (l : Link) (past x y : ℕ) → x ≢ y → (IsLive l → (f l.a ≡ g l.a) × (f l.b ≡ g l.b))
    → (l.a ≡ l.b) ⊎ IsLive l → contact_in past (edge_by f l ∷ []) x y ≡ contact_in past (edge_by g l ∷ []) x y
one_contact f g l past x y xy agree (inl gone) = gone_contact f l past x y gone xy ∙ sym (gone_contact g l past x y gone xy)
one_contact f g l past x y xy agree (inr live) =
    let names = agree live in
    λ i. contact_in past (record { a = names.0 i; b = names.1 i; contact = l.contact } ∷ []) x y

pub live_contacts : (f g : ℕ → ℕ) (links : List Link) → AgreeAtLive f g links → SameContactsBy f links g links
live_contacts f g [] agree past x y xy = refl
live_contacts f g (l ∷ links) agree past x y xy =
    let first = one_contact f g l past x y xy (agree l (contains_head l links)) (is_live l) in
    let rest = live_contacts f g links (λ m inside live. agree m (contains_tail l m links inside) live) past x y xy in
    contact_in-append past x y (edge_by f l ∷ []) (edges_by f links)
    ∙ (λ i. added (first i) (rest i))
    ∙ sym (contact_in-append past x y (edge_by g l ∷ []) (edges_by g links))
