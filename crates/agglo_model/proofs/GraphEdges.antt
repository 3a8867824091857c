-- The edges of a region graph by their contacts: an edge is there exactly where its names are in contact.
use Rattle.std.proofs.Common.{◌≡◌, ◌⊎◌, inl, inr, ℕ, ◌+◌, ◌<◌, ◌≤◌, Bool, true, false, cond, List, [], ◌∷◌, sym, ap, ◌∙◌, subst, arith}
use Rattle.std.specs.Prelude.{Contains, AllPairs}
use Rattle.std.proofs.lemmas.Bool.Decides.{nat_tests}
use Rattle.agglo_model.specs.PairOrder.{Contact, added}
use Rattle.agglo_model.specs.Contacts.{are}
use Rattle.agglo_model.specs.RegionGraph.{GraphEdge, RegionGraph, IsGraph, StandsBefore, is_between, no_contact, contact_in}
use Rattle.agglo_model.proofs.Members.{contains_head, contains_tail, contains_cases, contains_none, all_pairs_head, all_pairs_tail}
use Rattle.agglo_model.proofs.GraphContacts.{joint, contact_in-is, joint-none, joint-some, added-none}
use Rattle.agglo_model.proofs.Cases.{ordered_names}

-- every edge has its smaller name first
abbrev pub HaveOrder : List GraphEdge → Type 0
HaveOrder es = (e : GraphEdge) → Contains es e → e.a < e.b

after_of : (a b p q : ℕ) → a < b → p < q → (a < p) ⊎ ((a ≡ p) × (b < q)) → are p q a b ≡ false
after_of a b p q ab pq before = grind (arith, nat_tests)

before_of : (a b p q : ℕ) → a < b → p < q → (p < a) ⊎ ((p ≡ a) × (q < b)) → are p q a b ≡ false
before_of a b p q ab pq before = grind (arith, nat_tests)

itself_of : (a b : ℕ) → are a b a b ≡ true
itself_of a b = grind (arith, nat_tests)

pub between_itself : (e : GraphEdge) → is_between e.a e.b e ≡ true
between_itself e = itself_of e.a e.b

one_step : (past : ℕ) (b : Bool) (e : GraphEdge) (rest : Contact) → b ≡ true → rest ≡ no_contact past
    → cond b (added e.contact rest) rest ≡ added e.contact (no_contact past)
one_step past true e rest pass none = ap (added e.contact) none
one_step past false e rest pass none = cc

skip_step : (b : Bool) (c : Contact) (rest whole : Contact) → b ≡ false → rest ≡ whole
    → cond b (added c rest) rest ≡ whole
skip_step true c rest whole fail same = cc
skip_step false c rest whole fail same = same

one_edge : (past : ℕ) (es : List GraphEdge) (e : GraphEdge) → AllPairs StandsBefore es → HaveOrder es → Contains es e
    → joint past (is_between e.a e.b) es ≡ added e.contact (no_contact past)
unfolding joint
one_edge past [] e ascend order inside = absurd (contains_none e inside)
one_edge past (f ∷ es) e ascend order inside = by_cases (contains_cases f e es inside)
    (one_edge past es e (all_pairs_tail StandsBefore f es ascend) (λ g later. order g (contains_tail f g es later)))
  where
    by_cases : (f ≡ e) ⊎ Contains es e → (Contains es e → joint past (is_between e.a e.b) es ≡ added e.contact (no_contact past))
        → cond (is_between e.a e.b f) (added f.contact (joint past (is_between e.a e.b) es)) (joint past (is_between e.a e.b) es)
        ≡ added e.contact (no_contact past)
    by_cases (inl same) rest =
        let first = order f (contains_head f es) in
        let none = joint-none past (is_between f.a f.b) es
        (λ g later. after_of f.a f.b g.a g.b first (order g (contains_tail f g es later)) (all_pairs_head StandsBefore f g es ascend later)) in
        subst (λ z. cond (is_between z.a z.b f) (added f.contact (joint past (is_between z.a z.b) es)) (joint past (is_between z.a z.b) es)
        ≡ added z.contact (no_contact past)) same
        (one_step past (is_between f.a f.b f) f (joint past (is_between f.a f.b) es) (between_itself f) none)
    by_cases (inr later) rest =
        skip_step (is_between e.a e.b f) f.contact (joint past (is_between e.a e.b) es) (added e.contact (no_contact past))
        (before_of e.a e.b f.a f.b (order e (contains_tail f e es later)) (order f (contains_head f es)) (all_pairs_head StandsBefore f e es ascend later))
        (rest later)

-- the contact of the names of an edge is that of the edge
pub edge_contact : (graph : RegionGraph) → IsGraph graph → (past : ℕ) (e : GraphEdge) → Contains graph.edges e
    → contact_in past graph.edges e.a e.b ≡ added e.contact (no_contact past)
edge_contact graph is past e inside =
    contact_in-is past e.a e.b graph.edges ∙ one_edge past graph.edges e is.edges_ascend is.ordered inside

pub edge_contact-low : (graph : RegionGraph) → IsGraph graph → (past : ℕ) (e : GraphEdge) → Contains graph.edges e
    → e.contact.tie ≤ past → contact_in past graph.edges e.a e.b ≡ e.contact
edge_contact-low graph is past e inside low =
    edge_contact graph is past e inside ∙ added-none past e.contact low

pub edge_counts : (graph : RegionGraph) → IsGraph graph → (past : ℕ) (e : GraphEdge) → Contains graph.edges e
    → 0 < (contact_in past graph.edges e.a e.b).count
edge_counts graph is past e inside =
    let same = ap (λ c. c.count) (edge_contact graph is past e inside) in
    let some = is.touching e inside in
    omega arith

pub names_of : (p q x y : ℕ) → are p q x y ≡ true → ((p ≡ x) × (q ≡ y)) ⊎ ((p ≡ y) × (q ≡ x))
names_of p q x y pass = grind (arith, nat_tests)

-- what an edge between two names has as its ends
pub between_names : (x y : ℕ) (e : GraphEdge) → is_between x y e ≡ true
    → ((e.a ≡ x) × (e.b ≡ y)) ⊎ ((e.a ≡ y) × (e.b ≡ x))
between_names x y e pass = names_of e.a e.b x y pass

-- where two names are in contact, there is an edge between them
pub edge_of_contact : (graph : RegionGraph) → IsGraph graph → (past x y : ℕ) → x < y
    → 0 < (contact_in past graph.edges x y).count
    → (e : GraphEdge) × Contains graph.edges e × (e.a ≡ x) × (e.b ≡ y)
edge_of_contact graph is past x y xy some =
    let found = joint-some past (is_between x y) graph.edges
    (subst (λ c. 0 < c.count) (contact_in-is past x y graph.edges) some) in
    let names = ordered_names x y found.0.a found.0.b xy (is.ordered found.0 found.1) (between_names x y found.0 found.2) in
    (found.0, found.1, names.0, names.1)

-- two contacts that can't be told apart by adding no contact are equal
pub contact_by_pasts : (c d : Contact) → ((past : ℕ) → added c (no_contact past) ≡ added d (no_contact past)) → c ≡ d
contact_by_pasts c d same =
    let past = c.tie + d.tie in
    sym (added-none past c (omega arith)) ∙ same past ∙ added-none past d (omega arith)

pub same_edges : (e f : GraphEdge) → e.a ≡ f.a → e.b ≡ f.b → e.contact ≡ f.contact → e ≡ f
same_edges e f a b contact = λ i. record { a = a i; b = b i; contact = contact i }

-- an edge between two names, by their contact
pub edge_there : (graph : RegionGraph) → IsGraph graph → (e : GraphEdge) → e.a < e.b → 0 < e.contact.count
    → ((past : ℕ) → contact_in past graph.edges e.a e.b ≡ added e.contact (no_contact past)) → Contains graph.edges e
edge_there graph is e ab some same =
    let counts = subst (λ c. 0 < c.count) (sym (same 0)) (omega arith) in
    let found = edge_of_contact graph is 0 e.a e.b ab counts in
    let f = found.0 in
    let equal = contact_by_pasts f.contact e.contact
    (λ past. sym (edge_contact graph is past f found.1)
    ∙ (λ i. contact_in past graph.edges (found.2 i) (found.3 i)) ∙ same past) in
    subst (Contains graph.edges) (same_edges f e found.2 found.3 equal) found.1
