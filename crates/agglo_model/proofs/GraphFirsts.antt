-- A contact that no edge at a region comes before stays one after a merge of two other regions.
use Rattle.std.proofs.Common.{◌≡◌, ◌≢◌, ◌⊎◌, inl, inr, ℕ, ◌+◌, ◌*◌, ◌<◌, ◌≤◌, Bool, true, false, List, refl, sym, ap, sum_by, ◌∙◌, subst, eq-zero-or-pos, arith}
use Rattle.std.specs.Prelude.{map, Contains}
use Rattle.std.proofs.lemmas.List.Sums.{get_or-le-sum_by}
use Rattle.agglo_model.specs.PairOrder.{Contact, Threshold, Before, added}
use Rattle.agglo_model.specs.Greedy.{Merge}
use Rattle.agglo_model.specs.RegionGraph.{GraphEdge, RegionGraph, IsGraph, is_between, no_contact, contact_in}
use Rattle.agglo_model.specs.Settling.{IsAt, IsFreeIn, IsReciprocalEdge, IsGraphAfter, edge_after}
use Rattle.agglo_model.proofs.GraphContacts.{contact_in-is, joint-none, joint-count, joint-tie-le, added-none, none-added}
use Rattle.agglo_model.proofs.GraphMerges.{contact_in-swap, merged-third, merged-gone, merged-others}
use Rattle.agglo_model.proofs.GraphEdges.{edge_contact, edge_contact-low, edge_of_contact, edge_there}
use Rattle.agglo_model.proofs.Cases.{apart_cases, name_cases}

-- no edge at x comes before the contact c
abbrev pub IsFirstAt : RegionGraph → ℕ → Contact → Type 0
IsFirstAt graph x c = (f : GraphEdge) → Contains graph.edges f → IsAt x f → ¬ (Before f.contact c)

-- a number that no tie of a list of edges is above
abbrev pub past_ties : List GraphEdge → ℕ
past_ties es = sum_by (λ e. e.contact.tie) es

pub tie_below : (es : List GraphEdge) (e : GraphEdge) → Contains es e → e.contact.tie ≤ past_ties es
tie_below es e (k, below, same) =
    subst (λ z. z.contact.tie ≤ past_ties es) same (get_or-le-sum_by (λ z. z.contact.tie) es k e below)

-- what it is for a contact not to come before another
record IsNotBefore (c e : Contact) : Type 0 where
  mean : c.sum * e.count ≤ e.sum * c.count
  tie : c.sum * e.count ≡ e.sum * c.count → e.tie ≤ c.tie

not_before : (c e : Contact) → ¬ (Before c e) → IsNotBefore c e
not_before c e later =
    let mean : e.sum * c.count < c.sum * e.count → ⊥ = λ h. later (inl h) in
    record {
      mean = omega (arith, mean);
      tie = λ same. let tie : c.tie < e.tie → ⊥ = λ h. later (inr (same, h)) in omega (arith, tie);
    }

-- two contacts that don't come before a third, added up, don't either
pub not_before-added : (c d e : Contact) → ¬ (Before c e) → ¬ (Before d e) → ¬ (Before (added c d) e)
not_before-added c d e one other before = by_cases (not_before c e one) (not_before d e other) before
  where
    by_cases : IsNotBefore c e → IsNotBefore d e → Before (added c d) e → ⊥
    by_cases one other (inl less) = omega (arith, one.mean, other.mean, less)
    by_cases one other (inr (same, tie)) =
        let first = one.tie (omega (arith, one.mean, other.mean, same)) in
        let second = other.tie (omega (arith, one.mean, other.mean, same)) in
        omega (arith, first, second, tie)

-- where two names are not in contact, their contact is none
pub contact_in-none : (graph : RegionGraph) → IsGraph graph → (past x y : ℕ)
    → (contact_in past graph.edges x y).count ≡ 0 → contact_in past graph.edges x y ≡ no_contact past
contact_in-none graph is past x y zero =
    contact_in-is past x y graph.edges
    ∙ joint-none past (is_between x y) graph.edges (λ e inside. fails e inside (is_between x y e) refl)
  where
    fails : (e : GraphEdge) → Contains graph.edges e → (b : Bool) → is_between x y e ≡ b → is_between x y e ≡ false
    fails e inside true pass =
        let counts = joint-count past (is_between x y) graph.edges e inside pass in
        let none = ap (λ c. c.count) (contact_in-is past x y graph.edges) in
        let some = is.touching e inside in
        absurd (omega arith)
    fails e inside false fail = fail

at_first : (x y a b : ℕ) → (a ≡ x) × (b ≡ y) → (a ≡ x) ⊎ (b ≡ x)
at_first x y a b (p, q) = inl p

-- the contact of x with another name, where it has one, doesn't come before c
first_contact : (graph : RegionGraph) → IsGraph graph → (past x y : ℕ) (c : Contact) → past_ties graph.edges ≤ past
    → IsFirstAt graph x c → (x < y) ⊎ (y < x) → 0 < (contact_in past graph.edges x y).count
    → ¬ (Before (contact_in past graph.edges x y) c)
first_contact graph is past x y c low first (inl xy) some before =
    let found = edge_of_contact graph is past x y xy some in
    let e = found.0 in
    let tie = tie_below graph.edges e found.1 in
    let same : contact_in past graph.edges x y ≡ e.contact =
    (λ i. contact_in past graph.edges (sym found.2 i) (sym found.3 i))
    ∙ edge_contact-low graph is past e found.1 (omega arith) in
    first e found.1 (inl found.2) (subst (λ d. Before d c) same before)
first_contact graph is past x y c low first (inr yx) some before =
    let turn = contact_in-swap past x y graph.edges in
    let found = edge_of_contact graph is past y x yx (subst (λ d. 0 < d.count) turn some) in
    let e = found.0 in
    let tie = tie_below graph.edges e found.1 in
    let same : contact_in past graph.edges x y ≡ e.contact =
    turn ∙ (λ i. contact_in past graph.edges (sym found.2 i) (sym found.3 i))
    ∙ edge_contact-low graph is past e found.1 (omega arith) in
    first e found.1 (inr found.3) (subst (λ d. Before d c) same before)

-- the contacts of x with two other names, added up
first_both : (graph : RegionGraph) → IsGraph graph → (past x y z : ℕ) (c : Contact) → past_ties graph.edges ≤ past
    → IsFirstAt graph x c → x ≢ y → x ≢ z
    → 0 < (added (contact_in past graph.edges x y) (contact_in past graph.edges x z)).count
    → ¬ (Before (added (contact_in past graph.edges x y) (contact_in past graph.edges x z)) c)
first_both graph is past x y z c low first xy xz some before =
    by_cases (eq-zero-or-pos (contact_in past graph.edges x y).count) (eq-zero-or-pos (contact_in past graph.edges x z).count)
  where
    p : Contact
    p = contact_in past graph.edges x y

    q : Contact
    q = contact_in past graph.edges x z

    tie_p : (contact_in past graph.edges x y).tie ≤ past
    tie_p = subst (λ d. d.tie ≤ past) (sym (contact_in-is past x y graph.edges)) (joint-tie-le past (is_between x y) graph.edges)

    tie_q : (contact_in past graph.edges x z).tie ≤ past
    tie_q = subst (λ d. d.tie ≤ past) (sym (contact_in-is past x z graph.edges)) (joint-tie-le past (is_between x z) graph.edges)

    one : 0 < (contact_in past graph.edges x y).count → ¬ (Before (contact_in past graph.edges x y) c)
    one some = first_contact graph is past x y c low first (apart_cases x y xy) some

    other : 0 < (contact_in past graph.edges x z).count → ¬ (Before (contact_in past graph.edges x z) c)
    other some = first_contact graph is past x z c low first (apart_cases x z xz) some

    by_cases : ((contact_in past graph.edges x y).count ≡ 0) ⊎ (0 < (contact_in past graph.edges x y).count)
        → ((contact_in past graph.edges x z).count ≡ 0) ⊎ (0 < (contact_in past graph.edges x z).count) → ⊥
    by_cases (inr some_p) (inr some_q) =
        not_before-added (contact_in past graph.edges x y) (contact_in past graph.edges x z) c (one some_p) (other some_q) before
    by_cases (inr some_p) (inl none_q) =
        one some_p (subst (λ d. Before d c)
        (ap (added (contact_in past graph.edges x y)) (contact_in-none graph is past x z none_q)
        ∙ added-none past (contact_in past graph.edges x y) tie_p) before)
    by_cases (inl none_p) (inr some_q) =
        other some_q (subst (λ d. Before d c)
        (ap (λ d. added d (contact_in past graph.edges x z)) (contact_in-none graph is past x y none_p)
        ∙ none-added past (contact_in past graph.edges x z) tie_q) before)
    by_cases (inl none_p) (inl none_q) = omega arith

-- what is known of a merge and the graph after it
pub record IsStep (graph : RegionGraph) (m : Merge) (after : RegionGraph) : Type 0 where
  pub is : IsGraph graph
  pub apart : m.survivor ≢ m.absorbed
  pub after_is : IsGraphAfter graph m after

-- the contact of a name that the merge leaves alone with any other, after the merge, is not before c
first_with : (graph : RegionGraph) (m : Merge) (after : RegionGraph) → IsStep graph m after
    → (past x y : ℕ) (c : Contact) → past_ties graph.edges ≤ past → IsFirstAt graph x c
    → x ≢ m.survivor → x ≢ m.absorbed → x ≢ y
    → (y ≡ m.survivor) ⊎ (y ≡ m.absorbed) ⊎ ((y ≢ m.survivor) × (y ≢ m.absorbed))
    → 0 < (contact_in past after.edges x y).count → ¬ (Before (contact_in past after.edges x y) c)
first_with graph m after step past x y c low first xs xb xy (inl at_s) some before =
    let same : contact_in past after.edges x y
    ≡ added (contact_in past graph.edges x m.survivor) (contact_in past graph.edges x m.absorbed) =
    step.after_is.contacts past x y xy
    ∙ contact_in-swap past x y (map (edge_after m) graph.edges)
    ∙ (λ i. contact_in past (map (edge_after m) graph.edges) (at_s i) x)
    ∙ merged-third past m graph.edges x step.apart xs xb
    ∙ (λ i. added (contact_in-swap past m.survivor x graph.edges i) (contact_in-swap past m.absorbed x graph.edges i)) in
    first_both graph step.is past x m.survivor m.absorbed c low first xs xb
    (subst (λ d. 0 < d.count) same some) (subst (λ d. Before d c) same before)
first_with graph m after step past x y c low first xs xb xy (inr (inl at_b)) some before =
    let same : contact_in past after.edges x y ≡ no_contact past =
    step.after_is.contacts past x y xy
    ∙ contact_in-swap past x y (map (edge_after m) graph.edges)
    ∙ (λ i. contact_in past (map (edge_after m) graph.edges) (at_b i) x)
    ∙ merged-gone past m graph.edges x step.apart in
    let none = ap (λ d. d.count) same in omega (arith, some, none)
first_with graph m after step past x y c low first xs xb xy (inr (inr (ys, yb))) some before =
    let same : contact_in past after.edges x y ≡ contact_in past graph.edges x y =
    step.after_is.contacts past x y xy ∙ merged-others past m graph.edges x y xs xb ys yb in
    first_contact graph step.is past x y c low first (apart_cases x y xy)
    (subst (λ d. 0 < d.count) same some) (subst (λ d. Before d c) same before)

-- the contact of an edge after the merge, where `past` is above its tie
pub first_after : (graph : RegionGraph) (m : Merge) (after : RegionGraph) → IsStep graph m after → (x : ℕ) (c : Contact)
    → x ≢ m.survivor → x ≢ m.absorbed → IsFirstAt graph x c → IsFirstAt after x c
first_after graph m after step x c xs xb first f inside (inl at_a) before =
    let past = past_ties graph.edges + f.contact.tie in
    let is = step.after_is.graph_is in
    let ab = is.ordered f inside in
    let same : contact_in past after.edges x f.b ≡ f.contact =
    (λ i. contact_in past after.edges (sym at_a i) f.b) ∙ edge_contact-low after is past f inside (omega arith) in
    first_with graph m after step past x f.b c (omega arith) first xs xb (λ e. absurd (omega (arith, ab, at_a, e)))
    (name_cases f.b m.survivor m.absorbed)
    (subst (λ d. 0 < d.count) (sym same) (is.touching f inside)) (subst (λ d. Before d c) (sym same) before)
first_after graph m after step x c xs xb first f inside (inr at_b) before =
    let past = past_ties graph.edges + f.contact.tie in
    let is = step.after_is.graph_is in
    let ab = is.ordered f inside in
    let same : contact_in past after.edges x f.a ≡ f.contact =
    contact_in-swap past x f.a after.edges ∙ (λ i. contact_in past after.edges f.a (sym at_b i))
    ∙ edge_contact-low after is past f inside (omega arith) in
    first_with graph m after step past x f.a c (omega arith) first xs xb (λ e. absurd (omega (arith, ab, at_b, e)))
    (name_cases f.a m.survivor m.absorbed)
    (subst (λ d. 0 < d.count) (sym same) (is.touching f inside)) (subst (λ d. Before d c) (sym same) before)

-- a region of another name is free after the merge where it was before
pub free_after : (graph : RegionGraph) (m : Merge) (after : RegionGraph) → IsStep graph m after → (faces x : ℕ)
    → x ≢ m.survivor → IsFreeIn graph faces x → IsFreeIn after faces x
free_after graph m after step faces x xs free r inside name =
    free r ((step.after_is.others r (λ e. xs (sym name ∙ e))).0 inside).0 name

-- the names of an edge are none of the merge
pub record IsApart (m : Merge) (e : GraphEdge) : Type 0 where
  pub a_survivor : e.a ≢ m.survivor
  pub a_absorbed : e.a ≢ m.absorbed
  pub b_survivor : e.b ≢ m.survivor
  pub b_absorbed : e.b ≢ m.absorbed

-- a reciprocal edge stays reciprocal after a merge of two other regions
pub still_reciprocal : (t : Threshold) (faces : ℕ) (graph : RegionGraph) (m : Merge) (after : RegionGraph) (e : GraphEdge)
    → IsStep graph m after → IsApart m e → IsReciprocalEdge t faces graph e → IsReciprocalEdge t faces after e
still_reciprocal t faces graph m after e step apart pair =
    let ab = step.is.ordered e pair.there in
    let same = λ (past : ℕ). step.after_is.contacts past e.a e.b (λ z. absurd (omega (arith, ab, z)))
    ∙ merged-others past m graph.edges e.a e.b apart.a_survivor apart.a_absorbed apart.b_survivor apart.b_absorbed
    ∙ edge_contact graph step.is past e pair.there in
    record {
      there = edge_there after step.after_is.graph_is e ab (step.is.touching e pair.there) same;
      a_free = free_after graph m after step faces e.a apart.a_survivor pair.a_free;
      b_free = free_after graph m after step faces e.b apart.b_survivor pair.b_free;
      reaches = pair.reaches;
      first_of_a = first_after graph m after step e.a e.contact apart.a_survivor apart.a_absorbed pair.first_of_a;
      first_of_b = first_after graph m after step e.b e.contact apart.b_survivor apart.b_absorbed pair.first_of_b;
    }
