-- Contacts and sums of lists of links by their indices.
use Rattle.std.proofs.Common.{◌≡◌, inl, inr, ℕ, zero, suc, ◌<◌, ◌≤◌, Bool, true, false, cond, List, [], ◌∷◌, length, refl, ap, ◌∙◌, arith}
use Rattle.std.specs.Prelude.{map, Contains, sum_by}
use Rattle.std.proofs.lemmas.List.{get_or_default}
use Rattle.std.proofs.lemmas.List.Elements.{Contains-get_or}
use Rattle.std.proofs.lemmas.List.Sums.{sum_by-cons}
use Rattle.agglo_model.specs.PairOrder.{Contact, Before, added}
use Rattle.agglo_model.specs.RegionGraph.{GraphEdge, no_contact}
use Rattle.agglo_model.proofs.Members.{contains_head, contains_tail, Contains-unmap}
use Rattle.agglo_model.proofs.GraphContacts.{joint, joint-none}
use Rattle.agglo_model.proofs.GraphFirsts.{not_before-added}
use Rattle.mutual_merge.specs.declared.links.Link.{Link}
use Rattle.mutual_merge.specs.Slots.{nth_link}

-- a link of a list, and its index
pub index_of : (links : List Link) (l : Link) → Contains links l → (j : ℕ) × (j < length links) × (nth_link links j ≡ l)
index_of links l (j, below, same) =
    (j, below, get_or_default links j (record { a = 0; b = 0; contact = record { sum = 0; count = 1; tie = 0 } }) l below ∙ same)

pub Contains-nth_link : (links : List Link) (j : ℕ) → j < length links → Contains links (nth_link links j)
Contains-nth_link links j below =
    Contains-get_or links j (record { a = 0; b = 0; contact = record { sum = 0; count = 1; tie = 0 } }) below

-- the only edge that passes a test makes its contact alone
only_step : (past : ℕ) (b : Bool) (c rest : Contact) → b ≡ true → rest ≡ no_contact past
    → cond b (added c rest) rest ≡ added c (no_contact past)
only_step past true c rest pass none = ap (added c) none
only_step past false c rest pass none = cc

skip_step : (b : Bool) (c rest whole : Contact) → b ≡ false → rest ≡ whole → cond b (added c rest) rest ≡ whole
skip_step true c rest whole fail same = cc
skip_step false c rest whole fail same = same

no_test : (b : Bool) → (b ≡ true → ⊥) → b ≡ false
no_test true other = absurd (other refl)
no_test false other = refl

-- the tests of links by the edges that they are
module _ (past : ℕ) (p : GraphEdge → Bool) (f : Link → GraphEdge) where
  none_at : (links : List Link) → ((j : ℕ) → j < length links → p (f (nth_link links j)) ≡ true → ⊥)
      → joint past p (map f links) ≡ no_contact past
  none_at links none = joint-none past p (map f links) (λ e inside.
      let found = Contains-unmap f links e inside in
      let at_j = index_of links found.0 found.1 in
      no_test (p e) (λ pass. none at_j.0 at_j.1 (ap (λ l. p (f l)) at_j.2 ∙ ap p found.2 ∙ pass)))

  pub joint-only : (links : List Link) (i : ℕ) → i < length links → p (f (nth_link links i)) ≡ true
      → ((j : ℕ) → j < length links → p (f (nth_link links j)) ≡ true → j ≡ i)
      → joint past p (map f links) ≡ added (f (nth_link links i)).contact (no_contact past)
  unfolding joint
  joint-only [] i below pass alone = absurd (omega arith)
  joint-only (l ∷ links) zero below pass alone =
      only_step past (p (f l)) (f l).contact (joint past p (map f links)) pass
      (none_at links (λ j low here. let same = alone (suc j) (omega arith) here in omega arith))
  joint-only (l ∷ links) (suc i) below pass alone =
      skip_step (p (f l)) (f l).contact (joint past p (map f links)) (added (f (nth_link links i)).contact (no_contact past))
      (no_test (p (f l)) (λ here. let same = alone 0 (omega arith) here in omega arith))
      (joint-only links i (omega arith) pass (λ j low here. let same = alone (suc j) (omega arith) here in omega arith))

-- lists of links that pass tests alike, with the same contacts
alike_step : (b b' : Bool) (c c' rest rest' : Contact) → b ≡ b' → c ≡ c' → rest ≡ rest'
    → cond b (added c rest) rest ≡ cond b' (added c' rest') rest'
alike_step b b' c c' rest rest' tests same rests = λ i. cond (tests i) (added (same i) (rests i)) (rests i)

pub joint-alike : (past : ℕ) (p q : GraphEdge → Bool) (f g : Link → GraphEdge) (ls ms : List Link) → length ls ≡ length ms
    → ((j : ℕ) → j < length ls → p (f (nth_link ls j)) ≡ q (g (nth_link ms j)))
    → ((j : ℕ) → j < length ls → (f (nth_link ls j)).contact ≡ (g (nth_link ms j)).contact)
    → joint past p (map f ls) ≡ joint past q (map g ms)
unfolding joint
joint-alike past p q f g [] [] len tests same = refl
joint-alike past p q f g [] (m ∷ ms) len tests same = absurd (omega arith)
joint-alike past p q f g (l ∷ ls) [] len tests same = absurd (omega arith)
joint-alike past p q f g (l ∷ ls) (m ∷ ms) len tests same =
    alike_step (p (f l)) (q (g m)) (f l).contact (g m).contact (joint past p (map f ls)) (joint past q (map g ms))
    (tests 0 (omega arith)) (same 0 (omega arith))
    (joint-alike past p q f g ls ms (omega arith) (λ j low. tests (suc j) (omega arith)) (λ j low. same (suc j) (omega arith)))

-- what edges make together comes before no contact that none of them comes before
none_before : (past : ℕ) (c : Contact) → c.tie ≤ past → ¬ (Before (no_contact past) c)
none_before past c low (inl less) = omega arith
none_before past c low (inr (same, less)) = omega arith

pub joint-not_before : (past : ℕ) (p : GraphEdge → Bool) (es : List GraphEdge) (c : Contact) → c.tie ≤ past
    → ((e : GraphEdge) → Contains es e → p e ≡ true → ¬ (Before e.contact c)) → ¬ (Before (joint past p es) c)
unfolding joint
joint-not_before past p [] c low each = none_before past c low
joint-not_before past p (e ∷ es) c low each =
    step (p e) (λ pass. each e (contains_head e es) pass)
    (joint-not_before past p es c low (λ f inside. each f (contains_tail e f es inside)))
  where
    step : (b : Bool) → (b ≡ true → ¬ (Before e.contact c)) → ¬ (Before (joint past p es) c)
        → ¬ (Before (cond b (added e.contact (joint past p es)) (joint past p es)) c)
    step true here rest = not_before-added e.contact (joint past p es) c (here refl) rest
    step false here rest = rest

-- lists of links of which each has no more than that of the other list
pub sums_below : (f : Link → ℕ) (ls ms : List Link) → length ls ≡ length ms
    → ((j : ℕ) → j < length ls → f (nth_link ls j) ≤ f (nth_link ms j)) → sum_by f ls ≤ sum_by f ms
sums_below f [] [] len each = omega arith
sums_below f [] (m ∷ ms) len each = absurd (omega arith)
sums_below f (l ∷ ls) [] len each = absurd (omega arith)
sums_below f (l ∷ ls) (m ∷ ms) len each =
    let rest = sums_below f ls ms (omega arith) (λ j low. each (suc j) (omega arith)) in
    let here = each 0 (omega arith) in
    omega (arith, sum_by-cons f l ls, sum_by-cons f m ms, here, rest)
