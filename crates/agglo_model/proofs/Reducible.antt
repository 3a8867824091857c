-- Reducibility: the contact of a third name after a merge lies between the two that it adds up.
use Rattle.std.proofs.Common.{◌≡◌, ◌≢◌, ℕ, ◌+◌, ◌≤◌, min, List, sym, ◌∙◌, subst, arith}
use Rattle.agglo_model.specs.Grid.{Grid}
use Rattle.agglo_model.specs.PairOrder.{Contact, added}
use Rattle.agglo_model.specs.Contacts.{joins, between, InContact}
use Rattle.agglo_model.specs.MeanLaws.{AddsUp, IsReducible, IsLeastEdge}
use Rattle.agglo_model.proofs.Totals.{total-none, total-tie-le, total-least}
use Rattle.agglo_model.proofs.ContactEdges.{joins-edge, InContact-from_edge, InContact-tie}
use Rattle.agglo_model.proofs.Means.{added_means}
use Rattle.agglo_model.proofs.Renames.{merges_contacts}

-- a contact without edges adds nothing
added-none_right : (c d : Contact) → d.sum ≡ 0 → d.count ≡ 0 → c.tie ≤ d.tie → added c d ≡ c
added-none_right c d s k t =
    let sum : c.sum + d.sum ≡ c.sum = omega arith in
    let count : c.count + d.count ≡ c.count = omega arith in
    let tie : min c.tie d.tie ≡ c.tie = omega arith in
    λ i. record { sum = sum i; count = count i; tie = tie i }

added-none_left : (c d : Contact) → c.sum ≡ 0 → c.count ≡ 0 → d.tie ≤ c.tie → added c d ≡ d
added-none_left c d s k t =
    let sum : c.sum + d.sum ≡ d.sum = omega arith in
    let count : c.count + d.count ≡ d.count = omega arith in
    let tie : min c.tie d.tie ≡ d.tie = omega arith in
    λ i. record { sum = sum i; count = count i; tie = tie i }

-- names that aren't in contact add nothing to those that are
pub not_in_contact-right : (g : Grid) (labels : List ℕ) (a b c d : ℕ) → ¬ (InContact g labels c d)
    → added (between g labels a b) (between g labels c d) ≡ between g labels a b
not_in_contact-right g labels a b c d off =
    let none : (between g labels c d).count ≡ 0 = omega (arith, off) in
    let zero = total-none g (joins g labels c d) none in
    let most = total-tie-le g (joins g labels a b) in
    added-none_right (between g labels a b) (between g labels c d) zero.0 none (omega (arith, zero.1, most))

pub not_in_contact-left : (g : Grid) (labels : List ℕ) (a b c d : ℕ) → ¬ (InContact g labels a b)
    → added (between g labels a b) (between g labels c d) ≡ between g labels c d
not_in_contact-left g labels a b c d off =
    let none : (between g labels a b).count ≡ 0 = omega (arith, off) in
    let zero = total-none g (joins g labels a b) none in
    let most = total-tie-le g (joins g labels c d) in
    added-none_left (between g labels a b) (between g labels c d) zero.0 none (omega (arith, zero.1, most))

pub reducible : (g : Grid) (labels : List ℕ) (a b c : ℕ) → a ≢ b → a ≢ 0 → b ≢ 0 → c ≢ a → c ≢ b
    → IsReducible g labels a b c
reducible g labels a b c ab pa pb ca cb =
    let sum = (merges_contacts g labels a b ab pa pb).third c ca cb in
    record {
      both = λ one other.
          subst (AddsUp (between g labels a c) (between g labels b c)) (sym sum)
          (added_means (between g labels a c) (between g labels b c) one other);
      first = λ one off. sum ∙ not_in_contact-right g labels a c b c off;
      second = λ off other. sum ∙ not_in_contact-left g labels a c b c off;
    }

pub least_edge : (g : Grid) (labels : List ℕ) (a b : ℕ) → IsLeastEdge g labels a b
least_edge g labels a b = record {
  some = InContact-from_edge g labels a b;
  least = λ e pass. total-least g (joins g labels a b) e (joins-edge g labels a b e pass) pass;
  joined = InContact-tie g labels a b;
}
