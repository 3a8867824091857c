-- Lists of edges that gain the contacts of the edges that pass a test: none, one, and two tests one after the other.
use Rattle.std.proofs.Common.{◌≡◌, ℕ, ◌<◌, ◌≤◌, min, max, Bool, true, false, cond, ◌&&◌, ◌||◌, eqb, List, [], ◌∷◌, ◌++◌, refl, sym, ap, ◌∙◌, arith}
use Rattle.std.proofs.Math.Bool.{and-or_distrib_left}
use mathlib.Core.Path.{fun_ext}
use Rattle.agglo_model.specs.Axes.{edge_count, is_edge}
use Rattle.agglo_model.specs.Grid.{Grid, affinity}
use Rattle.agglo_model.specs.PairOrder.{Contact, added}
use Rattle.agglo_model.specs.Contacts.{are, is_contact_edge, joins, lower_label, higher_label, total}
use Rattle.agglo_model.specs.RegionGraph.{GraphEdge, is_between, no_contact, contact_in}
use Rattle.agglo_model.proofs.GraphContacts.{joint-append, contact_in-is, added_assoc, added-none, contact_in-tie-le}
use Rattle.agglo_model.proofs.Totals.{total-both}
use Rattle.agglo_model.proofs.Tests.{both_apart, alike}
use Rattle.agglo_model.proofs.EdgeLists.{order_test}
use Rattle.region_graph.specs.Lists.{AreOrdered, SameContacts}
use Rattle.region_graph.specs.Boxes.{GainsContacts}
use Rattle.region_graph.proofs.OneEdge.{total-nothing, total-here}
use Rattle.region_graph.proofs.EdgeSums.{joint-one}

-- where no contact edge passes the test, nothing is gained
pub gains-nothing : (g : Grid) (labels : List ℕ) (test : ℕ → Bool) (es : List GraphEdge)
    → ((x y e : ℕ) → (joins g labels x y e && test e) ≡ false) → GainsContacts g labels test es es
gains-nothing g labels test es fails = record {
  ordered = λ ordered. ordered;
  contacts = λ x y.
      sym (added-none (edge_count g.axes) (contact_in (edge_count g.axes) es x y) (contact_in-tie-le (edge_count g.axes) x y es))
      ∙ ap (added (contact_in (edge_count g.axes) es x y)) (sym (total-nothing g (λ e. joins g labels x y e && test e) (fails x y)));
}

-- two tests that no edge passes both, one after the other
pub gains-both : (g : Grid) (labels : List ℕ) (p q : ℕ → Bool) (es fs gs : List GraphEdge)
    → ((e : ℕ) → (p e && q e) ≡ false) → GainsContacts g labels p es fs → GainsContacts g labels q fs gs
    → GainsContacts g labels (λ e. p e || q e) es gs
gains-both g labels p q es fs gs apart one other = record {
  ordered = λ ordered. other.ordered (one.ordered ordered);
  contacts = λ x y.
      let j = joins g labels x y in
      let n = edge_count g.axes in
      other.contacts x y
      ∙ ap (λ c. added c (total g (λ e. j e && q e))) (one.contacts x y)
      ∙ added_assoc (contact_in n es x y) (total g (λ e. j e && p e)) (total g (λ e. j e && q e))
      ∙ ap (added (contact_in n es x y))
      (sym (total-both g (λ e. j e && p e) (λ e. j e && q e) (λ e. both_apart (j e) (p e) (q e) (apart e)))
      ∙ ap (total g) (fun_ext (λ e. sym (and-or_distrib_left (j e) (p e) (q e)))));
}

-- tests that agree on edges
pub gains-same : (g : Grid) (labels : List ℕ) (p q : ℕ → Bool) (es fs : List GraphEdge)
    → ((e : ℕ) → is_edge g.axes e ≡ true → p e ≡ q e) → GainsContacts g labels p es fs → GainsContacts g labels q es fs
gains-same g labels p q es fs same gained = record {
  ordered = gained.ordered;
  contacts = λ x y.
      gained.contacts x y
      ∙ ap (λ test. added (contact_in (edge_count g.axes) es x y) (total g test))
      (fun_ext (λ e. alike (is_edge g.axes e) _ _ (p e) (q e) (same e)));
}

-- ---- one contact edge

-- the edge of a graph that edge k of the grid makes alone
abbrev pub alone : Grid → List ℕ → ℕ → GraphEdge
alone g labels k = record {
  a = min (lower_label g labels k) (higher_label g labels k);
  b = max (lower_label g labels k) (higher_label g labels k);
  contact = record { sum = affinity g k; count = 1; tie = k };
}

joins-alone : (g : Grid) (labels : List ℕ) (x y k : ℕ) → is_contact_edge g labels k ≡ true
    → joins g labels x y k ≡ is_between x y (alone g labels k)
joins-alone g labels x y k contact =
    ap (λ t. t && are (lower_label g labels k) (higher_label g labels k) x y) contact
    ∙ sym (order_test (lower_label g labels k) (higher_label g labels k) x y)

one_contact : (past : ℕ) (b : Bool) (c : Contact) → c.tie ≤ past
    → cond b (added c (no_contact past)) (no_contact past) ≡ cond b c (no_contact past)
one_contact past true c low = added-none past c low
one_contact past false c low = refl

pub gains-edge : (g : Grid) (labels : List ℕ) (k : ℕ) (es fs : List GraphEdge) → k < edge_count g.axes
    → is_contact_edge g labels k ≡ true → SameContacts (es ++ alone g labels k ∷ []) fs → (AreOrdered es → AreOrdered fs)
    → GainsContacts g labels (λ e. eqb e k) es fs
gains-edge g labels k es fs below contact same ordered = record {
  ordered = ordered;
  contacts = λ x y.
      let n = edge_count g.axes in
      let new = alone g labels k in
      same n x y ∙ contact_in-is n x y (es ++ new ∷ []) ∙ joint-append n (is_between x y) es (new ∷ [])
      ∙ (λ i. added (sym (contact_in-is n x y es) i) (joint-one n (is_between x y) new i))
      ∙ ap (added (contact_in n es x y)) (one_contact n (is_between x y new) new.contact (omega arith)
      ∙ (λ i. cond (sym (joins-alone g labels x y k contact) i) new.contact (no_contact n))
      ∙ sym (total-here g (joins g labels x y) k below));
}
