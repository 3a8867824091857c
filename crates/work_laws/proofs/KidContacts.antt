-- The contacts of two names in the residues of a node's children are those inside the children's cells.
use Rattle.std.proofs.Common.{◌≡◌, ◌≢◌, inl, inr, ℕ, suc, ◌+◌, ◌<◌, ◌≤◌, Bool, false, ◌&&◌, ◌||◌, List, [], ◌∷◌, length, refl, sym, ap, ◌∙◌, subst, eq-zero-or-pos, arith}
use Rattle.std.specs.Prelude.{Contains}
use Rattle.std.proofs.Math.Bool.{and-false, and-or_distrib_left}
use Rattle.std.proofs.lemmas.Bool.{cases_Bool, cases_lt}
use mathlib.Core.Path.{fun_ext}
use Rattle.agglo_model.specs.Grid.{Grid}
use Rattle.agglo_model.specs.PairOrder.{added}
use Rattle.agglo_model.specs.Contacts.{joins, total}
use Rattle.agglo_model.specs.Cutting.{Chunking, IsChunking, node_count, level_of, child_count, child}
use Rattle.agglo_model.specs.Freezing.{is_inside}
use Rattle.agglo_model.specs.RegionGraph.{GraphEdge, RegionGraph, IsGraphOfNames, is_between, contact_in, between_inside, residue_of}
use Rattle.agglo_model.specs.Joining.{kept_edges}
use Rattle.agglo_model.proofs.GraphContacts.{contact_in-is, contact_in-append, joint-none}
use Rattle.agglo_model.proofs.GraphEdges.{edge_contact, between_names}
use Rattle.agglo_model.proofs.GraphMerges.{contact_in-swap}
use Rattle.agglo_model.proofs.Tests.{both_apart}
use Rattle.agglo_model.proofs.Cases.{ordered_names}
use Rattle.work_laws.proofs.InsideContacts.{inside-swap}
use Rattle.work_laws.proofs.AddedContacts.{listed, listed-none, listed-some, listed-both, listed-fails}
use Rattle.work_laws.proofs.ChildEdges.{inside_from, children_apart}

-- ---- one graph of names

-- two names in contact inside the cell are both kept
abbrev pub KeepsBoth : (ℕ → Type 0) → Grid → Chunking → ℕ → List ℕ → ℕ → ℕ → Type 0
KeepsBoth Keeps g c m labels x y = 0 < (between_inside g c m labels x y).count → Keeps x × Keeps y

module _ (Keeps : ℕ → Type 0) (g : Grid) (c : Chunking) (m : ℕ) (labels : List ℕ) (graph : RegionGraph)
    (is : IsGraphOfNames Keeps g c m labels graph) (past : ℕ) where
  some_contact : (x y : ℕ) → x < y → Keeps x × Keeps y → 0 < (between_inside g c m labels x y).count
      → contact_in past graph.edges x y ≡ listed past (between_inside g c m labels x y)
  some_contact x y order (kept_x, kept_y) some =
      let e : GraphEdge = record { a = x; b = y; contact = between_inside g c m labels x y } in
      let there : Contains graph.edges e = (is.edges e).1 (order, kept_x, kept_y, some, refl) in
      edge_contact graph is.graph_is past e there ∙ sym (listed-some past (between_inside g c m labels x y) some)

  no_edge : (x y : ℕ) → x < y → (between_inside g c m labels x y).count ≡ 0 → (e : GraphEdge) → Contains graph.edges e
      → is_between x y e ≡ false
  no_edge x y order none e inside = elim (cases_Bool (is_between x y e)) [
    | inr other ↦ other
    | inl pass ↦
        let was = (is.edges e).0 inside in
        let names = ordered_names x y e.a e.b order was.0 (between_names x y e pass) in
        let some : 0 < (between_inside g c m labels x y).count =
        subst (λ b. 0 < (between_inside g c m labels x b).count) names.1
        (subst (λ a. 0 < (between_inside g c m labels a e.b).count) names.0 was.3) in
        absurd (omega arith)
  ]

  ordered_contact : (x y : ℕ) → x < y → KeepsBoth Keeps g c m labels x y
      → contact_in past graph.edges x y ≡ listed past (between_inside g c m labels x y)
  ordered_contact x y order keeps = elim (eq-zero-or-pos (between_inside g c m labels x y).count) [
    | inr some ↦ some_contact x y order (keeps some) some
    | inl none ↦
        contact_in-is past x y graph.edges
        ∙ joint-none past (is_between x y) graph.edges (no_edge x y order none)
        ∙ sym (listed-none past (between_inside g c m labels x y) none)
  ]

  pub graph_contact : (x y : ℕ) → x ≢ y → KeepsBoth Keeps g c m labels x y
      → contact_in past graph.edges x y ≡ listed past (between_inside g c m labels x y)
  graph_contact x y apart keeps = elim (cases_lt x y) [
    | inl less ↦ ordered_contact x y less keeps
    | inr more ↦
        let swap = inside-swap g c m labels x y in
        contact_in-swap past x y graph.edges
        ∙ ordered_contact y x (omega arith) (λ some.
        let both = keeps (subst (λ d. 0 < d.count) (sym swap) some) in (both.1, both.0))
        ∙ ap (listed past) (sym swap)
  ]

-- ---- all children

pub listed-split : (past : ℕ) (g : Grid) (j p q : ℕ → Bool) → ((e : ℕ) → (p e && q e) ≡ false)
    → listed past (total g (λ e. j e && (p e || q e)))
    ≡ added (listed past (total g (λ e. j e && p e))) (listed past (total g (λ e. j e && q e)))
listed-split past g j p q apart =
    ap (λ f. listed past (total g f)) (fun_ext (λ e. and-or_distrib_left (j e) (p e) (q e)))
    ∙ listed-both past g (λ e. j e && p e) (λ e. j e && q e) (λ e. both_apart (j e) (p e) (q e) (apart e))

module _ (c : Chunking) (h : IsChunking c) (m : ℕ) (node : m < node_count c) (inner : 0 < level_of c m)
    (g : Grid) (labels : List ℕ) (past x y : ℕ) where
  -- the contact of the names in each of the graphs, those of the children from number i on
  abbrev pub HaveContacts : ℕ → List RegionGraph → Type 0
  HaveContacts i kids = (k : ℕ) → k < length kids → contact_in past (residue_of kids k).edges x y
      ≡ listed past (between_inside g c (child c m (i + k)) labels x y)

  pub kids_contact : (i : ℕ) (kids : List RegionGraph) → i + length kids ≤ child_count c m → HaveContacts i kids
      → contact_in past (kept_edges kids) x y
      ≡ listed past (total g (λ e. joins g labels x y e && inside_from c m i (length kids) e))
  kids_contact i [] few each = sym (listed-fails past g (λ e. joins g labels x y e && false) (λ e. and-false (joins g labels x y e)))
  kids_contact i (kid ∷ kids) few each =
      let here : i + 0 ≡ i = omega arith in
      let first = each 0 (omega arith) ∙ ap (λ k. listed past (between_inside g c (child c m k) labels x y)) here in
      let rest = kids_contact (i + 1) kids (omega arith) (λ k below.
      let next : i + suc k ≡ i + 1 + k = omega arith in
      each (suc k) (omega arith) ∙ ap (λ n. listed past (between_inside g c (child c m n) labels x y)) next) in
      contact_in-append past x y kid.edges (kept_edges kids)
      ∙ (λ j. added (first j) (rest j))
      ∙ sym (listed-split past g (joins g labels x y) (is_inside c (child c m i)) (inside_from c m (i + 1) (length kids))
      (λ e. children_apart c h m node inner i (length kids) e (omega arith)))
