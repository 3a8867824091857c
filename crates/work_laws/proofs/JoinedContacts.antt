-- The contacts of a joined graph are those before the node's work, inside its cell.
use Rattle.std.proofs.Common.{◌≡◌, ◌≢◌, inl, inr, ℕ, ◌+◌, ◌<◌, Bool, true, false, cond, ◌&&◌, IsTrue, List, length, refl, sym, ap, ◌∙◌, subst, eq-zero-or-pos, arith}
use Rattle.std.specs.Prelude.{Contains}
use mathlib.Core.Path.{fun_ext}
use Rattle.agglo_model.specs.Grid.{Grid}
use Rattle.agglo_model.specs.PairOrder.{Contact, Threshold, added}
use Rattle.agglo_model.specs.Contacts.{joins, total}
use Rattle.agglo_model.specs.Greedy.{Merge}
use Rattle.agglo_model.specs.Cutting.{Chunking, node_count, level_of, child_count, child}
use Rattle.agglo_model.specs.Work.{labels_before}
use Rattle.agglo_model.specs.NodeLaws.{AreWorksOn}
use Rattle.agglo_model.specs.RegionGraph.{GraphEdge, RegionGraph, HasRegion, no_contact, contact_in, between_inside, residue_of}
use Rattle.agglo_model.specs.Joining.{IsJoined, is_named, kept_regions, kept_edges, is_crossing, or_none, between_children}
use Rattle.agglo_model.specs.JoiningLaws.{AreKids}
use Rattle.agglo_model.proofs.GraphContacts.{same_contact}
use Rattle.agglo_model.proofs.GraphEdges.{edge_contact, edge_there, contact_by_pasts}
use Rattle.work_laws.proofs.AddedContacts.{listed, listed-none, listed-some}
use Rattle.work_laws.proofs.ChildEdges.{inside_from, crossing_apart, inside_or_crossing}
use Rattle.work_laws.proofs.KidContacts.{graph_contact, kids_contact, listed-split}
use Rattle.work_laws.proofs.CrossingLabels.{children_contact}
use Rattle.work_laws.proofs.KidNames.{Passes, kid_graph, keeps_both}

listed-or_none : (past : ℕ) (d f : Contact) → added (listed past d) (or_none past f) ≡ added (listed past d) (listed past f)
listed-or_none past d f =
    same_contact (added (listed past d) (or_none past f)) (added (listed past d) (listed past f))
    (omega arith) (omega arith) (omega arith)

both_named : (a b : Bool) (d f : Contact) → a ≡ true → b ≡ true → cond (a && b) d f ≡ d
both_named true true d f one other = refl
both_named true false d f one other = cc
both_named false b d f one other = cc

count_of : (past : ℕ) (d f : Contact) → listed past d ≡ added f (no_contact past) → 0 < f.count → 0 < d.count
count_of past d f same some = elim (eq-zero-or-pos d.count) [
  | inr more ↦ more
  | inl none ↦
      let counts = ap (λ z. z.count) (sym (listed-none past d none) ∙ same) in
      absurd (omega (arith, counts, some))
]

module _ (g : Grid) (t : Threshold) (c : Chunking) (labels : List ℕ) (works : List (List Merge))
    (on : AreWorksOn g t c labels works) (m : ℕ) (worked : length works ≡ m) (node : m < node_count c)
    (inner : 0 < level_of c m) (kids : List RegionGraph) (are_kids : AreKids g t c labels works m kids)
    (graph : RegionGraph) (joined : IsJoined g c m labels kids graph) where
  children_inside : (past x y : ℕ) → x ≢ y → IsTrue (is_named (kept_regions c m 0 kids) x)
      → IsTrue (is_named (kept_regions c m 0 kids) y) → contact_in past (kept_edges kids) x y
      ≡ listed past (total g (λ e. joins g (labels_before labels works m) x y e && inside_from c m 0 (child_count c m) e))
  children_inside past x y apart named_x named_y =
      let l = labels_before labels works m in
      let few = are_kids.one_each in
      kids_contact c on.cutting m node inner g l past x y 0 kids (omega arith) (λ k below.
      let under : k < child_count c m = omega arith in
      let here : k ≡ 0 + k = omega arith in
      graph_contact (Passes g t c labels works on m worked node inner kids are_kids k) g c (child c m k) l (residue_of kids k)
      (kid_graph g t c labels works on m worked node inner kids are_kids k under) past x y apart
      (keeps_both g t c labels works on m worked node inner kids are_kids x y k named_x named_y under)
      ∙ ap (λ n. listed past (between_inside g c (child c m n) l x y)) here)
      ∙ ap (λ n. listed past (total g (λ e. joins g l x y e && inside_from c m 0 n e))) few

  -- two kept names have the contact inside the node's cell
  pub joined_contact : (past x y : ℕ) → x ≢ y → IsTrue (is_named (kept_regions c m 0 kids) x)
      → IsTrue (is_named (kept_regions c m 0 kids) y)
      → contact_in past graph.edges x y ≡ listed past (between_inside g c m (labels_before labels works m) x y)
  joined_contact past x y apart named_x named_y =
      let l = labels_before labels works m in
      let inside = total g (λ e. joins g l x y e && inside_from c m 0 (child_count c m) e) in
      let across = total g (λ e. joins g l x y e && is_crossing c m e) in
      let first = children_inside past x y apart named_x named_y in
      let other = children_contact g t c labels works on m worked node inner past x y in
      joined.contacts past x y apart
      ∙ both_named (is_named (kept_regions c m 0 kids) x) (is_named (kept_regions c m 0 kids) y)
      (added (contact_in past (kept_edges kids) x y) (between_children past g c m labels x y)) (no_contact past) named_x named_y
      ∙ (λ i. added (first i) (other i))
      ∙ listed-or_none past inside across
      ∙ sym (listed-split past g (joins g l x y) (inside_from c m 0 (child_count c m)) (is_crossing c m)
      (crossing_apart c on.cutting m node inner))
      ∙ ap (λ f. listed past (total g f)) (fun_ext (λ e.
      ap (λ b. joins g l x y e && b) (inside_or_crossing c on.cutting m node inner e)))

  named_end : (x : ℕ) → HasRegion graph x → IsTrue (is_named (kept_regions c m 0 kids) x)
  named_end x (faces, there) = ((joined.regions (record { name = x; faces = faces })).0 there).0

  -- what holds of an edge of a graph of names
  abbrev pub IsEdgeInside : GraphEdge → Type 0
  IsEdgeInside e = (e.a < e.b) × IsTrue (is_named (kept_regions c m 0 kids) e.a) × IsTrue (is_named (kept_regions c m 0 kids) e.b)
      × (0 < (between_inside g c m (labels_before labels works m) e.a e.b).count)
      × (e.contact ≡ between_inside g c m (labels_before labels works m) e.a e.b)

  pub edge_inside : (e : GraphEdge) → Contains graph.edges e → IsEdgeInside e
  edge_inside e there =
      let is = joined.graph_is in
      let order = is.ordered e there in
      let named_a = named_end e.a (is.from_region e there) in
      let named_b = named_end e.b (is.to_region e there) in
      let d = between_inside g c m (labels_before labels works m) e.a e.b in
      let same : (past : ℕ) → listed past d ≡ added e.contact (no_contact past) =
      λ past. sym (joined_contact past e.a e.b (omega arith) named_a named_b) ∙ edge_contact graph is past e there in
      let some = count_of 0 d e.contact (same 0) (is.touching e there) in (
        order,
        named_a,
        named_b,
        some,
        contact_by_pasts e.contact d (λ past. sym (same past) ∙ listed-some past d some),
      )

  pub inside_edge : (e : GraphEdge) → IsEdgeInside e → Contains graph.edges e
  inside_edge e (order, named_a, named_b, some, contact) =
      let d = between_inside g c m (labels_before labels works m) e.a e.b in
      edge_there graph joined.graph_is e order (subst (λ z. 0 < z.count) (sym contact) some) (λ past.
      joined_contact past e.a e.b (omega arith) named_a named_b ∙ listed-some past d some
      ∙ ap (λ z. added z (no_contact past)) (sym contact))
