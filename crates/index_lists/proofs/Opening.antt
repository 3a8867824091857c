-- Empty lists, and items in none of them.
use Rattle.std.proofs.Common.{◌≡◌, ℕ, ◌<◌, ◌≤◌, List, [], length, get_or, replicate, refl, sym, ◌∙◌, subst, inl, inr, arith}
use Rattle.std.specs.Prelude.{Contains}
use Rattle.std.proofs.lemmas.Bool.{cases_lt}
use Rattle.std.proofs.lemmas.List.{get_or-replicate, get_or_past, length-replicate}
use Rattle.agglo_model.proofs.Members.{contains_none}
use Rattle.index_lists.specs.declared.nodes.Ends.{Ends}
use Rattle.index_lists.specs.declared.nodes.Node.{Node}
use Rattle.index_lists.specs.declared.nodes.TheConstants.{NONE}
use Rattle.index_lists.specs.Links.{AreLinks, HasItems, Holds, ends_at, linked_lists, node_at}
use Rattle.index_lists.proofs.ItemLists.{Once, once_nil}
use Rattle.index_lists.proofs.Walking.{next_of_border, previous_of_border}
use Rattle.index_lists.proofs.Holding.{are_links}

none_at : (n l : ℕ) → get_or {A = List ℕ} (replicate n []) l [] ≡ []
none_at n l = elim (cases_lt l n) [
  | inl below ↦ get_or-replicate n l [] [] below
  | inr past ↦ get_or_past (replicate n []) l [] (subst (λ k. k ≤ l) (sym (length-replicate n [])) past)
]

pub opened : (nodes : List Node) (n : ℕ) → length nodes ≤ NONE → ((x : ℕ) → x < length nodes → (node_at nodes x).next ≡ x)
    → Holds nodes (replicate n (record { first = NONE; last = NONE })) (replicate n [])
opened nodes n few loose =
    let empty : Ends = record { first = NONE; last = NONE } in
    let absent : ((l x : ℕ) → Contains (get_or {A = List ℕ} (replicate n []) l []) x → ⊥) =
    λ l x inside. contains_none x (subst (λ ys. Contains ys x) (none_at n l) inside) in
    record {
      few = few;
      one_each = length-replicate n [] ∙ sym (length-replicate n empty);
      lawful = record {
        within = λ l x inside. absurd (absent l x inside);
        once = λ l. subst (λ ys. Once ys) (sym (none_at n l)) once_nil;
        apart = λ l m x left right. absurd (absent l x left);
      };
      linked = λ l there.
          let below : l < n = omega (arith, length-replicate n empty) in
          subst (λ ys. HasItems nodes (ends_at (replicate n empty) l) ys) (sym (none_at n l))
          (subst (λ e. HasItems nodes e []) (sym (get_or-replicate n l empty empty below))
          (record { on = next_of_border nodes empty; back = previous_of_border nodes empty }));
      loose = λ x inside unlinked. loose x inside;
    }

-- what the call makes
pub opened_links : (nodes : List Node) (ends : List Ends) (lists items : ℕ) → items ≤ NONE → length nodes ≡ items
    → ((x : ℕ) → x < items → (node_at nodes x).next ≡ x) → ends ≡ replicate lists (record { first = NONE; last = NONE })
    → AreLinks nodes ends × (linked_lists nodes ends ≡ record { items = items; lists = replicate lists [] })
opened_links nodes ends lists items few many loose empty =
    subst (λ es. AreLinks nodes es × (linked_lists nodes es ≡ record { items = items; lists = replicate lists [] })) (sym empty)
    (are_links nodes (replicate lists (record { first = NONE; last = NONE })) (replicate lists []) items nodes
    (opened nodes lists (subst (λ k. k ≤ NONE) (sym many) few) (λ x inside. loose x (subst (λ k. x < k) many inside))) many refl)
