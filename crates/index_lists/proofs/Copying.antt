-- The items of a list, copied one after another.
use Rattle.std.proofs.Common.{◌≡◌, ◌≢◌, ℕ, zero, suc, true, ◌<◌, if◌then◌else◌, List, [], ◌∷◌, ◌++◌, append_assoc, append-nil, length, get_or, refl, sym, ap, ◌∙◌, subst, arith, eqb, ne_eqb}
use Rattle.std.specs.Prelude.{Contains}
use Rattle.std.proofs.lemmas.List.{get_or-map, get_or_read}
use Rattle.std.proofs.lemmas.List.Elements.{Contains-append_right}
use Rattle.std.proofs.lemmas.Bool.Decides.{nat_tests}
use Rattle.agglo_model.proofs.Members.{contains_head}
use Rattle.index_lists.specs.declared.nodes.Ends.{Ends}
use Rattle.index_lists.specs.declared.nodes.Node.{Node}
use Rattle.index_lists.specs.declared.nodes.TheConstants.{NONE}
use Rattle.index_lists.specs.LinkedLists.{LinkedLists, list_at}
use Rattle.index_lists.specs.Links.{AreLinks, ends_at, linked_lists, node_at, walk, walks}

-- so much of a list was copied, and the rest is what one walks from this item with this fuel
pub record IsCopiedTo (nodes : List Node) (xs before now : List ℕ) (fuel item : ℕ) : Type 0 where
  pub taken : List ℕ
  pub now_is : now ≡ before ++ taken
  pub rest : xs ≡ taken ++ walk nodes fuel item

walk_item : (nodes : List Node) (k item : ℕ) → item ≢ NONE → walk nodes (suc k) item ≡ item ∷ walk nodes k (node_at nodes item).next
unfolding walk
walk_item nodes k item other = ap (λ b. if b then [] else item ∷ walk nodes k (node_at nodes item).next) (ne_eqb item NONE other)

walk_border : (nodes : List Node) (fuel item : ℕ) → item ≡ NONE → walk nodes fuel item ≡ []
unfolding walk
walk_border nodes zero item same = refl
walk_border nodes (suc k) item same =
    ap (λ b. if b then [] else item ∷ walk nodes k (node_at nodes item).next) (is_same item NONE same)
  where
    is_same : (x y : ℕ) → x ≡ y → eqb x y ≡ true
    is_same x y same = grind (arith, nat_tests)

-- nothing was copied yet
pub copied_none : (nodes : List Node) (ends : List Ends) (all : LinkedLists) (l : ℕ) (e : Ends) (before : List ℕ) → linked_lists nodes ends ≡ all
    → AreLinks nodes ends → l < length all.lists → e ≡ get_or ends l e → IsCopiedTo nodes (list_at all l) before before (length nodes) e.first
unfolding walk walks
copied_none nodes ends all l e before view links there read =
    subst (λ (a : LinkedLists). l < length a.lists → IsCopiedTo nodes (list_at a l) before before (length nodes) e.first) view
    (λ a_there.
    let there_too : l < length ends = subst (λ k. l < k) links.one_each a_there in
    let same : e ≡ ends_at ends l = get_or_read ends l e there_too read (record { first = NONE; last = NONE }) in
    record {
      taken = [];
      now_is = sym (append-nil before);
      rest = get_or-map (λ (f : Ends). walk nodes (length nodes) f.first) ends l e [] there_too ∙ ap (λ (f : Ends). walk nodes (length nodes) f.first) (sym read);
    })
    there

-- one more item was
pub copied_more : (nodes : List Node) (xs before now : List ℕ) (fuel left item next : ℕ) → IsCopiedTo nodes xs before now fuel item
    → fuel ≡ suc left → item ≢ NONE → next ≡ (node_at nodes item).next → IsCopiedTo nodes xs before (now ++ item ∷ []) left next
copied_more nodes xs before now fuel left item next is more other read = record {
  taken = is.taken ++ item ∷ [];
  now_is = ap (λ ys. ys ++ item ∷ []) is.now_is ∙ append_assoc before is.taken (item ∷ []);
  rest = is.rest ∙ ap (λ ys. is.taken ++ ys) (ap (λ k. walk nodes k item) more ∙ walk_item nodes left item other ∙ ap (λ n. item ∷ walk nodes left n) (sym read))
      ∙ sym (append_assoc is.taken (item ∷ []) (walk nodes left next));
}

-- the item is one of the list
pub is_in_list : (nodes : List Node) (xs before now : List ℕ) (fuel left item : ℕ) → IsCopiedTo nodes xs before now fuel item
    → fuel ≡ suc left → item ≢ NONE → Contains xs item
is_in_list nodes xs before now fuel left item is more other =
    subst (λ ys. Contains ys item) (sym (is.rest ∙ ap (λ k. is.taken ++ walk nodes k item) more ∙ ap (λ ys. is.taken ++ ys) (walk_item nodes left item other)))
    (Contains-append_right is.taken (item ∷ walk nodes left (node_at nodes item).next) item (contains_head item (walk nodes left (node_at nodes item).next)))

-- all of them were, at the border or where no fuel is left
pub copied_all : (nodes : List Node) (xs before now : List ℕ) (fuel item : ℕ) → IsCopiedTo nodes xs before now fuel item
    → walk nodes fuel item ≡ [] → now ≡ before ++ xs
copied_all nodes xs before now fuel item is none =
    is.now_is ∙ ap (λ ys. before ++ ys) (sym (is.rest ∙ ap (λ ys. is.taken ++ ys) none ∙ append-nil is.taken))

pub at_border : (nodes : List Node) (fuel item : ℕ) → item ≡ NONE → walk nodes fuel item ≡ []
at_border = walk_border

pub without_fuel : (nodes : List Node) (item : ℕ) → walk nodes 0 item ≡ []
unfolding walk
without_fuel nodes item = refl
