-- One item is made to follow another: first what comes after the one is set, then what comes before the other.
use Rattle.std.proofs.Common.{◌≡◌, ◌≢◌, ℕ, ◌<◌, List, length, get_or, set, refl, sym, ap, ◌∙◌, subst, inl, inr, get_or-set_same, get_or-set_other}
use Rattle.std.proofs.lemmas.Bool.{cases_eq}
use Rattle.std.proofs.lemmas.List.{get_or_default, length-set}
use Rattle.index_lists.specs.declared.nodes.Ends.{Ends}
use Rattle.index_lists.specs.declared.nodes.Node.{Node}
use Rattle.index_lists.specs.declared.nodes.TheConstants.{NONE}
use Rattle.index_lists.specs.Links.{JoinsItems, next_from, node_at, previous_from}
use Rattle.index_lists.proofs.Walking.{next_of_border, next_of_item, previous_of_border, previous_of_item}

pub record SetsNext (before after : ℕ) (nodes : List Node) (ends : Ends) (new_nodes : List Node) (new_ends : Ends) : Type 0 where
  pub as_many : length new_nodes ≡ length nodes
  pub next_set : next_from new_nodes new_ends before ≡ after
  pub next_stays : (x : ℕ) → x ≢ before → next_from new_nodes new_ends x ≡ next_from nodes ends x
  pub previous_stays : (x : ℕ) → previous_from new_nodes new_ends x ≡ previous_from nodes ends x

pub record SetsPrevious (before after : ℕ) (nodes : List Node) (ends : Ends) (new_nodes : List Node) (new_ends : Ends) : Type 0 where
  pub as_many : length new_nodes ≡ length nodes
  pub previous_set : previous_from new_nodes new_ends after ≡ before
  pub previous_stays : (x : ℕ) → x ≢ after → previous_from new_nodes new_ends x ≡ previous_from nodes ends x
  pub next_stays : (x : ℕ) → next_from new_nodes new_ends x ≡ next_from nodes ends x

pub joined : (before after : ℕ) (nodes : List Node) (ends : Ends) (nodes1 : List Node) (ends1 : Ends) (nodes2 : List Node) (ends2 : Ends)
    → SetsNext before after nodes ends nodes1 ends1 → SetsPrevious before after nodes1 ends1 nodes2 ends2 → JoinsItems before after nodes ends nodes2 ends2
joined before after nodes ends nodes1 ends1 nodes2 ends2 first second = record {
  as_many = second.as_many ∙ first.as_many;
  adjoin = record { on = second.next_stays before ∙ first.next_set; back = second.previous_set };
  next_stays = λ x other. second.next_stays x ∙ first.next_stays x other;
  previous_stays = λ x other. second.previous_stays x other ∙ first.previous_stays x;
}

-- a fact on each place, from that on the border and that on each item
each_place : (P : ℕ → Type 0) → P NONE → ((x : ℕ) → x ≢ NONE → P x) → (x : ℕ) → P x
each_place P border items x = elim (cases_eq x NONE) [
  | inl same ↦ subst P (sym same) border
  | inr item ↦ items x item
]

pub next_at_border : (before after : ℕ) (nodes : List Node) (ends : Ends) → before ≡ NONE
    → SetsNext before after nodes ends nodes (record { first = after; last = ends.last })
next_at_border before after nodes ends border =
    let new : Ends = record { first = after; last = ends.last } in
    record {
      as_many = refl;
      next_set = ap (λ x. next_from nodes new x) border ∙ next_of_border nodes new;
      next_stays = λ x other.
          let item : x ≢ NONE = λ same. other (same ∙ sym border) in
          next_of_item nodes new x item ∙ sym (next_of_item nodes ends x item);
      previous_stays = each_place (λ x. previous_from nodes new x ≡ previous_from nodes ends x)
          (previous_of_border nodes new ∙ sym (previous_of_border nodes ends))
          (λ x item. previous_of_item nodes new x item ∙ sym (previous_of_item nodes ends x item));
    }

pub next_at_item : (before after : ℕ) (nodes : List Node) (ends : Ends) (d : Node) → before ≢ NONE → before < length nodes
    → SetsNext before after nodes ends (set nodes before (record { next = after; previous = (get_or nodes before d).previous })) ends
next_at_item before after nodes ends d is_item below =
    let default : Node = record { next = NONE; previous = NONE } in
    let node : Node = record { next = after; previous = (get_or nodes before d).previous } in
    let new : List Node = set nodes before node in
    record {
      as_many = length-set nodes before node;
      next_set = next_of_item new ends before is_item ∙ ap (λ n. n.next) (get_or-set_same nodes before node default below);
      next_stays = each_place (λ x. x ≢ before → next_from new ends x ≡ next_from nodes ends x)
          (λ other. next_of_border new ends ∙ sym (next_of_border nodes ends))
          (λ x item other. next_of_item new ends x item ∙ ap (λ n. n.next) (get_or-set_other nodes before x node default other)
          ∙ sym (next_of_item nodes ends x item));
      previous_stays = each_place (λ x. previous_from new ends x ≡ previous_from nodes ends x)
          (previous_of_border new ends ∙ sym (previous_of_border nodes ends))
          (λ x item. previous_of_item new ends x item ∙ elim (cases_eq x before) [
            | inl same ↦ ap (λ v. (node_at new v).previous) same ∙ ap (λ n. n.previous) (get_or-set_same nodes before node default below)
                ∙ ap (λ n. n.previous) (get_or_default nodes before d default below) ∙ ap (λ v. (node_at nodes v).previous) (sym same)
            | inr other ↦ ap (λ n. n.previous) (get_or-set_other nodes before x node default other)
          ] ∙ sym (previous_of_item nodes ends x item));
    }

pub previous_at_border : (before after : ℕ) (nodes : List Node) (ends : Ends) → after ≡ NONE
    → SetsPrevious before after nodes ends nodes (record { first = ends.first; last = before })
previous_at_border before after nodes ends border =
    let new : Ends = record { first = ends.first; last = before } in
    record {
      as_many = refl;
      previous_set = ap (λ x. previous_from nodes new x) border ∙ previous_of_border nodes new;
      previous_stays = λ x other.
          let item : x ≢ NONE = λ same. other (same ∙ sym border) in
          previous_of_item nodes new x item ∙ sym (previous_of_item nodes ends x item);
      next_stays = each_place (λ x. next_from nodes new x ≡ next_from nodes ends x)
          (next_of_border nodes new ∙ sym (next_of_border nodes ends))
          (λ x item. next_of_item nodes new x item ∙ sym (next_of_item nodes ends x item));
    }

pub previous_at_item : (before after : ℕ) (nodes : List Node) (ends : Ends) (d : Node) → after ≢ NONE → after < length nodes
    → SetsPrevious before after nodes ends (set nodes after (record { next = (get_or nodes after d).next; previous = before })) ends
previous_at_item before after nodes ends d is_item below =
    let default : Node = record { next = NONE; previous = NONE } in
    let node : Node = record { next = (get_or nodes after d).next; previous = before } in
    let new : List Node = set nodes after node in
    record {
      as_many = length-set nodes after node;
      previous_set = previous_of_item new ends after is_item ∙ ap (λ n. n.previous) (get_or-set_same nodes after node default below);
      previous_stays = each_place (λ x. x ≢ after → previous_from new ends x ≡ previous_from nodes ends x)
          (λ other. previous_of_border new ends ∙ sym (previous_of_border nodes ends))
          (λ x item other. previous_of_item new ends x item ∙ ap (λ n. n.previous) (get_or-set_other nodes after x node default other)
          ∙ sym (previous_of_item nodes ends x item));
      next_stays = each_place (λ x. next_from new ends x ≡ next_from nodes ends x)
          (next_of_border new ends ∙ sym (next_of_border nodes ends))
          (λ x item. next_of_item new ends x item ∙ elim (cases_eq x after) [
            | inl same ↦ ap (λ v. (node_at new v).next) same ∙ ap (λ n. n.next) (get_or-set_same nodes after node default below)
                ∙ ap (λ n. n.next) (get_or_default nodes after d default below) ∙ ap (λ v. (node_at nodes v).next) (sym same)
            | inr other ↦ ap (λ n. n.next) (get_or-set_other nodes after x node default other)
          ] ∙ sym (next_of_item nodes ends x item));
    }

-- the same where nodes and ends are equal to those
pub set_next : (before after : ℕ) (nodes : List Node) (ends : Ends) (nodes1 nodes2 : List Node) (ends1 ends2 : Ends) → nodes2 ≡ nodes1
    → ends2 ≡ ends1 → SetsNext before after nodes ends nodes1 ends1 → SetsNext before after nodes ends nodes2 ends2
set_next before after nodes ends nodes1 nodes2 ends1 ends2 same_nodes same_ends set =
    subst (λ ns. SetsNext before after nodes ends ns ends2) (sym same_nodes)
    (subst (λ e. SetsNext before after nodes ends nodes1 e) (sym same_ends) set)
