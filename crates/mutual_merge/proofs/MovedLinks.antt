-- Links whose regions move to other places, link by link.
use Rattle.std.proofs.Common.{◌≡◌, ◌≢◌, ◌⊎◌, inl, inr, ℕ, ◌+◌, ◌<◌, min, max, false, cond, eqb, List, [], ◌∷◌, ◌++◌, length, get_or, take, refl, sym, ap, ◌∙◌, subst, arith}
use Rattle.std.specs.Prelude.{All}
use Rattle.std.proofs.lemmas.Bool.Decides.{nat_tests}
use Rattle.std.proofs.lemmas.List.{map_push, take_more}
use Rattle.std.proofs.lemmas.List.Sums.{sum_by_push}
use Rattle.std.proofs.lemmas.List.Elements.{All-push, All-get_or, All-nil, Contains-push, Contains-append_left}
use Rattle.agglo_model.specs.Contacts.{are}
use Rattle.agglo_model.specs.RegionGraph.{is_between, contact_in}
use Rattle.agglo_model.proofs.GraphContacts.{contact_in-other, contact_in-alike}
use Rattle.mutual_merge.specs.declared.links.Link.{Link}
use Rattle.mutual_merge.specs.Linked.{IsLink, link_edges, edge_by, edges_by}
use Rattle.mutual_merge.specs.Moved.{AreMoved, MoveBelow}
use Rattle.mutual_merge.specs.Slots.{IsSlotLink, live_edges}

pub AreMoved-none : (places : List ℕ) (moved : List Link) → moved ≡ [] → AreMoved [] places moved
AreMoved-none places moved none = record {
  each = λ n all. subst (All (IsLink n)) (sym none) (All-nil (IsLink n));
  within = let e = ap link_edges none in omega arith;
  contacts = λ name past x y xy. ap (λ ls. contact_in past (edges_by name ls) x y) none;
}

-- the places of the two regions of the next link, which are p and q after it
pub record AtMoved (places : List ℕ) (l : Link) (p q : ℕ) : Type 0 where
  pub is : IsSlotLink (length places) l
  pub a_is : p ≡ get_or places l.a 0
  pub b_is : q ≡ get_or places l.b 0

-- the places of a link after it
new_place : List ℕ → (ℕ → ℕ) → ℕ → ℕ
new_place places name k = name (get_or places k 0)

pub apart_test : (p q x y : ℕ) → p ≡ q → x ≢ y → are p q x y ≡ false
apart_test p q x y same xy = grind (arith, nat_tests)

pub turned_test : (p q x y : ℕ) → are p q x y ≡ are q p x y
turned_test p q x y = grind (arith, nat_tests)

pub pushed : (name : ℕ → ℕ) (ls : List Link) (l : Link) (past x y : ℕ)
    → contact_in past (edges_by name (ls ++ l ∷ [])) x y ≡ contact_in past (edges_by name ls ++ edge_by name l ∷ []) x y
pushed name ls l past x y = ap (λ es. contact_in past es x y) (map_push (edge_by name) ls l)

-- what one more link adds to the edges of those that are live
pub live_edges-push : (ls : List Link) (l : Link) → live_edges (ls ++ l ∷ []) ≡ live_edges ls + cond (eqb l.a l.b) 0 l.contact.count
live_edges-push ls l = sum_by_push (λ m. cond (eqb m.a m.b) 0 m.contact.count) ls l

live_count : (a b n : ℕ) → a ≢ b → cond (eqb a b) 0 n ≡ n
live_count a b n differ = grind (arith, nat_tests)

-- what holds of the places of several links holds of those of the first ones
MoveBelow-front : (n : ℕ) (places : List ℕ) (ls : List Link) (l : Link) → MoveBelow n places (ls ++ l ∷ []) → MoveBelow n places ls
MoveBelow-front n places ls l below m inside live = below m (Contains-append_left ls (l ∷ []) m inside) live

-- a link whose regions come to one place is left out
pub AreMoved-skip : (ls : List Link) (places : List ℕ) (moved : List Link) (l : Link) (p q : ℕ) → AreMoved ls places moved
    → AtMoved places l p q → p ≡ q → AreMoved (ls ++ l ∷ []) places moved
AreMoved-skip ls places moved l p q so_far known same = record {
  each = λ n below. so_far.each n (MoveBelow-front n places ls l below);
  within = let w = so_far.within in let s = live_edges-push ls l in omega arith;
  contacts = λ name past x y xy.
      let there = λ (k : ℕ). name (get_or places k 0) in
      so_far.contacts name past x y xy
      ∙ sym (pushed there ls l past x y
      ∙ contact_in-other past x y (edges_by there ls) (edge_by there l)
      (apart_test (there l.a) (there l.b) x y (ap name (sym known.a_is ∙ same ∙ known.b_is)) xy));
}

order_cases : (p q : ℕ) → ((min p q ≡ p) × (max p q ≡ q)) ⊎ ((min p q ≡ q) × (max p q ≡ p))
order_cases p q = grind arith

-- any other link has its new places in order
pub AreMoved-take : (ls : List Link) (places : List ℕ) (moved : List Link) (l m : Link) (p q : ℕ) → AreMoved ls places moved
    → AtMoved places l p q → p ≢ q → m ≡ record { a = min p q; b = max p q; contact = l.contact }
    → AreMoved (ls ++ l ∷ []) places (moved ++ m ∷ [])
AreMoved-take ls places moved l m p q so_far known differ is = record {
  each = λ n below. All-push (IsLink n) moved m (so_far.each n (MoveBelow-front n places ls l below)) (subst (IsLink n) (sym is) (record {
    ordered = omega arith;
    inside =
        let low = below l (Contains-push ls l) live in
        let a_low = low.0 in
        let b_low = low.1 in
        let a_is = known.a_is in
        let b_is = known.b_is in
        omega arith;
    touching = known.is.touching;
  }));
  within =
      let w = so_far.within in
      let s = live_edges-push ls l in
      let c = live_count l.a l.b l.contact.count live in
      let t = sum_by_push (λ k. k.contact.count) moved m in
      let e = ap (λ k. k.contact.count) is in
      omega arith;
  contacts = λ name past x y xy.
      let there = λ (k : ℕ). name (get_or places k 0) in
      pushed name moved m past x y
      ∙ contact_in-alike past x y (edges_by name moved) (edges_by there ls) (edge_by name m) (edge_by there l)
      (alike name x y (order_cases p q)) (ap (λ k. k.contact) is) (so_far.contacts name past x y xy)
      ∙ sym (pushed there ls l past x y);
}
  where
    live : l.a ≢ l.b
    live same = differ (known.a_is ∙ ap (λ k. get_or places k 0) same ∙ sym known.b_is)

    alike : (name : ℕ → ℕ) (x y : ℕ) → ((min p q ≡ p) × (max p q ≡ q)) ⊎ ((min p q ≡ q) × (max p q ≡ p))
        → is_between x y (edge_by name m) ≡ is_between x y (edge_by (λ k. name (get_or places k 0)) l)
    alike name x y (inl (low, high)) =
        (λ i. is_between x y (edge_by name (is i)))
        ∙ (λ i. are (name (low i)) (name (high i)) x y)
        ∙ (λ i. are (name (known.a_is i)) (name (known.b_is i)) x y)
    alike name x y (inr (low, high)) =
        (λ i. is_between x y (edge_by name (is i)))
        ∙ (λ i. are (name (low i)) (name (high i)) x y)
        ∙ turned_test (name q) (name p) x y
        ∙ (λ i. are (name (known.a_is i)) (name (known.b_is i)) x y)

-- the next link of a list
pub at_moved : (links : List Link) (i : ℕ) (places : List ℕ) (l : Link) → All (IsSlotLink (length places)) links
    → i < length links → l ≡ get_or links i l → AtMoved places l (get_or places l.a 0) (get_or places l.b 0)
at_moved links i places l each below at_i = record {
  is = subst (IsSlotLink (length places)) (sym at_i) (All-get_or (IsSlotLink (length places)) links i l below each);
  a_is = refl;
  b_is = refl;
}

pub more_links : (links : List Link) (i : ℕ) (l : Link) → i < length links → l ≡ get_or links i l
    → take (i + 1) links ≡ take i links ++ l ∷ []
more_links links i l below at_i = take_more links i l below ∙ ap (λ z. take i links ++ z ∷ []) (sym at_i)
