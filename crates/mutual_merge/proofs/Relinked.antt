-- Links moved to other places, sorted and added up.
use Rattle.std.proofs.Common.{◌≡◌, ◌⊎◌, ℕ, ◌+◌, ◌*◌, ◌^◌, ◌<◌, ◌≤◌, Bool, true, false, cond, eqb, List, [], ◌∷◌, get_or, sym, ◌∙◌, arith}
use Rattle.std.specs.Prelude.{All, AllPairs, IsPermutation}
use Rattle.std.specs.List.Sorted.{IsNonDecreasingBy}
use Rattle.std.proofs.lemmas.List.Sorted.{IsPermutation-map, sum_by-IsPermutation, All-permutation}
use Rattle.std.proofs.lemmas.List.Sums.{sum_by-cons}
use Rattle.std.proofs.lemmas.List.Elements.{All-get_or}
use Rattle.agglo_model.specs.RegionGraph.{is_between, contact_in}
use Rattle.agglo_model.proofs.GraphContacts.{contact_in-is, joint-permutation}
use Rattle.mutual_merge.specs.declared.links.Link.{Link}
use Rattle.mutual_merge.specs.Linked.{AreLinks, IsLink, edge_by, edges_by, link_edges}
use Rattle.mutual_merge.specs.Merged.{AreJoined, NoLater, key_of}
use Rattle.mutual_merge.specs.Moved.{AreMoved, AreRelinked}
use Rattle.mutual_merge.specs.Slots.{AreSlotLinks, live_edges}

-- links that are live are no more than all of them
pub live_edges-le : (links : List Link) → live_edges links ≤ link_edges links
live_edges-le [] = omega arith
live_edges-le (l ∷ links) =
    let rest = live_edges-le links in
    let s = sum_by-cons (λ m. cond (eqb m.a m.b) 0 m.contact.count) l links in
    let t = sum_by-cons (λ m. m.contact.count) l links in
    let here = at_most (eqb l.a l.b) l.contact.count in
    omega arith
  where
    at_most : (b : Bool) (n : ℕ) → cond b 0 n ≤ n
    at_most true n = omega arith
    at_most false n = omega arith

-- links that join places in order join two of so many slots
pub AreSlotLinks-from_links : (n : ℕ) (links : List Link) → AreLinks n links → AreSlotLinks n links
AreSlotLinks-from_links n links are = record {
  each = λ k d below.
      let is = All-get_or (IsLink n) links k d below are.each in
      let up = is.ordered in
      let low = is.inside in
      record { a_inside = omega arith; b_inside = low; touching = is.touching };
  within = let few = live_edges-le links in let within = are.within in omega arith;
}

-- links by ascending number stand in order, since places fit 32 bits
pub NoLater-from_keys : (n : ℕ) (ls : List Link) → n ≤ 2 ^ 32 → All (IsLink n) ls → IsNonDecreasingBy key_of ls → AllPairs NoLater ls
NoLater-from_keys n ls fit each sorted i j d before below =
    let one = All-get_or (IsLink n) ls i d (omega arith) each in
    let other = All-get_or (IsLink n) ls j d below each in
    let low = one.inside in
    let high = other.inside in
    numbers (get_or ls i d).a (get_or ls i d).b (get_or ls j d).a (get_or ls j d).b (omega arith) (omega arith)
    (sorted i j d (omega arith) below)
  where
    numbers : (a b x y : ℕ) → b < 4294967296 → y < 4294967296 → 4294967296 * a + b ≤ 4294967296 * x + y → (a < x) ⊎ ((a ≡ x) × (b ≤ y))
    numbers a b x y low high keys = grind arith

sorted_contacts : (name : ℕ → ℕ) (moved sorted : List Link) (past x y : ℕ) → IsPermutation moved sorted
    → contact_in past (edges_by name sorted) x y ≡ contact_in past (edges_by name moved) x y
sorted_contacts name moved sorted past x y order =
    contact_in-is past x y (edges_by name sorted)
    ∙ joint-permutation past (is_between x y) (edges_by name moved) (edges_by name sorted)
    (IsPermutation-map (edge_by name) moved sorted order)
    ∙ sym (contact_in-is past x y (edges_by name moved))

pub AreMoved-sorted : (links : List Link) (places : List ℕ) (moved sorted : List Link) → AreMoved links places moved
    → IsPermutation moved sorted → AreMoved links places sorted
AreMoved-sorted links places moved sorted are order = record {
  each = λ n below. All-permutation (IsLink n) moved sorted order (are.each n below);
  within = let s = sum_by-IsPermutation (λ (l : Link). l.contact.count) moved sorted order in let w = are.within in omega arith;
  contacts = λ name past x y xy. sorted_contacts name moved sorted past x y order ∙ are.contacts name past x y xy;
}

pub AreRelinked-from : (links : List Link) (places : List ℕ) (sorted joined : List Link) → AreMoved links places sorted
    → AreJoined sorted joined → AreRelinked links places joined
AreRelinked-from links places sorted joined are are_joined = record {
  moved = record {
    each = λ n below. are_joined.each n (are.each n below);
    within = let e = are_joined.edges in let w = are.within in omega arith;
    contacts = λ name past x y xy. are_joined.contacts name past x y xy ∙ are.contacts name past x y xy;
  };
  ascend = are_joined.ascend;
}
