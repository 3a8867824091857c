-- The first link at a hub by its entries.
use Rattle.std.proofs.Common.{◌≡◌, inl, inr, ℕ, ◌<◌, ◌≤◌, ◌/◌, false, List, [], ◌∷◌, ◌++◌, length, get_or, Option, Some, None, refl, sym, ap, ◌∙◌, subst, arith, lit<}
use Rattle.std.specs.Prelude.{Contains, IfNone, IfSome, IsPermutation}
use Rattle.std.specs.BinaryHeap.{IsHeap, IsUpperBound, PopsGreatest}
use Rattle.std.specs.declared.cmp.Ordering.{Ordering}
use Rattle.std.specs.Ordering.{is_lt, nat_cmp, ordering_then}
use Rattle.std.proofs.lemmas.List.Elements.{All-contains, All-from_recursion, Contains-push_cases}
use Rattle.std.proofs.lemmas.List.Sorted.{Contains-permutation, first_le_from_greatest, length_permutation}
use Rattle.agglo_model.specs.PairOrder.{Before}
use Rattle.agglo_model.proofs.Members.{contains_cases, contains_none}
use Rattle.mean_fraction.specs.OrderNumbers.{order_number}
use Rattle.mean_fraction.proofs.OrderNumbers.{number_lt-before}
use Rattle.mutual_merge.specs.declared.hubs.Entry.{Entry}
use Rattle.mutual_merge.specs.declared.links.Link.{Link}
use Rattle.mutual_merge.specs.HubEntries.{entry_cmp}
use Rattle.mutual_merge.specs.Hubs.{IsAmong, IsTrueEntry, TellAll, TellOf, entry_of}
use Rattle.mutual_merge.specs.Slots.{Covers, IsFirstAt, IsLiveAt, nth_link}

-- what is not less by two comparisons is not less by the first
number_le : (a b : ℕ) (o : Ordering) → is_lt (ordering_then (nat_cmp a b) o) ≡ false → b ≤ a
number_le a b o not_less = first_le_from_greatest {Y = ℕ} (λ x y. o) (a, 0) ((b, 0) ∷ []) (not_less, tt) 0 (b, 0) (lit< tt)

-- the top has the greatest number
top_number : (top : Entry) (entries : List Entry) (entry : Entry) → IsUpperBound entry_cmp top entries → Contains entries entry → entry.number ≤ top.number
top_number top entries entry greatest inside =
    number_le top.number entry.number (nat_cmp top.link entry.link)
    (All-contains (λ (e : Entry). is_lt (entry_cmp top e) ≡ false) entries entry
    (All-from_recursion (λ (e : Entry). is_lt (entry_cmp top e) ≡ false) entries greatest) inside)

-- A top that tells what is so tells of the first link.
pub top_is_first : (entries : List Entry) (links : List Link) (slot : ℕ) (top : Entry) → TellAll entries links slot
    → IsUpperBound entry_cmp top entries → IsTrueEntry top links slot → IsFirstAt links slot (Some top.link)
top_is_first entries links slot top tells greatest true = (true.there, true.live, none_before)
  where
    none_before : (j : ℕ) → j < length links → IsLiveAt slot (nth_link links j)
        → ¬ (Before (nth_link links j).contact (nth_link links top.link).contact)
    none_before j below live before =
        let other = tells j below live in
        let own = tells top.link true.there true.live in
        let most : order_number (nth_link links j).contact ≤ top.number = top_number top entries (entry_of j (nth_link links j)) greatest other.entry in
        let is : top.number ≡ order_number (nth_link links top.link).contact = ap (λ (e : Entry). e.number) true.now in
        let above = number_lt-before (nth_link links j).contact (nth_link links top.link).contact other.within own.within before in
        omega (arith, most, is, above)

-- no entries tell of no link
pub none_is_first : (entries : List Entry) (links : List Link) (slot : ℕ) → length entries ≡ 0 → TellAll entries links slot → IsFirstAt links slot None
none_is_first [] links slot none tells i below live = contains_none (entry_of i (nth_link links i)) (tells i below live).entry
none_is_first (entry ∷ entries) links slot none tells i below live = absurd (omega (arith, none))

-- without an entry that tells what is not so the others tell of all links
pub popped_tell : (entries rest : List Entry) (links : List Link) (slot : ℕ) (top : Entry) → IsPermutation entries (top ∷ rest)
    → ¬ (IsTrueEntry top links slot) → TellAll entries links slot → TellAll rest links slot
popped_tell entries rest links slot top popped untrue tells i below live =
    let is = tells i below live in
    elim (contains_cases top (entry_of i (nth_link links i)) rest
    (Contains-permutation entries (top ∷ rest) (entry_of i (nth_link links i)) popped is.entry)) [
      | inl same ↦ absurd (untrue (subst (λ e. IsTrueEntry e links slot) (sym same) (record { there = below; live = live; now = refl })))
      | inr inside ↦ record { entry = inside; within = is.within }
    ]

-- the same of the links of one more item
pub tell_more : (old new : List Entry) (links : List Link) (slot : ℕ) (items : List ℕ) (item : ℕ) → TellOf old links slot items
    → ((entry : Entry) → Contains old entry → Contains new entry)
    → (IsLiveAt slot (nth_link links (item / 2)) → IsAmong new (item / 2) (nth_link links (item / 2)))
    → TellOf new links slot (items ++ item ∷ [])
tell_more old new links slot items item tell more last j inside live =
    elim (Contains-push_cases items item j inside) [
      | inl before ↦
          let is = tell j before live in
          record { entry = more (entry_of (j / 2) (nth_link links (j / 2))) is.entry; within = is.within }
      | inr same ↦
          subst (λ k. IsAmong new (k / 2) (nth_link links (k / 2))) same
          (last (subst (λ k. IsLiveAt slot (nth_link links (k / 2))) (sym same) live))
    ]

-- entries of items that cover the links at a slot tell of them all
pub tell_all : (entries : List Entry) (links : List Link) (slot : ℕ) (items : List ℕ) → Covers items links slot → TellOf entries links slot items
    → TellAll entries links slot
tell_all entries links slot items covers tell i below live =
    let (j, inside, half) = covers i below live in
    subst (λ k. IsAmong entries k (nth_link links k)) half
    (tell j inside (subst (λ k. IsLiveAt slot (nth_link links k)) (sym half) live))

-- entries in another order tell of the same links
pub tell_permuted : (xs ys : List Entry) (links : List Link) (slot : ℕ) → IsPermutation xs ys → TellAll xs links slot → TellAll ys links slot
tell_permuted xs ys links slot same tells i below live =
    let is = tells i below live in
    record { entry = Contains-permutation xs ys (entry_of i (nth_link links i)) same is.entry; within = is.within }

-- What is left of a heap whose top was popped is a heap, and tells of all links if the top was no true entry.
pub record IsPopped (entries rest : List Entry) (links : List Link) (slot : ℕ) : Type 0 where
  pub ordered : IsHeap entry_cmp rest
  pub tells : TellAll rest links slot

pub popped_left : (popped : Option Entry) (count : ℕ) (entries rest : List Entry) (links : List Link) (slot : ℕ) (top : Entry) → 0 < count
    → top ≡ get_or entries 0 top → IfNone popped (count ≡ 0) → IfSome popped (λ x. x ≡ get_or entries 0 x)
    → IfSome popped (λ x. IsPermutation entries (x ∷ rest)) → IfSome popped (λ x. PopsGreatest entry_cmp entries x rest)
    → ¬ (IsTrueEntry top links slot) → IsHeap entry_cmp entries → TellAll entries links slot → IsPopped entries rest links slot
popped_left None count entries rest links slot top some read none is moved ordered untrue heap tells = absurd (omega (arith, some, none))
popped_left (Some x) count [] rest links slot top some read none is moved ordered untrue heap tells =
    absurd (omega (arith, length_permutation [] (x ∷ rest) moved))
popped_left (Some x) count (y ∷ ys) rest links slot top some read none is moved ordered untrue heap tells = record {
  ordered = (ordered heap).0;
  tells =
      popped_tell (y ∷ ys) rest links slot x moved
      (λ true. untrue (subst (λ e. IsTrueEntry e links slot) (is ∙ sym read) true)) tells;
}
