-- A pair of slots that no other link joins.
use Rattle.std.proofs.Common.{◌≡◌, ◌≢◌, inl, inr, ℕ, ◌<◌, ◌/◌, List, length, sym, ◌∙◌, subst}
use Rattle.std.specs.Prelude.{Contains}
use Rattle.mutual_merge.specs.declared.links.Link.{Link}
use Rattle.mutual_merge.specs.Slots.{Covers, IsLiveAt, IsSlotLink, Joins, nth_link, other_end}
use Rattle.mutual_merge.proofs.FirstPair.{ends_of}

-- a link that joins the two slots of one at a slot is live there too
live_at_too : (k : ℕ) (l m : Link) → IsLiveAt k l → Joins l.a l.b m → IsLiveAt k m
live_at_too k l m at (inl (a, b)) = record {
  live = λ same. at.live (sym a ∙ same ∙ b);
  at_slot = elim at.at_slot [ inl is ↦ inl (a ∙ is) | inr is ↦ inr (b ∙ is) ];
}
live_at_too k l m at (inr (a, b)) = record {
  live = λ same. at.live (sym b ∙ sym same ∙ a);
  at_slot = elim at.at_slot [ inl is ↦ inr (b ∙ is) | inr is ↦ inl (a ∙ is) ];
}

-- the items of one slot's links show that no other link joins the same two slots
pub single_by : (links : List Link) (items : List ℕ) (index k : ℕ) → IsLiveAt k (nth_link links index) → Covers items links k
    → ((j : ℕ) → Contains items j → Joins (nth_link links index).a (nth_link links index).b (nth_link links (j / 2)) → j / 2 ≡ index)
    → (j : ℕ) → j < length links → Joins (nth_link links index).a (nth_link links index).b (nth_link links j) → j ≡ index
single_by links items index k at covers alone j below joins =
    let found = covers j below (live_at_too k (nth_link links index) (nth_link links j) at joins) in
    sym found.2 ∙ alone found.0 found.1
    (subst (λ m. Joins (nth_link links index).a (nth_link links index).b (nth_link links m)) (sym found.2) joins)

-- a link's slot is one of those that there are, and its other slot is another one
pub inside_at : (n k : ℕ) (l : Link) → IsLiveAt k l → IsSlotLink n l → k < n
inside_at n k l at is = elim at.at_slot [
  | inl same ↦ subst (λ s. s < n) same is.a_inside
  | inr same ↦ subst (λ s. s < n) same is.b_inside
]

pub apart_other : (k : ℕ) (l : Link) → IsLiveAt k l → k ≢ other_end k l
apart_other k l at same = elim (ends_of k l at) [
  | inl (a, b) ↦ at.live (a ∙ same ∙ sym b)
  | inr (a, b) ↦ at.live (a ∙ sym same ∙ sym b)
]
