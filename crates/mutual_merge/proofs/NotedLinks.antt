-- Entries of hubs while links move and are added up: of a link that was changed nothing is told until it is noted.
use Rattle.std.proofs.Common.{◌≡◌, ◌≢◌, inl, inr, ℕ, ◌<◌, ◌/◌, List, [], ◌∷◌, length, sym, ◌∙◌, subst}
use Rattle.std.specs.Prelude.{Contains}
use Rattle.std.proofs.lemmas.Bool.{cases_eq}
use Rattle.agglo_model.proofs.Members.{Contains-map, contains_cases, contains_head, contains_none, contains_tail}
use Rattle.mutual_merge.specs.declared.hubs.Hubs.{Hubs}
use Rattle.mutual_merge.specs.declared.links.Link.{Link}
use Rattle.mutual_merge.specs.Hubs.{AreReady, AreReadyBut, IsAmong, entries_at, links_of}
use Rattle.mutual_merge.specs.Slots.{Covers, HaveMovedEnds, IsKeptOf, IsLiveAt, nth_link}
use Rattle.mutual_merge.proofs.ListedSlots.{after_elsewhere}

pub none_changed : (links : List Link) (hubs : Hubs) → AreReadyBut links hubs [] → AreReady links hubs
none_changed links hubs ready k hub i below at = ready k i hub below (contains_none i) at

-- where links at one slot moved, those of other items are as they were
pub ready_moved : (items : List ℕ) (from to : ℕ) (links new : List Link) (hubs : Hubs) → Covers items links from
    → HaveMovedEnds from to links new → AreReady links hubs → AreReadyBut new hubs (links_of items)
ready_moved items from to links new hubs covers moved ready k i hub below out at =
    subst (IsAmong (entries_at hubs k) i) (sym same) (ready k hub i low (subst (IsLiveAt k) same at))
  where
    low : i < length links
    low = subst (λ n. i < n) moved.one_each below

    elsewhere : ¬ (IsLiveAt from (nth_link links i))
    elsewhere at_from =
        let item = covers i low at_from in
        out (subst (Contains (links_of items)) item.2 (Contains-map (λ j. j / 2) items item.0 item.1))

    same : nth_link new i ≡ nth_link links i
    same = elim (cases_eq (nth_link links i).a (nth_link links i).b) [
      | inl gone ↦ moved.gone i low (λ live. live gone)
      | inr live ↦ moved.live i low live ∙ after_elsewhere from to (nth_link links i)
          (λ a. elsewhere (record { live = live; at_slot = inl a }))
          (λ b. elsewhere (record { live = live; at_slot = inr b }))
    ]

-- where a link was added to another one, that one is to be noted in its place
pub ready_kept : (links new : List Link) (hubs : Hubs) (index kept : ℕ) (rest : List ℕ) → length new ≡ length links
    → IsKeptOf index kept links new → AreReadyBut links hubs (index ∷ rest) → AreReadyBut new hubs (kept ∷ rest)
ready_kept links new hubs index kept rest long is ready k i hub below out at =
    subst (IsAmong (entries_at hubs k) i) (sym was.1)
    (ready k i hub (subst (λ n. i < n) long below) outside (subst (IsLiveAt k) was.1 at))
  where
    was : (i ≢ index) × (nth_link new i ≡ nth_link links i)
    was = is.others i (λ same. out (subst (Contains (kept ∷ rest)) (sym same) (contains_head kept rest))) at.live

    outside : ¬ (Contains (index ∷ rest) i)
    outside inside = elim (contains_cases index i rest inside) [
      | inl same ↦ was.0 (sym same)
      | inr later ↦ out (contains_tail kept i rest later)
    ]
