-- Hubs stay ready: of each live link at a hub there is an entry.
use Rattle.std.proofs.Common.{◌≡◌, ◌≢◌, ◌⊎◌, inl, inr, ℕ, ◌+◌, ◌<◌, ◌≤◌, List, [], ◌∷◌, ◌++◌, length, get_or, set, sym, ap, ◌∙◌, subst, arith, Vec, Global}
use Rattle.std.specs.Prelude.{Contains, IsPermutation}
use Rattle.std.proofs.lemmas.Bool.{cases_eq, cases_lt}
use Rattle.std.proofs.lemmas.List.{get_or-set_other, get_or-set_same, get_or_append_left, get_or_past, get_or_read, length-append, length-set}
use Rattle.std.proofs.lemmas.List.Sorted.{Contains-permutation}
use Rattle.std.proofs.Math.Seq.{get_or-append_seam}
use Rattle.agglo_model.specs.PairOrder.{IsWithinLimits}
use Rattle.agglo_model.proofs.Members.{contains_cases, contains_head, contains_tail}
use Rattle.mutual_merge.specs.declared.hubs.Entry.{Entry}
use Rattle.mutual_merge.specs.declared.hubs.Hubs.{Hubs}
use Rattle.mutual_merge.specs.declared.hubs.TheConstants.{NONE}
use Rattle.mutual_merge.specs.declared.links.Link.{Link}
use Rattle.mutual_merge.specs.HubEntries.{HubEntries}
use Rattle.mutual_merge.specs.Hubs.{AreReady, AreReadyBut, HasGained, HasSameEntries, IsAmong, IsHub, TellAll, entries_at, entry_of, nth_hub, number_at}
use Rattle.mutual_merge.specs.Slots.{IsLiveAt, nth_link}

-- what is past the end of a list of hubs
abbrev no_hub : HubEntries
no_hub = record { slot = 0; entries = [] }

-- the hub that a read of this number gives
pub read_hub : (hubs : Hubs) (number : ℕ) (hub : HubEntries) → number < length hubs.hubs.items → hub ≡ get_or hubs.hubs.items number hub
    → nth_hub hubs number ≡ hub
read_hub hubs number hub there read = sym (get_or_read hubs.hubs.items number hub there read no_hub)

-- a number that is that of a hub is one of those that there are
pub number_inside : (hubs : Hubs) (number k : ℕ) → number ≡ number_at hubs k → IsHub hubs k → number < length hubs.hubs.items
number_inside hubs number k at is = subst (λ n. n < length hubs.hubs.items) (sym at) is.there

-- One hub was written, for the same slot.
pub record HasWritten (number : ℕ) (hub : HubEntries) (old new : Hubs) : Type 0 where
  pub numbers_stay : new.numbers.items ≡ old.numbers.items
  pub hubs_are : new.hubs.items ≡ set old.hubs.items number hub
  pub there : number < length old.hubs.items
  pub same_slot : hub.slot ≡ (nth_hub old number).slot

module _ (number : ℕ) (hub : HubEntries) (old new : Hubs) (written : HasWritten number hub old new) where
  same_numbers : (k : ℕ) → number_at new k ≡ number_at old k
  same_numbers k = ap (λ ns. get_or ns k NONE) written.numbers_stay

  as_many : length new.hubs.items ≡ length old.hubs.items
  as_many = ap length written.hubs_are ∙ length-set old.hubs.items number hub

  pub hub_is : nth_hub new number ≡ hub
  hub_is = ap (λ hs. get_or hs number no_hub) written.hubs_are ∙ get_or-set_same old.hubs.items number hub no_hub written.there

  pub others_stay : (h : ℕ) → h ≢ number → nth_hub new h ≡ nth_hub old h
  others_stay h other = ap (λ hs. get_or hs h no_hub) written.hubs_are ∙ get_or-set_other old.hubs.items number h hub no_hub other

  slots_stay : (h : ℕ) → (nth_hub new h).slot ≡ (nth_hub old h).slot
  slots_stay h = elim (cases_eq h number) [
    | inl same ↦
        ap (λ n. (nth_hub new n).slot) same ∙ ap (λ (b : HubEntries). b.slot) hub_is ∙ written.same_slot
        ∙ ap (λ n. (nth_hub old n).slot) (sym same)
    | inr other ↦ ap (λ (b : HubEntries). b.slot) (others_stay h other)
  ]

  own_stays : (k : ℕ) → (nth_hub new (number_at new k)).slot ≡ (nth_hub old (number_at old k)).slot
  own_stays k = slots_stay (number_at new k) ∙ ap (λ n. (nth_hub old n).slot) (same_numbers k)

  pub was_hub : (k : ℕ) → IsHub new k → IsHub old k
  was_hub k is = record {
    numbered = subst (λ n. n ≢ NONE) (same_numbers k) is.numbered;
    there = subst (λ n. n < length old.hubs.items) (same_numbers k) (subst (λ n. number_at new k < n) as_many is.there);
    own = sym (own_stays k) ∙ is.own;
  }

  pub is_hub : (k : ℕ) → IsHub old k → IsHub new k
  is_hub k was = record {
    numbered = subst (λ n. n ≢ NONE) (sym (same_numbers k)) was.numbered;
    there = subst (λ n. n < length new.hubs.items) (sym (same_numbers k)) (subst (λ n. number_at old k < n) (sym as_many) was.there);
    own = own_stays k ∙ was.own;
  }

  -- the entries at a slot are those of the written hub, or stay
  pub entries_cases : (k : ℕ) → ((number_at old k ≡ number) × (entries_at new k ≡ hub.entries))
      ⊎ ((number_at old k ≢ number) × (entries_at new k ≡ entries_at old k))
  entries_cases k = elim (cases_eq (number_at old k) number) [
    | inl same ↦ inl (
      same,
      ap (λ n. (nth_hub new n).entries) (same_numbers k ∙ same) ∙ ap (λ (b : HubEntries). b.entries) hub_is,
    )
    | inr other ↦ inr (
      other,
      ap (λ n. (nth_hub new n).entries) (same_numbers k) ∙ ap (λ (b : HubEntries). b.entries) (others_stay (number_at old k) other),
    )
  ]

-- entries of the same link among more
among_more : (xs ys : List Entry) (i : ℕ) (l : Link) → (Contains xs (entry_of i l) → Contains ys (entry_of i l)) → IsAmong xs i l → IsAmong ys i l
among_more xs ys i l more is = record { entry = more is.entry; within = is.within }

-- a hub that was written with one more entry has gained it
pub gained_entry : (slot i number : ℕ) (l : Link) (hub : HubEntries) (old new : Hubs) → HasWritten number hub old new
    → number ≡ number_at old slot → IsPermutation (entry_of i l ∷ (nth_hub old number).entries) hub.entries → IsWithinLimits l.contact
    → HasGained slot i l old new
gained_entry slot i number l hub old new written at pushed within = record {
  same_hubs = λ k. (was_hub number hub old new written k, is_hub number hub old new written k);
  kept = λ k entry has. elim (entries_cases number hub old new written k) [
    | inl (same, are) ↦
        subst (λ es. Contains es entry) (sym are)
        (Contains-permutation (entry_of i l ∷ (nth_hub old number).entries) hub.entries entry pushed
        (contains_tail (entry_of i l) entry (nth_hub old number).entries (subst (λ n. Contains (nth_hub old n).entries entry) same has)))
    | inr (other, are) ↦ subst (λ es. Contains es entry) (sym are) has
  ];
  gained = λ is. elim (entries_cases number hub old new written slot) [
    | inl (same, are) ↦ record {
      entry =
          subst (λ es. Contains es (entry_of i l)) (sym are)
          (Contains-permutation (entry_of i l ∷ (nth_hub old number).entries) hub.entries (entry_of i l) pushed
          (contains_head (entry_of i l) (nth_hub old number).entries));
      within = within;
    }
    | inr (other, are) ↦ absurd (other (sym at))
  ];
}

-- nothing is gained at a slot that is no hub
pub gained_nothing : (slot i : ℕ) (l : Link) (hubs : Hubs) → (IsHub hubs slot → ⊥) → HasGained slot i l hubs hubs
gained_nothing slot i l hubs none = record {
  same_hubs = λ k. (λ is. is, λ is. is);
  kept = λ k entry has. has;
  gained = λ is. absurd (none is);
}

kept_among : (slot i j k : ℕ) (l m : Link) (old new : Hubs) → HasGained slot i l old new → IsAmong (entries_at old k) j m → IsAmong (entries_at new k) j m
kept_among slot i j k l m old new gained is =
    among_more (entries_at old k) (entries_at new k) j m (gained.kept k (entry_of j m)) is

pub gained_ready : (links : List Link) (slot i : ℕ) (l : Link) (old new : Hubs) → HasGained slot i l old new → AreReady links old → AreReady links new
gained_ready links slot i l old new gained ready k is j below live =
    kept_among slot i j k l (nth_link links j) old new gained (ready k ((gained.same_hubs k).0 is) j below live)

-- after both slots of a link have gained its entry, it is one of those that are ready
pub gained_both : (links : List Link) (i : ℕ) (l : Link) (old mid new : Hubs) (rest : List ℕ) → nth_link links i ≡ l
    → HasGained l.a i l old mid → HasGained l.b i l mid new → AreReadyBut links old (i ∷ rest) → AreReadyBut links new rest
gained_both links i l old mid new rest read first second ready k j is below out live =
    elim (cases_eq j i) [
      | inl same ↦
          subst (λ n. IsAmong (entries_at new k) n (nth_link links n)) (sym same)
          (subst (λ m. IsAmong (entries_at new k) i m) (sym read) (by_end (subst (IsLiveAt k) (ap (nth_link links) same ∙ read) live).at_slot))
      | inr other ↦
          kept_among l.b i j k l (nth_link links j) mid new second
          (kept_among l.a i j k l (nth_link links j) old mid first
          (ready k j ((first.same_hubs k).0 in_mid) below (λ inside. elim (contains_cases i j rest inside) [
            | inl head ↦ other (sym head)
            | inr tail ↦ out tail
          ]) live))
    ]
  where
    in_mid : IsHub mid k
    in_mid = (second.same_hubs k).0 is

    by_end : (l.a ≡ k) ⊎ (l.b ≡ k) → IsAmong (entries_at new k) i l
    by_end (inl at) =
        kept_among l.b i i k l l mid new second
        (subst (λ n. IsAmong (entries_at mid n) i l) at (first.gained (subst (IsHub mid) (sym at) in_mid)))
    by_end (inr at) = subst (λ n. IsAmong (entries_at new n) i l) at (second.gained (subst (IsHub new) (sym at) is))

-- a hub that was written with entries that tell of all its links leaves all ready
pub written_ready : (links : List Link) (number : ℕ) (hub : HubEntries) (old new : Hubs) → HasWritten number hub old new
    → TellAll hub.entries links hub.slot → AreReady links old → AreReady links new
written_ready links number hub old new written tells ready k is =
    elim (entries_cases number hub old new written k) [
      | inl (same, are) ↦
          subst (λ es. TellAll es links k) (sym are)
          (subst (λ n. TellAll hub.entries links n) (written.same_slot ∙ ap (λ n. (nth_hub old n).slot) (sym same) ∙ was.own) tells)
      | inr (other, are) ↦ subst (λ es. TellAll es links k) (sym are) (ready k was)
    ]
  where
    was : IsHub old k
    was = was_hub number hub old new written k is

-- One more hub, for this slot, whose number it has now, if it has any.
pub record HasRaised (slot : ℕ) (hub : HubEntries) (old new : Hubs) : Type 0 where
  pub hubs_are : new.hubs.items ≡ old.hubs.items ++ hub ∷ []
  pub own : hub.slot ≡ slot
  pub others_stay : (k : ℕ) → k ≢ slot → number_at new k ≡ number_at old k
  pub number_is : number_at new slot ≢ NONE → number_at new slot ≡ length old.hubs.items

module _ (slot : ℕ) (hub : HubEntries) (old new : Hubs) (raised : HasRaised slot hub old new) where
  last_hub : nth_hub new (length old.hubs.items) ≡ hub
  last_hub = ap (λ hs. get_or hs (length old.hubs.items) no_hub) raised.hubs_are ∙ get_or-append_seam old.hubs.items hub [] no_hub

  early_hub : (h : ℕ) → h < length old.hubs.items → nth_hub new h ≡ nth_hub old h
  early_hub h below = ap (λ hs. get_or hs h no_hub) raised.hubs_are ∙ get_or_append_left old.hubs.items (hub ∷ []) no_hub h below

  -- the number of another slot is not that of the new hub
  old_number : (k : ℕ) → k ≢ slot → IsHub new k → number_at old k < length old.hubs.items
  old_number k other is = elim (cases_lt (number_at old k) (length old.hubs.items)) [
    | inl below ↦ below
    | inr past ↦
        let bound : number_at old k < length (old.hubs.items ++ hub ∷ []) =
        subst (λ n. n < length (old.hubs.items ++ hub ∷ [])) (raised.others_stay k other) (subst (λ hs. number_at new k < length hs) raised.hubs_are is.there) in
        let long : length (old.hubs.items ++ hub ∷ []) ≡ length old.hubs.items + 1 = length-append old.hubs.items (hub ∷ []) in
        let at : number_at new k ≡ length old.hubs.items = raised.others_stay k other ∙ omega (arith, bound, long, past) in
        absurd (other (sym is.own ∙ ap (λ n. (nth_hub new n).slot) at ∙ ap (λ (b : HubEntries). b.slot) last_hub ∙ raised.own))
  ]

  pub raised_ready : (links : List Link) → TellAll hub.entries links slot → AreReady links old → AreReady links new
  raised_ready links tells ready k is = elim (cases_eq k slot) [
    | inl same ↦
        let at : number_at new k ≡ length old.hubs.items = ap (number_at new) same ∙ raised.number_is (subst (λ n. number_at new n ≢ NONE) same is.numbered) in
        subst (λ es. TellAll es links k) (sym (ap (λ n. (nth_hub new n).entries) at ∙ ap (λ (b : HubEntries). b.entries) last_hub))
        (subst (λ n. TellAll hub.entries links n) (sym same) tells)
    | inr other ↦
        let below = old_number k other is in
        let at = raised.others_stay k other in
        let same : nth_hub new (number_at new k) ≡ nth_hub old (number_at old k) = ap (nth_hub new) at ∙ early_hub (number_at old k) below in
        subst (λ es. TellAll es links k) (sym (ap (λ (b : HubEntries). b.entries) same))
        (ready k (record {
          numbered = subst (λ n. n ≢ NONE) at is.numbered;
          there = below;
          own = sym (ap (λ (b : HubEntries). b.slot) same) ∙ is.own;
        }))
  ]

-- The hub of a slot was written, and the slot has no number now.
pub record HasClosed (slot number : ℕ) (hub : HubEntries) (old new : Hubs) : Type 0 where
  pub numbers_are : new.numbers.items ≡ set old.numbers.items slot NONE
  pub hubs_are : new.hubs.items ≡ set old.hubs.items number hub
  pub slot_there : slot < length old.numbers.items
  pub there : number < length old.hubs.items
  pub own : hub.slot ≡ slot

pub closed_ready : (links : List Link) (slot number : ℕ) (hub : HubEntries) (old new : Hubs) → HasClosed slot number hub old new
    → AreReady links old → AreReady links new
closed_ready links slot number hub old new closed ready k is = elim (cases_eq k slot) [
  | inl same ↦
      absurd (is.numbered (ap (number_at new) same ∙ ap (λ ns. get_or ns slot NONE) closed.numbers_are
      ∙ get_or-set_same old.numbers.items slot NONE NONE closed.slot_there))
  | inr other ↦ by_number other (cases_eq (number_at old k) number)
]
  where
    by_number : k ≢ slot → (number_at old k ≡ number) ⊎ (number_at old k ≢ number) → TellAll (entries_at new k) links k
    by_number other at =
        let same_number : number_at new k ≡ number_at old k =
        ap (λ ns. get_or ns k NONE) closed.numbers_are ∙ get_or-set_other old.numbers.items slot k NONE NONE other in
        elim at [
          | inl same ↦
              absurd (other (sym is.own ∙ ap (λ n. (nth_hub new n).slot) (same_number ∙ same)
              ∙ ap (λ hs. (get_or hs number no_hub).slot) closed.hubs_are
              ∙ ap (λ (b : HubEntries). b.slot) (get_or-set_same old.hubs.items number hub no_hub closed.there) ∙ closed.own))
          | inr apart ↦
              let stays : nth_hub new (number_at new k) ≡ nth_hub old (number_at old k) =
              ap (nth_hub new) same_number ∙ ap (λ hs. get_or hs (number_at old k) no_hub) closed.hubs_are
              ∙ get_or-set_other old.hubs.items number (number_at old k) hub no_hub apart in
              subst (λ (b : HubEntries). TellAll b.entries links k) (sym stays)
              (ready k (record {
                numbered = subst (λ n. n ≢ NONE) same_number is.numbered;
                there =
                    subst (λ n. n < length old.hubs.items) same_number
                    (subst (λ n. number_at new k < n) (ap length closed.hubs_are ∙ length-set old.hubs.items number hub) is.there);
                own = sym (ap (λ (b : HubEntries). b.slot) stays) ∙ is.own;
              }))
        ]

-- a slot past the end has no number
pub past_numbers : (hubs : Hubs) (k : ℕ) → length hubs.numbers.items ≤ k → number_at hubs k ≡ NONE
past_numbers hubs k past = get_or_past hubs.numbers.items k NONE past

pub hub_inside : (hubs : Hubs) (k : ℕ) → IsHub hubs k → k < length hubs.numbers.items
hub_inside hubs k is = elim (cases_lt k (length hubs.numbers.items)) [
  | inl below ↦ below
  | inr past ↦ absurd (is.numbered (past_numbers hubs k past))
]

-- what is ready stays so while the entries do
pub same_ready : (links : List Link) (old new : Hubs) → HasSameEntries old new → AreReady links old → AreReady links new
same_ready links old new same ready k is =
    subst (λ es. TellAll es links k) (sym (entries_stay (number_at new k) ∙ ap (λ n. (nth_hub old n).entries) (number_stays k)))
    (ready k (record {
      numbered = subst (λ n. n ≢ NONE) (number_stays k) is.numbered;
      there =
          subst (λ n. n < length old.hubs.items) (number_stays k)
          (subst (λ n. number_at new k < n) (ap (λ (hs : Vec HubEntries Global). length hs.items) same.hubs_stay) is.there);
      own = ap (λ n. (nth_hub old n).slot) (sym (number_stays k)) ∙ sym (slot_stays (number_at new k)) ∙ is.own;
    }))
  where
    number_stays : (j : ℕ) → number_at new j ≡ number_at old j
    number_stays j = ap (λ (ns : Vec ℕ Global). get_or ns.items j NONE) same.numbers_stay

    entries_stay : (h : ℕ) → (nth_hub new h).entries ≡ (nth_hub old h).entries
    entries_stay h = ap (λ (hs : Vec HubEntries Global). (get_or hs.items h no_hub).entries) same.hubs_stay

    slot_stays : (h : ℕ) → (nth_hub new h).slot ≡ (nth_hub old h).slot
    slot_stays h = ap (λ (hs : Vec HubEntries Global). (get_or hs.items h no_hub).slot) same.hubs_stay
