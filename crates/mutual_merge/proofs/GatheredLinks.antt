-- Links between the same two slots, added up.
use Rattle.std.proofs.Common.{◌≡◌, ◌≢◌, ◌⊎◌, inl, inr, ℕ, ◌+◌, ◌<◌, ◌≤◌, ◌==◌, true, false, cond, List, length, get_or, set, refl, sym, ap, ◌∙◌, subst, arith}
use Rattle.std.specs.Prelude.{All}
use Rattle.std.proofs.lemmas.Bool.{cases_eq}
use Rattle.std.proofs.lemmas.Bool.Decides.{nat_tests}
use Rattle.std.proofs.lemmas.List.{length-set, length-map, get_or-map, map-set}
use Rattle.std.proofs.lemmas.List.Sums.{sum_by-set, get_or-le-sum_by}
use Rattle.std.proofs.lemmas.List.Elements.{All-get_or, All-set}
use Rattle.agglo_model.specs.Contacts.{are}
use Rattle.agglo_model.specs.PairOrder.{added, most_edges}
use Rattle.agglo_model.specs.RegionGraph.{is_between, contact_in}
use Rattle.agglo_model.proofs.GraphContacts.{contact_in-is}
use Rattle.mutual_merge.specs.declared.links.Link.{Link}
use Rattle.mutual_merge.specs.Linked.{edge_by, edges_by}
use Rattle.mutual_merge.specs.Merged.{SameContactsBy}
use Rattle.mutual_merge.specs.Slots.{AreGathered, IsKeptOf, IsLive, IsSlotLink, Joins, live_edges, nth_link}
use Rattle.mutual_merge.proofs.MovedEnds.{nth_written, nth_other}
use Rattle.mutual_merge.proofs.MovedLinks.{apart_test, turned_test}
use Rattle.mutual_merge.proofs.WrittenEdges.{IsTakenEdge, joint-taken}

pub gathered_none : (links : List Link) → AreGathered links links
gathered_none links = record {
  one_each = refl;
  inside = λ n all. all;
  same_ends = λ i below live. (refl, refl);
  fewer = omega arith;
  contacts = λ name past x y xy. refl;
}

pub gathered_on : (links mid new : List Link) → AreGathered links mid → AreGathered mid new → AreGathered links new
gathered_on links mid new one other = record {
  one_each = other.one_each ∙ one.one_each;
  inside = λ n all. other.inside n (one.inside n all);
  same_ends = λ i below live.
      let late = other.same_ends i (subst (λ n. i < n) (sym one.one_each) below) live in
      let early = one.same_ends i below (λ same. live (late.0 ∙ same ∙ sym late.1)) in
      (late.0 ∙ early.0, late.1 ∙ early.1);
  fewer = let a = one.fewer in let b = other.fewer in omega arith;
  contacts = λ name past x y xy. other.contacts name past x y xy ∙ one.contacts name past x y xy;
}

-- what is known of two different links that join the same two slots
pub record AreDoubles (links : List Link) (into index : ℕ) (other link : Link) : Type 0 where
  pub apart : into ≢ index
  pub into_inside : into < length links
  pub index_inside : index < length links
  pub other_is : nth_link links into ≡ other
  pub link_is : nth_link links index ≡ link
  pub live : IsLive link
  pub joins : Joins link.a link.b other

-- what is past the end of a list of links
abbrev no_link : Link
no_link = record { a = 0; b = 0; contact = record { sum = 0; count = 1; tie = 0 } }

-- how many edges of the grid a link has, if it is not gone
live_count : Link → ℕ
live_count l = cond (l.a == l.b) 0 l.contact.count

live_counts : (l : Link) → IsLive l → live_count l ≡ l.contact.count
unfolding live_count
live_counts l live = ap (λ b. cond b 0 l.contact.count) (apart l.a l.b live)
  where
    apart : (x y : ℕ) → x ≢ y → (x == y) ≡ false
    apart x y other = grind (arith, nat_tests)

gone_counts : (l : Link) → l.a ≡ l.b → live_count l ≡ 0
unfolding live_count
gone_counts l gone = ap (λ b. cond b 0 l.contact.count) (same l.a l.b gone)
  where
    same : (x y : ℕ) → x ≡ y → (x == y) ≡ true
    same x y is = grind (arith, nat_tests)

counts_written : (links : List Link) (i : ℕ) (l : Link) → i < length links
    → live_edges (set links i l) + live_count (nth_link links i) ≡ live_edges links + live_count l
unfolding live_count
counts_written links i l below =
    sum_by-set live_count links i l no_link below

counts_at : (links : List Link) (i : ℕ) → i < length links → live_count (nth_link links i) ≤ live_edges links
unfolding live_count
counts_at links i below =
    get_or-le-sum_by live_count links i no_link below

joined_live : (j k : ℕ) (l : Link) → j ≢ k → Joins j k l → IsLive l
joined_live j k l apart joins = numbers l.a l.b joins
  where
    numbers : (p q : ℕ) → ((p ≡ j) × (q ≡ k)) ⊎ ((p ≡ k) × (q ≡ j)) → p ≢ q
    numbers p q joins = grind arith

module _ (links : List Link) (into index : ℕ) (other link : Link) (doubles : AreDoubles links into index other link) where
  abbrev both : Link
  both = record other { contact = added other.contact link.contact }

  abbrev gone : Link
  gone = record link { b = link.a }

  -- the links after the one is added to the other
  abbrev written : List Link
  written = set (set links into both) index gone

  other_live : IsLive other
  other_live = joined_live link.a link.b other doubles.live doubles.joins

  apart_back : index ≢ into
  apart_back same = doubles.apart (sym same)

  -- without the link at `index`
  other_after : nth_link (set links index gone) into ≡ other
  other_after = nth_other links index into gone doubles.apart ∙ doubles.other_is

  into_after : into < length (set links index gone)
  into_after = subst (λ n. into < n) (sym (length-set links index gone)) doubles.into_inside

  counts_without : live_edges (set links index gone) + link.contact.count ≡ live_edges links
  counts_without =
      let written = counts_written links index gone doubles.index_inside in
      let old = ap live_count doubles.link_is ∙ live_counts link doubles.live in
      let now = gone_counts gone refl in
      omega arith

  pub doubles_add : other.contact.count + link.contact.count ≤ live_edges links
  doubles_add =
      let without = counts_without in
      let at_into = counts_at (set links index gone) into into_after in
      let old = ap live_count other_after ∙ live_counts other other_live in
      omega arith

  index_after : index < length (set links into both)
  index_after = subst (λ n. index < n) (sym (length-set links into both)) doubles.index_inside

  same_count : live_edges written ≡ live_edges links
  same_count =
      let first = counts_written links into both doubles.into_inside in
      let second = counts_written (set links into both) index gone index_after in
      let old_other = ap live_count doubles.other_is ∙ live_counts other other_live in
      let new_other = live_counts both other_live in
      let old_link = ap live_count (nth_other links into index both apart_back ∙ doubles.link_is) ∙ live_counts link doubles.live in
      let new_link = gone_counts gone refl in
      omega arith

  each_inside : (n : ℕ) → All (IsSlotLink n) links → All (IsSlotLink n) written
  each_inside n all =
      All-set (IsSlotLink n) (set links into both) index gone (record { a_inside = of_link.a_inside; b_inside = of_link.a_inside; touching = of_link.touching })
      (All-set (IsSlotLink n) links into both
      (record { a_inside = of_other.a_inside; b_inside = of_other.b_inside; touching = let t = of_other.touching in omega arith }) all)
    where
      of_link : IsSlotLink n link
      of_link = subst (IsSlotLink n) doubles.link_is
          (All-get_or (IsSlotLink n) links index no_link doubles.index_inside all)

      of_other : IsSlotLink n other
      of_other = subst (IsSlotLink n) doubles.other_is
          (All-get_or (IsSlotLink n) links into no_link doubles.into_inside all)

  gone_after : nth_link written index ≡ gone
  gone_after = nth_written (set links into both) index gone index_after

  both_after : nth_link written into ≡ both
  both_after = nth_other (set links into both) index into gone doubles.apart ∙ nth_written links into both doubles.into_inside

  ends_stay : (i : ℕ) → IsLive (nth_link written i)
      → ((nth_link written i).a ≡ (nth_link links i).a)
      × ((nth_link written i).b ≡ (nth_link links i).b)
  ends_stay i live = elim (cases_eq i index) [
    | inl here ↦ absurd (subst IsLive (ap (nth_link written) here ∙ gone_after) live refl)
    | inr apart ↦ elim (cases_eq i into) [
      | inl here ↦
          let now = ap (nth_link written) here ∙ both_after in
          let old = ap (nth_link links) here ∙ doubles.other_is in
          (ap (λ l. l.a) now ∙ sym (ap (λ l. l.a) old), ap (λ l. l.b) now ∙ sym (ap (λ l. l.b) old))
      | inr elsewhere ↦
          let same = nth_other (set links into both) index i gone apart ∙ nth_other links into i both elsewhere in
          (ap (λ l. l.a) same, ap (λ l. l.b) same)
    ]
  ]

  -- the edges of both links are between the same names
  same_test : (name : ℕ → ℕ) (x y : ℕ) → is_between x y (edge_by name link) ≡ is_between x y (edge_by name other)
  same_test name x y = elim doubles.joins [
    | inl (a, b) ↦ λ i. are (name (sym a i)) (name (sym b i)) x y
    | inr (a, b) ↦ turned_test (name link.a) (name link.b) x y ∙ (λ i. are (name (sym a i)) (name (sym b i)) x y)
  ]

  edges_written : (name : ℕ → ℕ) → edges_by name written
      ≡ set (set (edges_by name links) into (edge_by name both)) index (edge_by name gone)
  edges_written name =
      map-set (edge_by name) (set links into both) index gone
      ∙ ap (λ es. set es index (edge_by name gone)) (map-set (edge_by name) links into both)

  edge_at : (name : ℕ → ℕ) (i : ℕ) (l : Link) → i < length links → nth_link links i ≡ l
      → get_or (edges_by name links) i (edge_by name link) ≡ edge_by name l
  edge_at name i l below is =
      get_or-map (edge_by name) links i no_link (edge_by name link) below
      ∙ ap (edge_by name) is

  edge_taken : (name : ℕ → ℕ) (x y : ℕ) → x ≢ y
      → IsTakenEdge (is_between x y) (edges_by name links) into index (edge_by name both) (edge_by name gone) (edge_by name link)
  edge_taken name x y xy = record {
    apart = doubles.apart;
    into_inside = subst (λ n. into < n) (sym (length-map links (edge_by name))) doubles.into_inside;
    index_inside = subst (λ n. index < n) (sym (length-map links (edge_by name))) doubles.index_inside;
    both_pass = ap (is_between x y) (sym at_into);
    other_pass = ap (is_between x y) at_index ∙ same_test name x y ∙ ap (is_between x y) (sym at_into);
    gone_fails = apart_test (name link.a) (name link.a) x y refl xy;
    sum = λ i. added (sym at_into i).contact (sym at_index i).contact;
  }
    where
      at_into : get_or (edges_by name links) into (edge_by name link) ≡ edge_by name other
      at_into = edge_at name into other doubles.into_inside doubles.other_is

      at_index : get_or (edges_by name links) index (edge_by name link) ≡ edge_by name link
      at_index = edge_at name index link doubles.index_inside doubles.link_is

  same_contacts : (name : ℕ → ℕ) → SameContactsBy name written name links
  same_contacts name past x y xy =
      ap (λ es. contact_in past es x y) (edges_written name)
      ∙ contact_in-is past x y (set (set (edges_by name links) into (edge_by name both)) index (edge_by name gone))
      ∙ joint-taken past (is_between x y) (edges_by name links) into index (edge_by name both) (edge_by name gone) (edge_by name link)
      (edge_taken name x y xy)
      ∙ sym (contact_in-is past x y (edges_by name links))

  pub doubles_gathered : AreGathered links written
  doubles_gathered = record {
    one_each = length-set (set links into both) index gone ∙ length-set links into both;
    inside = each_inside;
    same_ends = λ i below live. ends_stay i live;
    fewer = let same = same_count in omega arith;
    contacts = same_contacts;
  }

  pub doubles_kept : IsKeptOf index into links written
  doubles_kept = record {
    inside = doubles.into_inside;
    others = λ j apart live. elim (cases_eq j index) [
      | inl here ↦ absurd (subst IsLive (ap (nth_link written) here ∙ gone_after) live refl)
      | inr elsewhere ↦ (
        elsewhere,
        nth_other (set links into both) index j gone elsewhere ∙ nth_other links into j both apart,
      )
    ];
  }

pub doubles_within : (links : List Link) (into index : ℕ) (other link : Link) → AreDoubles links into index other link
    → live_edges links ≤ most_edges → other.contact.count + link.contact.count ≤ most_edges
doubles_within links into index other link doubles within =
    let add = doubles_add links into index other link doubles in omega arith

pub gathered_double : (links : List Link) (into index : ℕ) (other link : Link) → AreDoubles links into index other link
    → AreGathered links (set (set links into (record other { contact = added other.contact link.contact })) index (record link { b = link.a }))
gathered_double links into index other link doubles = doubles_gathered links into index other link doubles

pub kept_double : (links : List Link) (into index : ℕ) (other link : Link) → AreDoubles links into index other link
    → IsKeptOf index into links (set (set links into (record other { contact = added other.contact link.contact })) index (record link { b = link.a }))
kept_double links into index other link doubles = doubles_kept links into index other link doubles
