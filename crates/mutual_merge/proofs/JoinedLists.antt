-- Lists of merges, one for each group of regions, and the parts that they settle.
use Rattle.std.proofs.Common.{◌≡◌, ◌≢◌, ℕ, zero, suc, ◌+◌, ◌<◌, List, [], ◌∷◌, ◌++◌, Ok, Result, Vec, IfOk, length, get_or, All, flat_map, map, refl, sym, ap, ◌∙◌, subst, arith}
use Rattle.std.specs.Prelude.{slice_index}
use Rattle.std.specs.List.{AllZip}
use Rattle.std.proofs.lemmas.Grind.{flat_map-append}
use Rattle.std.proofs.lemmas.List.{append-nil, get_or-map, length-map, map-append}
use Rattle.std.proofs.lemmas.List.Elements.{Contains-get_or}
use Rattle.agglo_model.specs.PairOrder.{Threshold}
use Rattle.agglo_model.specs.Greedy.{Merge}
use Rattle.agglo_model.specs.RegionGraph.{Region, RegionGraph}
use Rattle.agglo_model.specs.Settling.{Settles}
use Rattle.mutual_merge.specs.declared.links.Link.{Link}
use Rattle.mutual_merge.specs.Linked.{AreLinked, Ascend, graph_of}
use Rattle.mutual_merge.specs.Parts.{AreApart, AreGroups, AreListsJoined, AreParts, IsGroup, SettlesFree, SettlesGroup, no_graph}
use Rattle.mutual_merge.proofs.PairRounds.{linked_graph}
use Rattle.mutual_merge.proofs.PartsSettled.{parts_settle}
use Rattle.mutual_merge.proofs.RegionPlaces.{region_place, same_place}

-- one list more
pub lists_more : {E A : Type 0} (lists : List (Result (Vec Merge A) E)) (merges : List Merge) (list : Vec Merge A)
    → AreListsJoined lists merges → AreListsJoined (lists ++ Ok list ∷ []) (merges ++ list.items)
lists_more {A = A} lists merges list (there, all, joined) = (
  there ++ list ∷ [],
  ap (λ l. l ++ Ok list ∷ []) all ∙ sym (map-append Ok there (list ∷ [])),
  ap (λ m. m ++ list.items) joined
      ∙ ap (λ m. flat_map (λ (l : Vec Merge A). l.items) there ++ m) (sym (append-nil list.items))
      ∙ sym (flat_map-append (λ (l : Vec Merge A). l.items) there (list ∷ [])),
)

module _ (t : Threshold) (regions : List Region) (links : List Link) (groups : List ℕ) where
  -- these are the parts of the groups from `first` on
  abbrev pub AreOfGroups : ℕ → List RegionGraph → Type 0
  AreOfGroups first parts = (i : ℕ) (d : RegionGraph) → i < length parts → IsGroup t regions links groups (first + i) (get_or parts i d)

  one_more : (first : ℕ) (part : RegionGraph) (parts : List RegionGraph) → IsGroup t regions links groups first part
      → AreOfGroups (suc first) parts → AreOfGroups first (part ∷ parts)
  one_more first part parts here rest zero d lt = subst (λ k. IsGroup t regions links groups k part) (plus_zero first) here
    where
      plus_zero : (n : ℕ) → n ≡ n + 0
      plus_zero n = omega arith
  one_more first part parts here rest (suc i) d lt =
      subst (λ k. IsGroup t regions links groups k (get_or parts i d)) (plus_suc first i) (rest i d (omega arith))
    where
      plus_suc : (n i : ℕ) → suc n + i ≡ n + suc i
      plus_suc n i = omega arith

  -- the parts that lists of merges settle
  pub parts_of : {A : Type 0} (first : ℕ) (lists : List (Vec Merge A))
      → ((i : ℕ) (d : Vec Merge A) → i < length lists → SettlesGroup t regions links groups (first + i) (get_or lists i d).items)
      → (parts : List RegionGraph) × (length parts ≡ length lists) × AreOfGroups first parts
      × AllZip (λ part (list : Vec Merge A). SettlesFree t part list.items) parts lists
  parts_of first [] each = ([], refl, (λ i d lt. absurd (omega arith)), tt)
  parts_of {A = A} first (list ∷ lists) each =
      let here = subst (λ k. SettlesGroup t regions links groups k list.items) (plus_zero first) (each 0 list (omega arith)) in
      let rest = parts_of {A = A} (suc first) lists (λ i d lt.
      subst (λ k. SettlesGroup t regions links groups k (get_or lists i d).items) (plus_suc first i) (each (suc i) d (omega arith))) in
      (here.0 ∷ rest.0, ap suc rest.1, one_more first here.0 rest.0 here.1 rest.2, (here.2, rest.3))
    where
      plus_zero : (n : ℕ) → n + 0 ≡ n
      plus_zero n = omega arith

      plus_suc : (n i : ℕ) → n + suc i ≡ suc n + i
      plus_suc n i = omega arith

  -- regions of different groups have different names
  two_groups : Ascend regions → (i j : ℕ) (one other : RegionGraph) → i < j → IsGroup t regions links groups i one
      → IsGroup t regions links groups j other → AreApart one other
  two_groups ascend i j one other less is_one is_other x in_one in_other =
      let p = (is_one.members x).0 in_one in
      let q = (is_other.members x).0 in_other in
      let same = same_place regions p.0 q.0 ascend p.1 q.1 (p.3 ∙ sym q.3) in
      let groups_same : i ≡ j = sym p.2 ∙ ap (slice_index groups) same ∙ q.2 in
      omega (arith, less, groups_same)

  -- the parts of all groups are parts of the graph
  pub parts_are : (count : ℕ) (parts : List RegionGraph) → Ascend regions → AreGroups t regions links count groups
      → length parts ≡ count → AreOfGroups 0 parts → AreParts t (graph_of regions links) parts
  parts_are count parts ascend are long of_groups = record {
    each = λ i d lt. (group_at i d lt).is_closed;
    apart = λ i j d less lt.
        two_groups ascend i j (get_or parts i d) (get_or parts j d) less (group_at i d (omega arith)) (group_at j d lt);
    cover = λ r inside.
        let place = region_place regions r inside in
        let group = slice_index groups place.0 in
        let below : group < length parts =
        subst (λ n. group < n) (sym long) (are.below place.0 0 (subst (λ n. place.0 < n) (sym are.one_each) place.1)) in (
          get_or parts group no_graph,
          Contains-get_or parts group no_graph below,
          ((group_at group no_graph below).members r.name).1 (place.0, place.1, refl, ap (λ z. z.name) place.2),
        );
  }
    where
      group_at : (i : ℕ) (d : RegionGraph) → i < length parts → IsGroup t regions links groups i (get_or parts i d)
      group_at i d lt = subst (λ k. IsGroup t regions links groups k (get_or parts i d)) (zero_plus i) (of_groups i d lt)
        where
          zero_plus : (n : ℕ) → 0 + n ≡ n
          zero_plus n = omega arith

-- the lists of merges of all groups, one after another, settle the graph
pub lists_settle : {E A : Type 0} (t : Threshold) (regions : List Region) (links : List Link) (groups : List ℕ) (count : ℕ)
    → AreLinked regions links → AreGroups t regions links count groups
    → (lists : List (Result (Vec Merge A) E)) (merges : List Merge) → length lists ≡ count
    → ((i : ℕ) (r : Result (Vec Merge A) E) → i < count
    → IfOk (get_or lists i r) (λ list. SettlesGroup t regions links groups i list.items))
    → AreListsJoined lists merges → Settles t 0 (graph_of regions links) merges no_graph
lists_settle {E} {A} t regions links groups count linked are lists merges long each (there, all, joined) =
    let found = parts_of t regions links groups {A = A} 0 there each_there in
    subst (λ ms. Settles t 0 (graph_of regions links) ms no_graph) (sym joined)
    (parts_settle (λ (list : Vec Merge A). list.items) t (graph_of regions links) found.0 there (linked_graph regions links linked)
    (parts_are t regions links groups count found.0 linked.regions_ascend are (found.1 ∙ there_long) found.2) found.3)
  where
    answer : Vec Merge A → Result (Vec Merge A) E
    answer list = Ok list

    there_long : length there ≡ count
    there_long = sym (length-map there answer) ∙ sym (ap length all) ∙ long

    each_there : (i : ℕ) (d : Vec Merge A) → i < length there → SettlesGroup t regions links groups (0 + i) (get_or there i d).items
    each_there i d lt =
        let here : get_or lists i (Ok d) ≡ Ok (get_or there i d) =
        ap (λ l. get_or l i (Ok d)) all ∙ get_or-map answer there i d (Ok d) lt in
        subst (λ k. SettlesGroup t regions links groups k (get_or there i d).items) (zero_plus i)
        (subst (λ r. IfOk r (λ (list : Vec Merge A). SettlesGroup t regions links groups i list.items)) here
        (each i (Ok d) (subst (λ n. i < n) there_long lt)))
      where
        zero_plus : (n : ℕ) → n ≡ 0 + n
        zero_plus n = omega arith
