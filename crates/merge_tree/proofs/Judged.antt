-- Records that are judged one after another, with a table of the names that they absorbed.
use Rattle.std.proofs.Common.{◌≡◌, ◌≢◌, ℕ, suc, ◌+◌, ◌*◌, ◌<◌, ◌≤◌, ◌==◌, Bool, true, false, not, ◌&&◌, List, [], ◌∷◌, ◌++◌, length, get_or, set, take, drop, Option, Some, None, refl, sym, ap, ◌∙◌, subst, arith, add-one, ◌⊎◌, inl, inr, replicate}
use Rattle.std.specs.List.{list_all}
use Rattle.std.specs.Option.{option_map, option_or}
use Rattle.std.proofs.Math.Seq.{take-suc, drop-cons}
use Rattle.std.proofs.lemmas.Bool.Decides.{nat_tests}
use Rattle.std.proofs.lemmas.List.{take_all, drop_all, length-take-le, length-set, get_or-set_same, get_or-set_other, get_or-replicate}
use Rattle.std.proofs.lemmas.List.Folds.{list_all-append}
use Rattle.std.proofs.lemmas.List.FromFn.{get_or-map-range_with_len}
use Rattle.agglo_model.specs.Axes.{Axes, voxel_count}
use Rattle.agglo_model.specs.PairOrder.{Threshold}
use Rattle.agglo_model.specs.Greedy.{Merge}
use Rattle.agglo_model.specs.TreeFile.{TreeFlaw, is_alive, merge_at, merges_in, record_flaw, records_flaw, record_length}
use Rattle.agglo_model.proofs.RecordFlaws.{sound_record, names_mean}
use Rattle.merge_tree.specs.declared.tree_fault.TreeFault.{TreeFault}
use Rattle.merge_tree.specs.TreeFault.{fault_of}
use Rattle.merge_tree.specs.TreeReading.{Tells}
use Rattle.merge_tree.specs.TreeRecords.{MarksAbsorbed}

-- a record of a body by its number
pub nth_record : (n : ℕ) (body : List ℕ) (i k : ℕ) (d : Merge) → i < n → k ≡ record_length * i
    → merge_at k body ≡ get_or (merges_in n body) i d
unfolding merges_in
nth_record n body i k d below e =
    ap (λ x. merge_at x body) e ∙ sym (get_or-map-range_with_len (λ j. merge_at (record_length * j) body) 0 n i i d below (omega arith))

-- the first i records have no flaw; these are their merges, and the table marks what they absorbed
pub record HasJudged (axes : Axes) (t : Threshold) (all : List Merge) (i : ℕ) (merges : List Merge) (table : List Bool) : Type 0 where
  pub read : merges ≡ take i all
  pub sound : records_flaw axes t [] all ≡ records_flaw axes t merges (drop i all)
  pub marked : MarksAbsorbed (voxel_count axes) merges table

-- no name is marked yet
none_marked : (n : ℕ) (table : List Bool) → table ≡ replicate (n + 1) false → length table ≡ n + 1 → MarksAbsorbed n [] table
unfolding is_alive
none_marked n table e long = record {
  one_each = long;
  marks = λ name below. ap (λ (l : List Bool). get_or l name true) e ∙ get_or-replicate (n + 1) name false true (omega arith);
}

pub none_judged : (axes : Axes) (t : Threshold) (all merges : List Merge) (table : List Bool) (n : ℕ) → merges ≡ [] → n ≡ voxel_count axes + 1
    → table ≡ replicate n false → length table ≡ n → HasJudged axes t all 0 merges table
none_judged axes t all merges table n none e fresh long =
    subst (λ (l : List Merge). HasJudged axes t all 0 l table) (sym none) record {
      read = refl;
      sound = refl;
      marked = none_marked (voxel_count axes) table (fresh ∙ ap (λ k. replicate k false) e) (long ∙ e);
    }

-- who is alive after one merge more
alive_more : (earlier : List Merge) (m : Merge) (name : ℕ)
    → is_alive (earlier ++ m ∷ []) name ≡ (is_alive earlier name && not (m.absorbed == name))
unfolding is_alive
alive_more earlier m name = list_all-append (λ e. not (e.absorbed == name)) earlier (m ∷ []) ∙ last (list_all (λ e. not (e.absorbed == name)) earlier) (not (m.absorbed == name))
  where
    last : (a b : Bool) → (a && (b && true)) ≡ (a && b)
    last a b = grind (arith, nat_tests)

mark_more : (greatest : ℕ) (earlier : List Merge) (table : List Bool) (m : Merge) → m.absorbed < length table → MarksAbsorbed greatest earlier table
    → MarksAbsorbed greatest (earlier ++ m ∷ []) (set table m.absorbed true)
mark_more greatest earlier table m below marked = record {
  one_each = length-set table m.absorbed true ∙ marked.one_each;
  marks = λ name inside.
      let size : length (set table m.absorbed true) ≡ length table = length-set table m.absorbed true in
      elim (same_or_other name m.absorbed) [
        | inl same ↦
            ap (λ x. get_or (set table m.absorbed true) x true) same
            ∙ (get_or-set_same table m.absorbed true true below ∙ sym (ap not (alive_more earlier m name) ∙ gone (is_alive earlier name) m.absorbed name (sym same)))
        | inr other ↦
            get_or-set_other table m.absorbed name true true other
            ∙ (marked.marks name (omega arith) ∙ sym (ap not (alive_more earlier m name) ∙ kept (is_alive earlier name) m.absorbed name other))
      ];
}
  where
    same_or_other : (x y : ℕ) → (x ≡ y) ⊎ (x ≢ y)
    same_or_other x y = grind arith

    gone : (alive : Bool) (x y : ℕ) → x ≡ y → not (alive && not (x == y)) ≡ true
    gone alive x y e = grind (arith, nat_tests)

    kept : (alive : Bool) (x y : ℕ) → y ≢ x → not (alive && not (x == y)) ≡ not alive
    kept alive x y e = grind (arith, nat_tests)

-- the rest begins with the record at hand
rest_is : (all : List Merge) (i : ℕ) (m : Merge) → i < length all → m ≡ get_or all i m → drop i all ≡ m ∷ drop (i + 1) all
rest_is all i m below at =
    drop-cons all i m below ∙ (ap (λ x. x ∷ drop (suc i) all) (sym at) ∙ ap (λ n. m ∷ drop n all) (sym (add-one i)))

-- the record at hand absorbs a name that the table has
pub name_within : (axes : Axes) (t : Threshold) (all merges : List Merge) (i a : ℕ) (table : List Bool) (m : Merge)
    → HasJudged axes t all i merges table → record_flaw axes t merges m ≡ None → a ≡ m.absorbed → a < length table
name_within axes t all merges i a table m h sound e =
    let names = names_mean axes merges m (sound_record axes t merges m sound).names in
    omega (arith, names.in_range, h.marked.one_each)

-- one record more
pub judged_more : (axes : Axes) (t : Threshold) (all merges now : List Merge) (i a : ℕ) (table : List Bool) (m made : Merge) → i < length all
    → m ≡ get_or all i m → a ≡ m.absorbed → made ≡ m → now ≡ merges ++ made ∷ [] → record_flaw axes t merges m ≡ None
    → HasJudged axes t all i merges table → HasJudged axes t all (i + 1) now (set table a true)
judged_more axes t all merges now i a table m made below at e made_is now_is sound h =
    let grown : now ≡ merges ++ m ∷ [] = now_is ∙ ap (λ x. merges ++ x ∷ []) made_is in
    let longer : take (i + 1) all ≡ take i all ++ m ∷ [] =
    ap (λ n. take n all) (add-one i) ∙ (take-suc all i m below ∙ ap (λ x. take i all ++ x ∷ []) (sym at)) in
    let there : a < length table = name_within axes t all merges i a table m h sound e in
    let marked : MarksAbsorbed (voxel_count axes) (merges ++ m ∷ []) (set table a true) =
    subst (λ x. MarksAbsorbed (voxel_count axes) (merges ++ m ∷ []) (set table x true)) (sym e)
    (mark_more (voxel_count axes) merges table m (subst (λ x. x < length table) e there) h.marked) in
    subst (λ (l : List Merge). HasJudged axes t all (i + 1) l (set table a true)) (sym grown) record {
      read = ap (λ (l : List Merge). l ++ m ∷ []) h.read ∙ sym longer;
      sound = h.sound
          ∙ (ap (records_flaw axes t merges) (rest_is all i m below at)
          ∙ ap (λ (o : Option TreeFlaw). option_or o (records_flaw axes t (merges ++ m ∷ []) (drop (i + 1) all))) sound);
      marked = marked;
    }

-- a flaw of this record is the first of all
pub told_first : (o p : Option TreeFlaw) (fault : TreeFault) → Tells fault o → Tells fault (option_or o p)
told_first None p fault e = absurd (cc)
told_first (Some flaw) p fault e = e

pub judged_fails : (axes : Axes) (t : Threshold) (all merges : List Merge) (i : ℕ) (table : List Bool) (m : Merge) (fault : TreeFault) → i < length all
    → m ≡ get_or all i m → Tells fault (record_flaw axes t merges m) → HasJudged axes t all i merges table
    → Tells fault (records_flaw axes t [] all)
judged_fails axes t all merges i table m fault below at tells h =
    ap (option_map fault_of) (h.sound ∙ ap (records_flaw axes t merges) (rest_is all i m below at))
    ∙ told_first (record_flaw axes t merges m) (records_flaw axes t (merges ++ m ∷ []) (drop (i + 1) all)) fault tells

-- the number of the record at hand
pub judged_number : (axes : Axes) (t : Threshold) (all merges : List Merge) (i : ℕ) (table : List Bool) → i ≤ length all
    → HasJudged axes t all i merges table → i ≡ length merges
judged_number axes t all merges i table most h = sym (ap length h.read ∙ length-take-le i all most)

-- all were judged
pub judged_all : (axes : Axes) (t : Threshold) (all merges : List Merge) (i : ℕ) (table : List Bool) → length all ≤ i
    → HasJudged axes t all i merges table → (records_flaw axes t [] all ≡ None) × (merges ≡ all)
judged_all axes t all merges i table full h =
    (h.sound ∙ ap (records_flaw axes t merges) (drop_all i all full), h.read ∙ take_all i all full)
