-- The flaw of one record after others.
use Rattle.std.proofs.Common.{◌≡◌, ℕ, ◌+◌, ◌<◌, nat_lt, nat_le, Bool, true, false, not, ◌&&◌, IsTrue, List, length, get_or, Some, refl, sym, ap, ◌∙◌, arith}
use Rattle.std.specs.Option.{option_map}
use Rattle.std.proofs.lemmas.Bool.Decides.{nat_tests}
use Rattle.agglo_model.specs.Axes.{Axes, voxel_count}
use Rattle.agglo_model.specs.PairOrder.{Contact as ContactNumbers, Threshold, Reaches}
use Rattle.agglo_model.specs.Greedy.{Merge}
use Rattle.agglo_model.specs.TreeFile.{has_names, has_numbers, follows, reaches, is_alive, record_flaw}
use Rattle.agglo_model.proofs.RecordFlaws.{names_flaw, contact_flaw, order_flaw, below_flaw}
use Rattle.merge_tree.specs.declared.tree_fault.TreeFault.TheVariants.{Names, Contact, Order, Below}
use Rattle.merge_tree.specs.TreeFault.{fault_of}
use Rattle.merge_tree.specs.TreeReading.{Tells}
use Rattle.merge_tree.specs.TreeRecords.{MarksAbsorbed, has_unmarked_names}

-- names are judged by the table as by the list
unmarked_is : (n s a : ℕ) (alive_s alive_a mark_s mark_a : Bool) (long : ℕ) → long ≡ n + 1
    → (s < long → mark_s ≡ not alive_s) → (a < long → mark_a ≡ not alive_a)
    → (nat_lt 0 s && (nat_lt s a && (nat_le a n && (not mark_s && not mark_a))))
    ≡ (nat_lt 0 s && (nat_lt s a && (nat_le a n && (alive_s && alive_a))))
unmarked_is n s a alive_s alive_a mark_s mark_a long e hs ha = grind (arith, nat_tests)

names_by_table : (axes : Axes) (earlier : List Merge) (table : List Bool) (m : Merge) → MarksAbsorbed (voxel_count axes) earlier table
    → has_unmarked_names axes table m ≡ has_names axes earlier m
names_by_table axes earlier table m marked =
    unmarked_is (voxel_count axes) m.survivor m.absorbed (is_alive earlier m.survivor) (is_alive earlier m.absorbed)
    (get_or table m.survivor true) (get_or table m.absorbed true) (length table) marked.one_each
    (marked.marks m.survivor) (marked.marks m.absorbed)

-- what a test of names by the table says
pub table_says : (axes : Axes) (earlier : List Merge) (table : List Bool) (m : Merge) (r b : Bool) → MarksAbsorbed (voxel_count axes) earlier table
    → r ≡ has_unmarked_names axes table m → r ≡ b → has_names axes earlier m ≡ b
table_says axes earlier table m r b marked is says = sym (names_by_table axes earlier table m marked) ∙ (sym is ∙ says)

-- what a test of the order says of a record, made of the merge that has its numbers
pub order_says : (earlier : List Merge) (m raw : Merge) (r b : Bool) → m ≡ raw → r ≡ follows earlier m → r ≡ b → follows earlier raw ≡ b
order_says earlier m raw r b same is says = ap (follows earlier) (sym same) ∙ (sym is ∙ says)

-- each test that fails, with the fault that tells of it
pub tells_names : (axes : Axes) (t : Threshold) (earlier : List Merge) (m : Merge) (i : ℕ) → i ≡ length earlier
    → has_names axes earlier m ≡ false → Tells (Names i) (record_flaw axes t earlier m)
tells_names axes t earlier m i e p =
    ap (option_map fault_of) (names_flaw axes t earlier m p) ∙ ap (λ n. Some (Names n)) (sym e)

pub tells_contact : (axes : Axes) (t : Threshold) (earlier : List Merge) (m : Merge) (i : ℕ) → i ≡ length earlier
    → has_names axes earlier m ≡ true → has_numbers axes m.contact ≡ false → Tells (Contact i) (record_flaw axes t earlier m)
tells_contact axes t earlier m i e p q =
    ap (option_map fault_of) (contact_flaw axes t earlier m p q) ∙ ap (λ n. Some (Contact n)) (sym e)

pub tells_order : (axes : Axes) (t : Threshold) (earlier : List Merge) (m : Merge) (i : ℕ) → i ≡ length earlier
    → has_names axes earlier m ≡ true → has_numbers axes m.contact ≡ true → follows earlier m ≡ false
    → Tells (Order i) (record_flaw axes t earlier m)
tells_order axes t earlier m i e p q r =
    ap (option_map fault_of) (order_flaw axes t earlier m p q r) ∙ ap (λ n. Some (Order n)) (sym e)

pub tells_below : (axes : Axes) (t : Threshold) (earlier : List Merge) (m : Merge) (i : ℕ) → i ≡ length earlier
    → has_names axes earlier m ≡ true → has_numbers axes m.contact ≡ true → follows earlier m ≡ true → reaches t m.contact ≡ false
    → Tells (Below i) (record_flaw axes t earlier m)
tells_below axes t earlier m i e p q r s =
    ap (option_map fault_of) (below_flaw axes t earlier m p q r s) ∙ ap (λ n. Some (Below n)) (sym e)

-- the test of a threshold, by what its function says
pub reaches_is : (t : Threshold) (c d : ContactNumbers) (r : Bool) → c ≡ d → (IsTrue r → Reaches t c) → (Reaches t c → IsTrue r)
    → reaches t d ≡ r
reaches_is t c d r e says meets = ap (reaches t) (sym e) ∙ here r says meets
  where
    here : (r : Bool) → (IsTrue r → Reaches t c) → (Reaches t c → IsTrue r) → reaches t c ≡ r
    here true says meets = let h = says refl in grind (arith, nat_tests)
    here false says meets = grind (arith, nat_tests)

-- a merge that is made of a record's names and of its contact is the record
pub same_merge : (raw m : Merge) (c : ContactNumbers) → m ≡ raw → c ≡ raw.contact
    → record { survivor = m.survivor; absorbed = m.absorbed; contact = c } ≡ raw
same_merge raw m c e f = λ i. record { survivor = (e i).survivor; absorbed = (e i).absorbed; contact = f i }
