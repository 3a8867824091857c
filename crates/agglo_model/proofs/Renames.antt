-- What becomes of labels, contact edges and contacts when one name takes another.
use Rattle.std.proofs.Common.{◌≡◌, ◌≢◌, ℕ, Bool, false, cond, ◌&&◌, ◌||◌, eqb, List, get_or, sym, ap, ◌∙◌, arith}
use Rattle.std.proofs.Math.ListN.{get_or-map}
use Rattle.std.proofs.lemmas.Bool.Decides.{nat_tests}
use mathlib.Core.Path.{fun_ext}
use Rattle.agglo_model.specs.Axes.{is_edge, lower_end, higher_end}
use Rattle.agglo_model.specs.Grid.{Grid}
use Rattle.agglo_model.specs.Contacts.{total, differ, are, lower_label, higher_label, joins, renamed}
use Rattle.agglo_model.specs.MeanLaws.{MergesContacts}
use Rattle.agglo_model.proofs.Totals.{total-both}

-- the label that x becomes
abbrev pub new_name : ℕ → ℕ → ℕ → ℕ
new_name a b x = cond (eqb x b) a x

zero_stays : (a b : ℕ) → b ≢ 0 → new_name a b 0 ≡ 0
zero_stays a b pos = grind (arith, nat_tests)

pub survivor_stays : (a b : ℕ) → new_name a b a ≡ a
survivor_stays a b = grind (arith, nat_tests)

pub absorbed_becomes : (a b : ℕ) → new_name a b b ≡ a
absorbed_becomes a b = grind (arith, nat_tests)

pub not_absorbed : (a b x : ℕ) → a ≢ b → new_name a b x ≢ b
not_absorbed a b x apart = grind (arith, nat_tests)

-- the label of a voxel after a rename, also past the end of the list
pub label-renamed : (labels : List ℕ) (a b v : ℕ) → b ≢ 0
    → get_or (renamed labels a b) v 0 ≡ new_name a b (get_or labels v 0)
label-renamed labels a b v pos =
    ap (get_or (renamed labels a b) v) (sym (zero_stays a b pos)) ∙ get_or-map (new_name a b) labels v 0

-- an edge joins a and c after the rename where it joined a or b to c before
pub joins_of : (i : Bool) (x y a b c : ℕ) → a ≢ b → b ≢ 0 → a ≢ 0 → c ≢ a → c ≢ b
    → ((i && differ (new_name a b x) (new_name a b y)) && are (new_name a b x) (new_name a b y) a c)
    ≡ (((i && differ x y) && are x y a c) || ((i && differ x y) && are x y b c))
joins_of i x y a b c ab pb pa ca cb = grind (arith, nat_tests)

pub apart_of : (i : Bool) (x y a b c : ℕ) → a ≢ b → c ≢ a → c ≢ b
    → (((i && differ x y) && are x y a c) && ((i && differ x y) && are x y b c)) ≡ false
apart_of i x y a b c ab ca cb = grind (arith, nat_tests)

pub others_of : (i : Bool) (x y a b c d : ℕ) → b ≢ 0 → c ≢ a → c ≢ b → d ≢ a → d ≢ b
    → ((i && differ (new_name a b x) (new_name a b y)) && are (new_name a b x) (new_name a b y) c d)
    ≡ ((i && differ x y) && are x y c d)
others_of i x y a b c d pb ca cb da db = grind (arith, nat_tests)

-- whether an edge joins c and d after the rename, by the new names of its ends
pub joins-renamed : (g : Grid) (labels : List ℕ) (a b c d e : ℕ) → b ≢ 0
    → joins g (renamed labels a b) c d e
    ≡ ((is_edge g.axes e
    && differ (new_name a b (lower_label g labels e)) (new_name a b (higher_label g labels e)))
    && are (new_name a b (lower_label g labels e)) (new_name a b (higher_label g labels e)) c d)
joins-renamed g labels a b c d e pos =
    let low = label-renamed labels a b (lower_end g.axes e) pos in
    let high = label-renamed labels a b (higher_end e) pos in
    λ i. (is_edge g.axes e && differ (low i) (high i)) && are (low i) (high i) c d

-- two different names merge their contacts with a third
pub merges_contacts : (g : Grid) (labels : List ℕ) (a b : ℕ) → a ≢ b → a ≢ 0 → b ≢ 0
    → MergesContacts g labels a b
merges_contacts g labels a b ab pa pb = record {
  third = λ c ca cb.
      let same : (e : ℕ) → joins g (renamed labels a b) a c e
      ≡ (joins g labels a c e || joins g labels b c e) =
      λ e. joins-renamed g labels a b a c e pb
      ∙ joins_of (is_edge g.axes e) (lower_label g labels e) (higher_label g labels e) a b c ab pb pa ca cb in
      ap (total g) (fun_ext same)
      ∙ total-both g (joins g labels a c) (joins g labels b c)
      (λ e. apart_of (is_edge g.axes e) (lower_label g labels e) (higher_label g labels e) a b c ab ca cb);
  others = λ c d ca cb da db.
      let same : (e : ℕ) → joins g (renamed labels a b) c d e ≡ joins g labels c d e =
      λ e. joins-renamed g labels a b c d e pb
      ∙ others_of (is_edge g.axes e) (lower_label g labels e) (higher_label g labels e) a b c d pb ca cb da db in
      ap (total g) (fun_ext same);
}
