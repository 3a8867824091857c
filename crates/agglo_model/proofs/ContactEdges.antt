-- Which names a contact edge joins, and the names that are in contact.
use Rattle.std.proofs.Common.{◌≡◌, ◌≢◌, ◌⊎◌, ℕ, ◌<◌, Bool, true, ◌&&◌, ltb, List, sym, ap, subst, arith}
use Rattle.std.proofs.lemmas.Bool.Decides.{nat_tests}
use mathlib.Core.Path.{fun_ext}
use Rattle.agglo_model.specs.Axes.{edge_count, is_edge}
use Rattle.agglo_model.specs.Grid.{Grid}
use Rattle.agglo_model.specs.Contacts.{total, differ, are, lower_label, higher_label, joins, between, InContact}
use Rattle.agglo_model.proofs.Totals.{total-some, total-tie}

below_of : (a b c d : Bool) → (((a && b) && c) && d) ≡ true → a ≡ true
below_of a b c d h = grind arith

-- an edge that joins two names is an edge
pub joins-edge : (g : Grid) (labels : List ℕ) (a b e : ℕ) → joins g labels a b e ≡ true
    → e < edge_count g.axes
joins-edge g labels a b e pass =
    let below : ltb e (edge_count g.axes) ≡ true = below_of (ltb e (edge_count g.axes)) _ _ _ pass in
    grind (arith, nat_tests)

-- the two names that an edge joins differ, and neither is 0
names_of : (i : Bool) (x y a b : ℕ) → ((i && differ x y) && are x y a b) ≡ true
    → (0 < a) × (0 < b) × (a ≢ b)
names_of i x y a b pass = grind (arith, nat_tests)

-- an edge joins one pair of names only
pair_of : (i : Bool) (x y a b c d : ℕ) → ((i && differ x y) && are x y a b) ≡ true
    → ((i && differ x y) && are x y c d) ≡ true → ((c ≡ a) × (d ≡ b)) ⊎ ((c ≡ b) × (d ≡ a))
pair_of i x y a b c d one other = grind (arith, nat_tests)

pub swap_of : (i : Bool) (x y a b : ℕ)
    → ((i && differ x y) && are x y a b) ≡ ((i && differ x y) && are x y b a)
swap_of i x y a b = grind (arith, nat_tests)

-- the order of the two names doesn't matter
pub between-swap : (g : Grid) (labels : List ℕ) (a b : ℕ)
    → between g labels a b ≡ between g labels b a
between-swap g labels a b =
    ap (total g) (fun_ext (λ e. swap_of (is_edge g.axes e) (lower_label g labels e) (higher_label g labels e) a b))

-- an edge that joins two names puts them in contact
pub InContact-from_edge : (g : Grid) (labels : List ℕ) (a b e : ℕ) → joins g labels a b e ≡ true
    → InContact g labels a b
InContact-from_edge g labels a b e pass =
    total-some g (joins g labels a b) e (joins-edge g labels a b e pass) pass

-- the tie of two names in contact is an edge that joins them
pub InContact-tie : (g : Grid) (labels : List ℕ) (a b : ℕ) → InContact g labels a b
    → joins g labels a b (between g labels a b).tie ≡ true
InContact-tie g labels a b touching = (total-tie g (joins g labels a b) touching).1

pub InContact-names : (g : Grid) (labels : List ℕ) (a b : ℕ) → InContact g labels a b
    → (0 < a) × (0 < b) × (a ≢ b)
InContact-names g labels a b touching =
    let e = (between g labels a b).tie in
    names_of (is_edge g.axes e) (lower_label g labels e) (higher_label g labels e) a b
    (InContact-tie g labels a b touching)

pub InContact-swap : (g : Grid) (labels : List ℕ) (a b : ℕ) → InContact g labels a b
    → InContact g labels b a
InContact-swap g labels a b touching =
    subst (λ c. 0 < c.count) (between-swap g labels a b) touching

-- two pairs of names in contact with one tie are the same pair
pub same_tie : (g : Grid) (labels : List ℕ) (a b c d : ℕ) → InContact g labels a b
    → InContact g labels c d → (between g labels a b).tie ≡ (between g labels c d).tie
    → ((c ≡ a) × (d ≡ b)) ⊎ ((c ≡ b) × (d ≡ a))
same_tie g labels a b c d one other tie =
    let e = (between g labels a b).tie in
    let here : joins g labels c d e ≡ true =
    subst (λ f. joins g labels c d f ≡ true) (sym tie) (InContact-tie g labels c d other) in
    pair_of (is_edge g.axes e) (lower_label g labels e) (higher_label g labels e) a b c d
    (InContact-tie g labels a b one) here
