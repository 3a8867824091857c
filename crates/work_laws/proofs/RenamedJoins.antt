-- Which names an edge joins, in either order and when one name takes another.
use Rattle.std.proofs.Common.{◌≡◌, ◌≢◌, ℕ, false, ◌&&◌, ◌||◌, List, ◌∙◌}
use Rattle.agglo_model.specs.Axes.{is_edge}
use Rattle.agglo_model.specs.Grid.{Grid}
use Rattle.agglo_model.specs.Contacts.{lower_label, higher_label, joins, renamed}
use Rattle.agglo_model.proofs.Renames.{joins-renamed, joins_of, apart_of, others_of}
use Rattle.agglo_model.proofs.ContactEdges.{swap_of}

pub joins-swap : (g : Grid) (labels : List ℕ) (a b e : ℕ) → joins g labels a b e ≡ joins g labels b a e
joins-swap g labels a b e = swap_of (is_edge g.axes e) (lower_label g labels e) (higher_label g labels e) a b

-- after the rename an edge joins a and c where it joined a or b to c before
pub joins-third : (g : Grid) (labels : List ℕ) (a b c e : ℕ) → a ≢ b → a ≢ 0 → b ≢ 0 → c ≢ a → c ≢ b
    → joins g (renamed labels a b) a c e ≡ (joins g labels a c e || joins g labels b c e)
joins-third g labels a b c e ab pa pb ca cb =
    joins-renamed g labels a b a c e pb
    ∙ joins_of (is_edge g.axes e) (lower_label g labels e) (higher_label g labels e) a b c ab pb pa ca cb

pub joins-apart : (g : Grid) (labels : List ℕ) (a b c e : ℕ) → a ≢ b → c ≢ a → c ≢ b
    → (joins g labels a c e && joins g labels b c e) ≡ false
joins-apart g labels a b c e ab ca cb =
    apart_of (is_edge g.axes e) (lower_label g labels e) (higher_label g labels e) a b c ab ca cb

-- it joins two other names where it did before
pub joins-others : (g : Grid) (labels : List ℕ) (a b c d e : ℕ) → b ≢ 0 → c ≢ a → c ≢ b → d ≢ a → d ≢ b
    → joins g (renamed labels a b) c d e ≡ joins g labels c d e
joins-others g labels a b c d e pb ca cb da db =
    joins-renamed g labels a b c d e pb
    ∙ others_of (is_edge g.axes e) (lower_label g labels e) (higher_label g labels e) a b c d pb ca cb da db
