-- Lists of regions and of edges while a graph is gathered: in any order, and with names that come again.
use Rattle.std.specs.Prelude.{◌≡◌, ◌≢◌, ℕ, ◌+◌, ◌*◌, ◌^◌, ◌<◌, ◌⊎◌, List, [], ◌∷◌, ◌++◌, All, AllPairs, Contains, sum_by, bit_or}
use Rattle.agglo_model.specs.Joining.{is_named, joined_faces}
use Rattle.agglo_model.specs.PairOrder.{added}
use Rattle.agglo_model.specs.RegionGraph.{Region, GraphEdge, contact_in}

-- the two lists have the same names, each with the same faces
pub record SameRegions (regions others : List Region) : Type 0 where
  pub names : (x : ℕ) → is_named others x ≡ is_named regions x
  pub faces : (x : ℕ) → joined_faces others x ≡ joined_faces regions x

-- background is no region
abbrev pub AreNamed : List Region → Type 0
AreNamed regions = All (λ r. r.name ≢ 0) regions

-- by both lists, any two names have the same contact
abbrev pub SameContacts : List GraphEdge → List GraphEdge → Type 0
SameContacts edges others = (past x y : ℕ) → contact_in past others x y ≡ contact_in past edges x y

-- each edge names the smaller name first, and its contact has some edge of the grid
abbrev pub AreOrdered : List GraphEdge → Type 0
AreOrdered edges = All (λ e. e.a < e.b) edges

abbrev pub AreTouching : List GraphEdge → Type 0
AreTouching edges = All (λ e. 0 < e.contact.count) edges

-- how many edges of the grid the contacts have together
abbrev pub count_of : List GraphEdge → ℕ
count_of edges = sum_by (λ e. e.contact.count) edges

-- a number that is smaller, the earlier an edge stands in a graph
abbrev pub order_of : GraphEdge → ℕ
order_of e = 2 ^ 32 * e.a + e.b

-- what the type of edges knows of each of them
pub record IsFit (e : GraphEdge) : Type 0 where
  pub a_fits : e.a < 2 ^ 32
  pub b_fits : e.b < 2 ^ 32
  pub touching : 0 < e.contact.count

-- one edge with the contact of another taken in, and one region with the faces of another
abbrev pub with_contact : GraphEdge → GraphEdge → GraphEdge
with_contact e f = record e { contact = added e.contact f.contact }

abbrev pub with_faces_of : Region → Region → Region
with_faces_of r s = record r { faces = bit_or r.faces s.faces }

-- strictly ascending by a key, with no other keys than those of a list
pub record AreKeyed {X : Type 0} (key : X → ℕ) (done joined : List X) : Type 0 where
  pub ascend : AllPairs (λ x y. key x < key y) joined
  pub from : (y : X) → Contains joined y → (x : X) × Contains done x × (key x ≡ key y)

-- `summed` has the edges of `done` added up, each pair of names once, in the order of a graph
pub record AreSummed (done summed : List GraphEdge) : Type 0 where
  pub keyed : AreKeyed order_of done summed
  pub fit : (e : GraphEdge) → Contains summed e → IsFit e
  pub done_fit : (e : GraphEdge) → Contains done e → IsFit e
  pub contacts : SameContacts done summed
  pub count : count_of summed ≡ count_of done

-- x was taken into the last of the list, which has the same key
pub record TakesIn {X : Type 0} (key : X → ℕ) (both : X → X → X) (x : X) (before after : List X) : Type 0 where
  pub others : List X
  pub last : X
  pub was : before ≡ others ++ last ∷ []
  pub same_key : key last ≡ key x
  pub is : after ≡ others ++ both last x ∷ []

-- x was appended to a list whose last has another key
pub record Appends {X : Type 0} (key : X → ℕ) (x : X) (before after : List X) : Type 0 where
  pub other_key : (others : List X) (last : X) → before ≡ others ++ last ∷ [] → key last ≢ key x
  pub is : after ≡ before ++ x ∷ []

-- the list gained x: where its last has the same key, that took x in, and else x was appended
abbrev pub Gains : {X : Type 0} → (X → ℕ) → (X → X → X) → X → List X → List X → Type 0
Gains key both x before after = TakesIn key both x before after ⊎ Appends key x before after
