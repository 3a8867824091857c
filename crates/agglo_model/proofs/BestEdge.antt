-- The order of edges, and the best edge of a voxel: there is at most one, and it is found among six.
use Rattle.std.proofs.Common.{◌≡◌, ◌≢◌, ℕ, ◌+◌, ◌*◌, ◌-◌, ◌%◌, ◌<◌, ◌≤◌, ◌⊎◌, ◌==◌, if◌then◌else◌, Bool, true, false, ◌&&◌, ◌||◌, IsTrue, nat_lt, nat_le, List, [], ◌∷◌, sum, Option, Some, None, MatchOption, refl, sym, ◌∙◌, ap, subst, inl, inr, arith, mul-le-mul_right, length, lit<}
use Rattle.std.proofs.lemmas.Bool.{cases_eq, cases_lt}
use Rattle.std.proofs.lemmas.Bool.Decides.{nat_tests}
use Rattle.std.proofs.lemmas.List.{get_or_past}
use Rattle.std.proofs.lemmas.List.Sums.{get_or-le-sum_by}
use Rattle.agglo_model.specs.Axes.{Axes, edge_count, is_edge, lower_end, higher_end}
use Rattle.agglo_model.specs.Grid.{Grid, affinity}
use Rattle.agglo_model.specs.EdgeOrder.{EdgeBefore, IsStrongAt, IsBest, HasNoBest}
use Rattle.agglo_model.proofs.Edges.{edge_back, edge_on, meets_either, edge_back_meets, edge_on_meets, each_axis}

-- the order of edges is strict and total
pub before_one_way : (g : Grid) (e f : ℕ) → EdgeBefore g e f → EdgeBefore g f e → ⊥
before_one_way g e f p q = omega arith

pub before_trans : (g : Grid) (e f h : ℕ) → EdgeBefore g e f → EdgeBefore g f h → EdgeBefore g e h
before_trans g e f h p q = grind arith

pub before_total : (g : Grid) (e f : ℕ) → f ≢ e → EdgeBefore g e f ⊎ EdgeBefore g f e
before_total g e f ne = grind arith

-- a voxel has at most one best edge
pub best_unique : (g : Grid) (low v e f : ℕ) → IsBest g low v e → IsBest g low v f → e ≡ f
best_unique g low v e f p q = same (cases_eq e f)
  where
    same : (e ≡ f) ⊎ (e ≢ f) → e ≡ f
    same (inl is) = is
    same (inr ne) = absurd (before_one_way g e f (p.first f q.strong (λ is. ne (sym is))) (q.first e p.strong ne))

-- A height that falls along the order: `top` is a bound of all affinities.
abbrev pub height : ℕ → Grid → ℕ → ℕ
height top g e = (top - affinity g e) * edge_count g.axes + e

row_before : (x y n e f : ℕ) → x < y → f < n → x * n + f < y * n + e
row_before x y n e f up lt = omega (arith, mul-le-mul_right n up)

pub height_falls : (top : ℕ) (g : Grid) (e f : ℕ) → affinity g f ≤ top
    → f < edge_count g.axes → EdgeBefore g f e → height top g f < height top g e
height_falls top g e f most lt (inl up) =
    row_before (top - affinity g f) (top - affinity g e) (edge_count g.axes) e f (omega arith) lt
height_falls top g e f most lt (inr (same, less)) =
    rw same (omega arith)

-- no affinity is above the sum of all bytes
pub affinity-le-sum : (g : Grid) (e : ℕ) → affinity g e ≤ sum g.bytes
affinity-le-sum g e = within (cases_lt e (length g.bytes))
  where
    within : (e < length g.bytes) ⊎ (length g.bytes ≤ e) → affinity g e ≤ sum g.bytes
    within (inl lt) = get_or-le-sum_by (λ x. x) g.bytes e 0 lt
    within (inr le) = rw (get_or_past g.bytes e 0 le) (omega arith)

-- an edge strong enough to count, apart from where it lies
pub record IsStrong (g : Grid) (low e : ℕ) : Type 0 where
  pub edge : IsTrue (is_edge g.axes e)
  pub strong : low ≤ affinity g e

abbrev pub is_strong : Grid → ℕ → ℕ → Bool
is_strong g low e = is_edge g.axes e && nat_le low (affinity g e)

abbrev pub before : Grid → ℕ → ℕ → Bool
before g e f = nat_lt (affinity g f) (affinity g e) || ((affinity g e == affinity g f) && nat_lt e f)

-- the better of an edge and the best so far
abbrev pub better : Grid → ℕ → ℕ → Option ℕ → Option ℕ
better g low e None = if is_strong g low e then Some e else None
better g low e (Some b) = if is_strong g low e && before g e b then Some e else Some b

abbrev pub best_among : Grid → ℕ → List ℕ → Option ℕ
best_among g low [] = None
best_among g low (e ∷ es) = better g low e (best_among g low es)

-- the number stands in the list
abbrev pub IsIn : ℕ → List ℕ → Type 0
IsIn e [] = ⊥
IsIn e (x ∷ xs) = (e ≡ x) ⊎ IsIn e xs

-- b is a strong edge of the list that comes before all others there; or there is none
pub record IsBestIn (g : Grid) (low : ℕ) (es : List ℕ) (b : ℕ) : Type 0 where
  pub stands : IsIn b es
  pub strong : is_strong g low b ≡ true
  pub first : (f : ℕ) → IsIn f es → is_strong g low f ≡ true → f ≢ b → EdgeBefore g b f

abbrev pub AnswersBest : Grid → ℕ → List ℕ → Option ℕ → Type 0
AnswersBest g low es o =
    MatchOption o ((f : ℕ) → IsIn f es → is_strong g low f ≡ false) (λ b. IsBestIn g low es b)

order_tells : (a b e f : ℕ) → (nat_lt b a || ((a == b) && nat_lt e f)) ≡ true
    → (b < a) ⊎ ((a ≡ b) × (e < f))
order_tells a b e f t = grind (arith, nat_tests)

order_tells_not : (a b e f : ℕ) → (nat_lt b a || ((a == b) && nat_lt e f)) ≡ false → e ≢ f
    → (a < b) ⊎ ((b ≡ a) × (f < e))
order_tells_not a b e f t ne = grind (arith, nat_tests)

pub before_tells : (g : Grid) (e f : ℕ) → before g e f ≡ true → EdgeBefore g e f
before_tells g e f t = order_tells (affinity g e) (affinity g f) e f t

pub before_tells_not : (g : Grid) (e f : ℕ) → before g e f ≡ false → e ≢ f → EdgeBefore g f e
before_tells_not g e f t ne = order_tells_not (affinity g e) (affinity g f) e f t ne

pub clash : {P : Type 0} (b : Bool) → b ≡ true → b ≡ false → P
clash b p q = cc

pub first_answers : (g : Grid) (low e : ℕ) (es : List ℕ)
    → ((f : ℕ) → IsIn f es → is_strong g low f ≡ false)
    → (s : Bool) → is_strong g low e ≡ s → AnswersBest g low (e ∷ es) (if s then Some e else None)
first_answers g low e es weak true is = record {
  stands = inl refl;
  strong = is;
  first = λ f m t ne. elim m [
    | inl same ↦ absurd (ne same)
    | inr m ↦ clash (is_strong g low f) t (weak f m)
  ];
}
first_answers g low e es weak false is = λ f m. elim m [
  | inl same ↦ subst (λ z. is_strong g low z ≡ false) (sym same) is
  | inr m ↦ weak f m
]

pub takes : (g : Grid) (low e b : ℕ) (es : List ℕ) → IsBestIn g low es b
    → is_strong g low e ≡ true → before g e b ≡ true → IsBestIn g low (e ∷ es) e
takes g low e b es h is up = record {
  stands = inl refl;
  strong = is;
  first = λ f m t ne. elim m [
    | inl same ↦ absurd (ne same)
    | inr m ↦ after f m t (cases_eq f b)
  ];
}
  where
    over : EdgeBefore g e b
    over = before_tells g e b up

    after : (f : ℕ) → IsIn f es → is_strong g low f ≡ true → (f ≡ b) ⊎ (f ≢ b) → EdgeBefore g e f
    after f m t (inl same) = subst (λ z. EdgeBefore g e z) (sym same) over
    after f m t (inr ne) = before_trans g e b f over (h.first f m t ne)

pub keeps : (g : Grid) (low e b : ℕ) (es : List ℕ) → IsBestIn g low es b
    → (is_strong g low e ≡ true → e ≢ b → EdgeBefore g b e) → IsBestIn g low (e ∷ es) b
keeps g low e b es h under = record {
  stands = inr h.stands;
  strong = h.strong;
  first = λ f m t ne. elim m [
    | inl same ↦ subst (λ z. EdgeBefore g b z) (sym same) (under
        (subst (λ z. is_strong g low z ≡ true) same t) (λ is. ne (same ∙ is)))
    | inr m ↦ h.first f m t ne
  ];
}

next_answers : (g : Grid) (low e b : ℕ) (es : List ℕ) → IsBestIn g low es b
    → (s t : Bool) → is_strong g low e ≡ s → before g e b ≡ t
    → AnswersBest g low (e ∷ es) (if s && t then Some e else Some b)
next_answers g low e b es h true true is up = takes g low e b es h is up
next_answers g low e b es h true false is up = keeps g low e b es h (λ _ ne. before_tells_not g e b up ne)
next_answers g low e b es h false t is up = keeps g low e b es h (λ is' ne. clash (is_strong g low e) is' is)

better_answers : (g : Grid) (low e : ℕ) (es : List ℕ) (o : Option ℕ) → AnswersBest g low es o
    → AnswersBest g low (e ∷ es) (better g low e o)
better_answers g low e es None h = first_answers g low e es h (is_strong g low e) refl
better_answers g low e es (Some b) h =
    next_answers g low e b es h (is_strong g low e) (before g e b) refl refl

pub best_among_answers : (g : Grid) (low : ℕ) (es : List ℕ) → AnswersBest g low es (best_among g low es)
best_among_answers g low [] = λ f m. absurd m
best_among_answers g low (e ∷ es) =
    better_answers g low e es (best_among g low es) (best_among_answers g low es)

-- the six edges that may meet a voxel, in order of number
abbrev pub edges_at : Axes → ℕ → List ℕ
edges_at a v = edge_back v 0 ∷ edge_back v 1 ∷ edge_back v 2 ∷ edge_on a v 0 ∷ edge_on a v 1 ∷ edge_on a v 2 ∷ []

back_in : (a : Axes) (v c : ℕ) → c < 3 → IsIn (edge_back v c) (edges_at a v)
back_in a v c lt = each_axis (λ d. IsIn (edge_back v d) (edges_at a v)) c lt
    (inl refl) (inr (inl refl)) (inr (inr (inl refl)))

on_in : (a : Axes) (v c : ℕ) → c < 3 → IsIn (edge_on a v c) (edges_at a v)
on_in a v c lt = each_axis (λ d. IsIn (edge_on a v d) (edges_at a v)) c lt
    (inr (inr (inr (inl refl)))) (inr (inr (inr (inr (inl refl))))) (inr (inr (inr (inr (inr (inl refl))))))

-- an edge that meets a voxel is one of the six, and each of the six that is an edge meets it
pub meets_one_of_six : (a : Axes) (v e : ℕ) → IsTrue (is_edge a e)
    → (lower_end a e ≡ v) ⊎ (higher_end e ≡ v) → IsIn e (edges_at a v)
meets_one_of_six a v e t m = elim (meets_either a v e t m) [
  | inl is ↦ subst (λ z. IsIn z (edges_at a v)) (sym is) (back_in a v (e % 3) three)
  | inr is ↦ subst (λ z. IsIn z (edges_at a v)) (sym is) (on_in a v (e % 3) three)
]
  where
    three : e % 3 < 3
    three = omega arith

back_meets : (a : Axes) (v c e : ℕ) → c < 3 → e ≡ edge_back v c → (lower_end a e ≡ v) ⊎ (higher_end e ≡ v)
back_meets a v c e lt is = inr (ap higher_end is ∙ edge_back_meets v c lt)

on_meets : (a : Axes) (v c e : ℕ) → c < 3 → e ≡ edge_on a v c → (lower_end a e ≡ v) ⊎ (higher_end e ≡ v)
on_meets a v c e lt is = inl (ap (lower_end a) is ∙ edge_on_meets a v c lt)

pub one_of_six_meets : (a : Axes) (v e : ℕ) → IsIn e (edges_at a v)
    → (lower_end a e ≡ v) ⊎ (higher_end e ≡ v)
one_of_six_meets a v e (inl is) = back_meets a v 0 e (lit< tt) is
one_of_six_meets a v e (inr (inl is)) = back_meets a v 1 e (lit< tt) is
one_of_six_meets a v e (inr (inr (inl is))) = back_meets a v 2 e (lit< tt) is
one_of_six_meets a v e (inr (inr (inr (inl is)))) = on_meets a v 0 e (lit< tt) is
one_of_six_meets a v e (inr (inr (inr (inr (inl is))))) = on_meets a v 1 e (lit< tt) is
one_of_six_meets a v e (inr (inr (inr (inr (inr (inl is)))))) = on_meets a v 2 e (lit< tt) is
one_of_six_meets a v e (inr (inr (inr (inr (inr (inr no_more)))))) = absurd no_more

pub strong_test : (b : Bool) (low a : ℕ) → b ≡ true → low ≤ a → (b && nat_le low a) ≡ true
strong_test b low a is le = grind (arith, nat_tests)

pub strong_tells : (b : Bool) (low a : ℕ) → (b && nat_le low a) ≡ true → (b ≡ true) × (low ≤ a)
strong_tells b low a t = grind (arith, nat_tests)

-- the best edge of a voxel, by looking at six
unfoldable pub best_of : Grid → ℕ → ℕ → Option ℕ
best_of g low v = best_among g low (edges_at g.axes v)

strong_at : (g : Grid) (low v e : ℕ) → IsIn e (edges_at g.axes v) → is_strong g low e ≡ true
    → IsStrongAt g low v e
strong_at g low v e m t =
    let p = strong_tells (is_edge g.axes e) low (affinity g e) t in
    record { edge = p.0; meets = one_of_six_meets g.axes v e m; strong = p.1 }

pub best_at : (g : Grid) (low v b : ℕ) → IsBestIn g low (edges_at g.axes v) b → IsBest g low v b
best_at g low v b h = record {
  strong = strong_at g low v b h.stands h.strong;
  first = λ f s ne. h.first f (meets_one_of_six g.axes v f s.edge s.meets)
      (strong_test (is_edge g.axes f) low (affinity g f) s.edge s.strong) ne;
}

-- no strong edge meets the voxel
abbrev pub HasNoStrong : Grid → ℕ → ℕ → Type 0
HasNoStrong g low v = (e : ℕ) → ¬ (IsStrongAt g low v e)

pub none_at : (g : Grid) (low v : ℕ) → ((f : ℕ) → IsIn f (edges_at g.axes v) → is_strong g low f ≡ false)
    → HasNoStrong g low v
none_at g low v weak f s = clash (is_strong g low f)
    (strong_test (is_edge g.axes f) low (affinity g f) s.edge s.strong)
    (weak f (meets_one_of_six g.axes v f s.edge s.meets))

pub best_of_answers : (g : Grid) (low v : ℕ)
    → MatchOption (best_of g low v) (HasNoStrong g low v) (λ e. IsBest g low v e)
unfolding best_of
best_of_answers g low v = answer (best_among g low (edges_at g.axes v)) (best_among_answers g low (edges_at g.axes v))
  where
    answer : (o : Option ℕ) → AnswersBest g low (edges_at g.axes v) o
        → MatchOption o (HasNoStrong g low v) (λ e. IsBest g low v e)
    answer None h = none_at g low v h
    answer (Some b) h = best_at g low v b h

-- a voxel with a strong edge has a best one, and it can be told which
pub has_best : (g : Grid) (low v : ℕ) → HasNoStrong g low v ⊎ ((e : ℕ) × IsBest g low v e)
has_best g low v = told (best_of g low v) (best_of_answers g low v)
  where
    told : (o : Option ℕ) → MatchOption o (HasNoStrong g low v) (λ e. IsBest g low v e)
        → HasNoStrong g low v ⊎ ((e : ℕ) × IsBest g low v e)
    told None h = inl h
    told (Some e) h = inr (e, h)

pub best_of_strong : (g : Grid) (low v e : ℕ) → IsStrongAt g low v e → (b : ℕ) × IsBest g low v b
best_of_strong g low v e s = elim (has_best g low v) [ inl weak ↦ absurd (weak e s) | inr best ↦ best ]

pub no_best_no_strong : (g : Grid) (low v : ℕ) → HasNoBest g low v → HasNoStrong g low v
no_best_no_strong g low v h e s = let b = best_of_strong g low v e s in h b.0 b.1

pub no_strong_no_best : (g : Grid) (low v : ℕ) → HasNoStrong g low v → HasNoBest g low v
no_strong_no_best g low v h e b = h e b.strong

pub best_of_none : (g : Grid) (low v : ℕ) → HasNoBest g low v → best_of g low v ≡ None
best_of_none g low v h = told (best_of g low v) (best_of_answers g low v)
  where
    told : (o : Option ℕ) → MatchOption o (HasNoStrong g low v) (λ e. IsBest g low v e) → o ≡ None
    told None weak = refl
    told (Some e) best = absurd (h e best)

pub best_of_some : (g : Grid) (low v e : ℕ) → IsBest g low v e → best_of g low v ≡ Some e
best_of_some g low v e b = told (best_of g low v) (best_of_answers g low v)
  where
    told : (o : Option ℕ) → MatchOption o (HasNoStrong g low v) (λ f. IsBest g low v f) → o ≡ Some e
    told None weak = absurd (weak e b.strong)
    told (Some f) best = ap {B = Option ℕ} Some (best_unique g low v f e best b)
