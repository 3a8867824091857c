-- The greatest key of a voxel's edges, kept while the six are looked at in ascending order of number.
use Rattle.std.proofs.Common.{◌≡◌, ◌≢◌, ℕ, ◌+◌, ◌*◌, ◌/◌, ◌%◌, ◌^◌, ◌<◌, ◌≤◌, ◌⊎◌, ◌==◌, ◌&&◌, ◌||◌, if◌then◌else◌, Bool, true, false, nat_le, nat_lt, max, List, [], ◌∷◌, Some, MatchOption, refl, sym, ◌∙◌, ap, subst, inl, inr, arith, add-zero, lit<, ltb-true, ltb-false, le-mul_of_pos_right}
use Rattle.std.proofs.lemmas.Bool.{cases_lt, cases_eq, false_from_ne_true}
use Rattle.std.proofs.lemmas.Bool.Decides.{nat_tests}
use Rattle.agglo_model.specs.Axes.{Axes, IsWithinLimits, voxel_at, voxel_count, coordinate, edge_count, is_edge}
use Rattle.agglo_model.specs.Grid.{Grid, affinity}
use Rattle.agglo_model.specs.EdgeOrder.{EdgeBefore, IsBest, HasNoBest}
use Rattle.agglo_model.proofs.Edges.{edge_on, edge_is}
use Rattle.agglo_model.proofs.Neighbours.{back_edge, no_back_edge, on_edge_x, on_edge_y, on_edge_z, no_on_edge_x, no_on_edge_y, no_on_edge_z}
use Rattle.agglo_model.proofs.Places.{place-voxel, voxel_at-place}
use Rattle.agglo_model.proofs.BestEdge.{is_strong, IsIn, IsBestIn, takes, keeps, first_answers, best_at, none_at, clash, strong_test, strong_tells, edges_at, no_strong_no_best}
use Rattle.edge_order.specs.Keys.{rank, key, raised, step_of_rank, step_of_key}
use Rattle.edge_order.specs.Steps.{edge_at, IsBestStep}
use Rattle.edge_order.specs.declared.step.Step.{Step}
use Rattle.edge_order.specs.declared.step.Step.TheVariants.{Stay, BackX, BackY, BackZ, OnX, OnY, OnZ}

-- the number is above all of the list
abbrev pub IsAbove : ℕ → List ℕ → Type 0
IsAbove e [] = Unit {0}
IsAbove e (x ∷ xs) = (x < e) × IsAbove e xs

above_at : (e f : ℕ) (es : List ℕ) → IsAbove e es → IsIn f es → f < e
above_at e f [] above m = absurd m
above_at e f (x ∷ xs) above (inl is) = subst (λ z. z < e) (sym is) above.0
above_at e f (x ∷ xs) above (inr m) = above_at e f xs above.1 m

-- the edge at this step is the best of the list, whatever its byte, and this is its key
pub record IsKeyOf (g : Grid) (v r : ℕ) (es : List ℕ) (k : ℕ) (s : Step) (e : ℕ) : Type 0 where
  pub at : edge_at g.axes v s ≡ Some e
  pub key_is : k ≡ key (affinity g e) s
  pub ranked : r ≤ rank s
  pub best : IsBestIn g 0 es e

-- k is the greatest key of the edges of the list, none of which has a rank below r
pub data Tracks (g : Grid) (v r : ℕ) (es : List ℕ) (k : ℕ) : Type 0 where
  NoEdge : k ≡ 0 → ((f : ℕ) → IsIn f es → is_strong g 0 f ≡ false) → Tracks g v r es k
  AnEdge : (s : Step) (e : ℕ) → IsKeyOf g v r es k s e → Tracks g v r es k

rank-le : (s : Step) → rank s ≤ 7
rank-le Stay = omega arith
rank-le BackX = omega arith
rank-le BackY = omega arith
rank-le BackZ = omega arith
rank-le OnX = omega arith
rank-le OnY = omega arith
rank-le OnZ = omega arith

any_strong : (i : Bool) (a : ℕ) → i ≡ true → (i && nat_le 0 a) ≡ true
any_strong i a is = grind (arith, nat_tests)

greater_first : (a b e f : ℕ) → b < a → (nat_lt b a || ((a == b) && nat_lt e f)) ≡ true
greater_first a b e f lt = grind (arith, nat_tests)

-- one edge more, of a lower rank
edge_more : (g : Grid) (v r e k : ℕ) (es : List ℕ) (s : Step) → Tracks g v r es k → rank s < r
    → is_edge g.axes e ≡ true → IsAbove e es → edge_at g.axes v s ≡ Some e
    → Tracks g v (rank s) (e ∷ es) (max k (key (affinity g e) s))
edge_more g v r e k es s (NoEdge zero none) lower edge above is =
    AnEdge s e (record {
      at = is;
      key_is = omega arith;
      ranked = omega arith;
      best = first_answers g 0 e es none true (any_strong (is_edge g.axes e) (affinity g e) edge);
    })
edge_more g v r e k es s (AnEdge t b h) lower edge above is = pick (cases_lt (affinity g b) (affinity g e))
  where
    after : affinity g e ≤ affinity g b → b < e → EdgeBefore g b e
    after le lt = grind arith

    pick : (affinity g b < affinity g e) ⊎ (affinity g e ≤ affinity g b)
        → Tracks g v (rank s) (e ∷ es) (max k (key (affinity g e) s))
    pick (inl up) = AnEdge s e (record {
      at = is;
      key_is = omega (arith, h.key_is, rank-le t);
      ranked = omega arith;
      best = takes g 0 e b es h.best (any_strong (is_edge g.axes e) (affinity g e) edge)
          (greater_first (affinity g e) (affinity g b) e b up);
    })
    pick (inr le) = AnEdge t b (record {
      at = h.at;
      key_is = omega (arith, h.key_is, h.ranked);
      ranked = omega (arith, h.ranked);
      best = keeps g 0 e b es h.best (λ strong ne. after le (above_at e b es above h.best.stands));
    })

-- one number more that is no edge
no_edge_more : (g : Grid) (v r e k : ℕ) (es : List ℕ) (s : Step) → Tracks g v r es k → rank s < r
    → is_edge g.axes e ≡ false → Tracks g v (rank s) (e ∷ es) k
no_edge_more g v r e k es s h lower is = skip h
  where
    weak : is_strong g 0 e ≡ false
    weak = ap (λ b. b && nat_le 0 (affinity g e)) is

    skip : Tracks g v r es k → Tracks g v (rank s) (e ∷ es) k
    skip (NoEdge zero none) = NoEdge zero (first_answers g 0 e es none false weak)
    skip (AnEdge t b h) = AnEdge t b (record {
      at = h.at;
      key_is = h.key_is;
      ranked = omega (arith, h.ranked);
      best = keeps g 0 e b es h.best (λ strong ne. clash (is_strong g 0 e) strong weak);
    })

pub tracks_raised : (g : Grid) (v r e k : ℕ) (es : List ℕ) (s : Step) (exists : Bool) → Tracks g v r es k
    → rank s < r → is_edge g.axes e ≡ exists → IsAbove e es → edge_at g.axes v s ≡ Some e
    → Tracks g v (rank s) (e ∷ es) (raised k exists (key (affinity g e) s))
tracks_raised g v r e k es s true h lower edge above is = edge_more g v r e k es s h lower edge above is
tracks_raised g v r e k es s false h lower edge above is = no_edge_more g v r e k es s h lower edge

-- the six numbers, the last first
abbrev pub seen_three : ℕ → List ℕ
seen_three v = (3 * v + 2) ∷ (3 * v + 1) ∷ (3 * v) ∷ []

abbrev pub seen_six : Axes → ℕ → List ℕ
seen_six a v =
    (3 * (v + a.nx * a.ny) + 2) ∷ (3 * (v + a.nx) + 1) ∷ (3 * (v + 1)) ∷ seen_three v

six_in : (a : Axes) (v f : ℕ) → IsIn f (seen_six a v) → IsIn f (edges_at a v)
six_in a v f (inl is) = inr (inr (inr (inr (inr (inl (omega arith))))))
six_in a v f (inr (inl is)) = inr (inr (inr (inr (inl (omega arith)))))
six_in a v f (inr (inr (inl is))) = inr (inr (inr (inl (omega arith))))
six_in a v f (inr (inr (inr (inl is)))) = inr (inr (inl (omega arith)))
six_in a v f (inr (inr (inr (inr (inl is))))) = inr (inl (omega arith))
six_in a v f (inr (inr (inr (inr (inr (inl is)))))) = inl (omega arith)
six_in a v f (inr (inr (inr (inr (inr (inr no_more)))))) = absurd no_more

in_six : (a : Axes) (v f : ℕ) → IsIn f (edges_at a v) → IsIn f (seen_six a v)
in_six a v f (inl is) = inr (inr (inr (inr (inr (inl (omega arith))))))
in_six a v f (inr (inl is)) = inr (inr (inr (inr (inl (omega arith)))))
in_six a v f (inr (inr (inl is))) = inr (inr (inr (inl (omega arith))))
in_six a v f (inr (inr (inr (inl is)))) = inr (inr (inl (omega arith)))
in_six a v f (inr (inr (inr (inr (inl is))))) = inr (inl (omega arith))
in_six a v f (inr (inr (inr (inr (inr (inl is)))))) = inl (omega arith)
in_six a v f (inr (inr (inr (inr (inr (inr no_more)))))) = absurd no_more

-- after all six, the key tells the step of the best edge
rank_back : (s : Step) → step_of_rank (rank s) ≡ s
rank_back Stay = refl
rank_back BackX = refl
rank_back BackY = refl
rank_back BackZ = refl
rank_back OnX = refl
rank_back OnY = refl
rank_back OnZ = refl

either_stays : (b : Bool) → (if b then Stay else Stay) ≡ Stay
either_stays true = refl
either_stays false = refl

low_test : (b i : Bool) (a low : ℕ) → low ≤ a → i ≡ true → (i && nat_le low a) ≡ true
low_test b i a low le is = grind (arith, nat_tests)

stays : (g : Grid) (low v : ℕ) → ((f : ℕ) → IsIn f (edges_at g.axes v) → is_strong g low f ≡ false)
    → IsBestStep g low v Stay
stays g low v weak = no_strong_no_best g low v (none_at g low v weak)

at_least_zero : (i : Bool) (low a : ℕ) → (i && nat_le low a) ≡ true → (i && nat_le 0 a) ≡ true
at_least_zero i low a t = any_strong i a (strong_tells i low a t).0

-- the best of all is the best of the strong ones, where it is strong
strong_best : (g : Grid) (low v e : ℕ) → IsBestIn g 0 (seen_six g.axes v) e → low ≤ affinity g e → IsBest g low v e
strong_best g low v e b le = best_at g low v e (record {
  stands = six_in g.axes v e b.stands;
  strong = strong_test (is_edge g.axes e) low (affinity g e)
      (strong_tells (is_edge g.axes e) 0 (affinity g e) b.strong).0 le;
  first = λ f m s ne. b.first f (in_six g.axes v f m) (at_least_zero (is_edge g.axes f) low (affinity g f) s) ne;
})

-- and else there is none
none_strong : (g : Grid) (low v e : ℕ) → IsBestIn g 0 (seen_six g.axes v) e → affinity g e < low
    → (f : ℕ) → IsIn f (edges_at g.axes v) → is_strong g low f ≡ false
none_strong g low v e b less f m = false_from_ne_true (is_strong g low f) (λ s. refuse s (cases_eq f e))
  where
    over : is_strong g low f ≡ true → low ≤ affinity g f
    over s = (strong_tells (is_edge g.axes f) low (affinity g f) s).1

    refuse : is_strong g low f ≡ true → (f ≡ e) ⊎ (f ≢ e) → ⊥
    refuse s (inl same) =
        let h = subst (λ u. low ≤ affinity g u) same (over s) in omega arith
    refuse s (inr ne) =
        let after = b.first f (in_six g.axes v f m) (at_least_zero (is_edge g.axes f) low (affinity g f) s) ne in
        let h = over s in
        omega arith

pub tracks_all : (g : Grid) (low v r k : ℕ) → Tracks g v r (seen_six g.axes v) k
    → IsBestStep g low v (step_of_key low k)
tracks_all g low v r k (NoEdge zero none) =
    subst (λ n. IsBestStep g low v (step_of_key low n)) (sym zero)
    (subst (λ s. IsBestStep g low v s) (sym (either_stays (nat_lt 0 low)))
    (stays g low v (λ f m. weaker f (none f (in_six g.axes v f m)))))
  where
    weaker : (f : ℕ) → is_strong g 0 f ≡ false → is_strong g low f ≡ false
    weaker f weak = false_from_ne_true (is_strong g low f) (λ s.
        clash (is_strong g 0 f) (at_least_zero (is_edge g.axes f) low (affinity g f) s) weak)
tracks_all g low v r k (AnEdge s e h) = pick (nat_lt (affinity g e) low) refl
  where
    byte : k / 8 ≡ affinity g e
    byte = omega (arith, h.key_is, rank-le s)

    step : k % 8 ≡ rank s
    step = omega (arith, h.key_is, rank-le s)

    told : step_of_key low k ≡ (if nat_lt (affinity g e) low then Stay else s)
    told = ap (λ n. if nat_lt n low then Stay else step_of_rank (k % 8)) byte
        ∙ ap (λ n. if nat_lt (affinity g e) low then Stay else step_of_rank n) step
        ∙ ap (λ t. if nat_lt (affinity g e) low then Stay else t) (rank_back s)

    pick : (b : Bool) → nat_lt (affinity g e) low ≡ b → IsBestStep g low v (step_of_key low k)
    pick true is = subst (λ t. IsBestStep g low v t) (sym (told ∙ ap (λ b. if b then Stay else s) is))
        (stays g low v (none_strong g low v e h.best (ltb-true (affinity g e) low is)))
    pick false is = subst (λ t. IsBestStep g low v t) (sym (told ∙ ap (λ b. if b then Stay else s) is))
        (subst (λ o. MatchOption o (HasNoBest g low v) (λ f. IsBest g low v f)) (sym h.at)
        (strong_best g low v e h.best (ltb-false (affinity g e) low is)))

-- whether the six numbers are edges, by the place of v
by_test : (t e : Bool) → (t ≡ true → e ≡ true) → (t ≡ false → e ≡ false) → e ≡ t
by_test true e p q = p refl
by_test false e p q = q refl

zero_by_test : (x : ℕ) → nat_lt 0 x ≡ false → x ≡ 0
zero_by_test x t = grind (arith, nat_tests)

pub edge_back_at : (a : Axes) (v c : ℕ) → v < voxel_count a → c < 3
    → is_edge a (3 * v + c) ≡ nat_lt 0 (coordinate a v c)
edge_back_at a v c below lt = by_test (nat_lt 0 (coordinate a v c)) (is_edge a (3 * v + c))
    (λ t. back_edge a v c lt below (ltb-true 0 (coordinate a v c) t))
    (λ t. no_back_edge a v c lt (zero_by_test (coordinate a v c) t))

pub edge_back_x : (a : Axes) (v : ℕ) → v < voxel_count a → is_edge a (3 * v) ≡ nat_lt 0 (coordinate a v 0)
edge_back_x a v below = subst (λ e. is_edge a e ≡ nat_lt 0 (coordinate a v 0)) (add-zero (3 * v)) (edge_back_at a v 0 below (lit< tt))

at_place : (a : Axes) (v : ℕ) (P : ℕ → Type 0)
    → P (voxel_at a (coordinate a v 0) (coordinate a v 1) (coordinate a v 2)) → P v
at_place a v P h = subst P (voxel_at-place a v) h

pub edge_on_x : (a : Axes) (v : ℕ) → IsWithinLimits a → v < voxel_count a
    → is_edge a (3 * (v + 1)) ≡ nat_lt (coordinate a v 0 + 1) a.nx
edge_on_x a v limits below = by_test (nat_lt (coordinate a v 0 + 1) a.nx) (is_edge a (3 * (v + 1)))
    (λ t. subst (λ e. is_edge a e ≡ true) (add-zero (3 * (v + 1)))
    (at_place a v (λ u. is_edge a (edge_on a u 0) ≡ true)
    (on_edge_x a (coordinate a v 0) (coordinate a v 1) (coordinate a v 2) (place-voxel a v limits below)
    (ltb-true (coordinate a v 0 + 1) a.nx t))))
    (λ t. subst (λ e. is_edge a e ≡ false) (add-zero (3 * (v + 1)))
    (at_place a v (λ u. is_edge a (edge_on a u 0) ≡ false)
    (no_on_edge_x a (coordinate a v 0) (coordinate a v 1) (coordinate a v 2) (place-voxel a v limits below)
    (ltb-false (coordinate a v 0 + 1) a.nx t))))

pub edge_on_y : (a : Axes) (v : ℕ) → IsWithinLimits a → v < voxel_count a
    → is_edge a (3 * (v + a.nx) + 1) ≡ nat_lt (coordinate a v 1 + 1) a.ny
edge_on_y a v limits below = by_test (nat_lt (coordinate a v 1 + 1) a.ny) (is_edge a (3 * (v + a.nx) + 1))
    (λ t. at_place a v (λ u. is_edge a (edge_on a u 1) ≡ true)
    (on_edge_y a (coordinate a v 0) (coordinate a v 1) (coordinate a v 2) (place-voxel a v limits below)
    (ltb-true (coordinate a v 1 + 1) a.ny t)))
    (λ t. at_place a v (λ u. is_edge a (edge_on a u 1) ≡ false)
    (no_on_edge_y a (coordinate a v 0) (coordinate a v 1) (coordinate a v 2) (place-voxel a v limits below)
    (ltb-false (coordinate a v 1 + 1) a.ny t)))

pub edge_on_z : (a : Axes) (v : ℕ) → IsWithinLimits a → v < voxel_count a
    → is_edge a (3 * (v + a.nx * a.ny) + 2) ≡ nat_lt (coordinate a v 2 + 1) a.nz
edge_on_z a v limits below = by_test (nat_lt (coordinate a v 2 + 1) a.nz) (is_edge a (3 * (v + a.nx * a.ny) + 2))
    (λ t. at_place a v (λ u. is_edge a (edge_on a u 2) ≡ true)
    (on_edge_z a (coordinate a v 0) (coordinate a v 1) (coordinate a v 2) (place-voxel a v limits below)
    (ltb-true (coordinate a v 2 + 1) a.nz t)))
    (λ t. at_place a v (λ u. is_edge a (edge_on a u 2) ≡ false)
    (no_on_edge_z a (coordinate a v 0) (coordinate a v 1) (coordinate a v 2) (place-voxel a v limits below)
    (ltb-false (coordinate a v 2 + 1) a.nz t)))

-- the numbers of edges are below the count
pub edge_below : (a : Axes) (e : ℕ) (t : Bool) → is_edge a e ≡ t → t ≡ true → e < edge_count a
edge_below a e t is holds = (edge_is a e (is ∙ holds)).numbered

pub layer-le : (a : Axes) → IsWithinLimits a → (a.nx ≤ a.nx * a.ny) × (a.nx * a.ny ≤ 2 ^ 28)
layer-le a limits =
    let some : 0 < a.ny = limits.some_y in
    let deep : 0 < a.nz = limits.some_z in (
      omega (arith, le-mul_of_pos_right a.nx some),
      omega (arith, le-mul_of_pos_right (a.nx * a.ny) deep, limits.most_voxels),
    )

-- one after the other: the sixth key tells the step of the best edge
pub best_of_six : (g : Grid) (low v k1 k2 k3 k4 k5 k6 : ℕ)
    → IsWithinLimits g.axes → v < voxel_count g.axes
    → k1 ≡ raised 0 (nat_lt 0 (coordinate g.axes v 0)) (key (affinity g (3 * v)) BackX)
    → k2 ≡ raised k1 (nat_lt 0 (coordinate g.axes v 1)) (key (affinity g (3 * v + 1)) BackY)
    → k3 ≡ raised k2 (nat_lt 0 (coordinate g.axes v 2)) (key (affinity g (3 * v + 2)) BackZ)
    → k4 ≡ raised k3 (nat_lt (coordinate g.axes v 0 + 1) g.axes.nx) (key (affinity g (3 * (v + 1))) OnX)
    → k5 ≡ raised k4 (nat_lt (coordinate g.axes v 1 + 1) g.axes.ny) (key (affinity g (3 * (v + g.axes.nx) + 1)) OnY)
    → k6 ≡ raised k5 (nat_lt (coordinate g.axes v 2 + 1) g.axes.nz) (key (affinity g (3 * (v + g.axes.nx * g.axes.ny) + 2)) OnZ)
    → IsBestStep g low v (step_of_key low k6)
best_of_six g low v k1 k2 k3 k4 k5 k6 limits below e1 e2 e3 e4 e5 e6 =
    let a = g.axes in
    let wide : (a.nx ≤ a.nx * a.ny) × (a.nx * a.ny ≤ 2 ^ 28) = layer-le a limits in
    let some : 0 < a.nx = limits.some_x in
    let t0 : Tracks g v 8 [] 0 = NoEdge refl (λ f m. absurd m) in
    let t1 = on_to k1 BackX 8 (3 * v) [] 0 (nat_lt 0 (coordinate a v 0)) e1 t0 (omega arith) (edge_back_x a v below) tt refl in
    let t2 = on_to k2 BackY 7 (3 * v + 1) (3 * v ∷ []) k1 (nat_lt 0 (coordinate a v 1)) e2 t1 (omega arith) (edge_back_at a v 1 below (lit< tt)) (omega arith, tt) refl in
    let t3 = on_to k3 BackZ 6 (3 * v + 2) ((3 * v + 1) ∷ 3 * v ∷ []) k2 (nat_lt 0 (coordinate a v 2)) e3 t2 (omega arith) (edge_back_at a v 2 below (lit< tt)) (omega arith, (omega arith, tt)) refl in
    let t4 = on_to k4 OnX 5 (3 * (v + 1)) (seen_three v) k3 (nat_lt (coordinate a v 0 + 1) a.nx) e4 t3 (omega arith) (edge_on_x a v limits below) (omega arith, (omega arith, (omega arith, tt))) refl in
    let t5 = on_to k5 OnY 4 (3 * (v + a.nx) + 1) ((3 * (v + 1)) ∷ seen_three v) k4 (nat_lt (coordinate a v 1 + 1) a.ny) e5 t4 (omega arith) (edge_on_y a v limits below) (omega arith, (omega arith, (omega arith, (omega arith, tt)))) refl in
    let t6 = on_to k6 OnZ 3 (3 * (v + a.nx * a.ny) + 2) ((3 * (v + a.nx) + 1) ∷ (3 * (v + 1)) ∷ seen_three v) k5 (nat_lt (coordinate a v 2 + 1) a.nz) e6 t5 (omega arith) (edge_on_z a v limits below) (omega arith, (omega arith, (omega arith, (omega arith, (omega arith, tt))))) refl in
    tracks_all g low v 2 k6 t6
  where
    on_to : (after : ℕ) (s : Step) (r e : ℕ) (es : List ℕ) (before : ℕ) (exists : Bool)
        → after ≡ raised before exists (key (affinity g e) s)
        → Tracks g v r es before → rank s < r → is_edge g.axes e ≡ exists → IsAbove e es → edge_at g.axes v s ≡ Some e
        → Tracks g v (rank s) (e ∷ es) after
    on_to after s r e es before exists was h lower edge above is =
        subst (λ k. Tracks g v (rank s) (e ∷ es) k) (sym was) (tracks_raised g v r e before es s exists h lower edge above is)
