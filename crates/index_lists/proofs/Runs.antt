-- Runs of items, each of which adjoins the next.
use Rattle.std.proofs.Common.{◌≡◌, ◌≢◌, ℕ, List, [], ◌∷◌, ◌++◌, sym, ◌∙◌, subst}
use Rattle.std.specs.Prelude.{Contains}
use Rattle.agglo_model.proofs.Members.{contains_head, contains_tail}
use Rattle.index_lists.specs.Links.{Neighbours, RunsTo}
use Rattle.index_lists.proofs.ItemLists.{Once, once_head, once_tail}

-- the last of x and these items
abbrev pub last_or : ℕ → List ℕ → ℕ
last_or x [] = x
last_or x (z ∷ zs) = last_or z zs

pub contains_last : (x : ℕ) (zs : List ℕ) → Contains (x ∷ zs) (last_or x zs)
contains_last x [] = contains_head x []
contains_last x (z ∷ zs) = contains_tail x (last_or z zs) (z ∷ zs) (contains_last z zs)

pub runs_last : (s : Neighbours) (x : ℕ) (zs : List ℕ) (y : ℕ) → RunsTo s x zs y → s.previous y ≡ last_or x zs
runs_last s x [] y run = run.back
runs_last s x (z ∷ zs) y run = runs_last s z zs y run.1

pub runs_cut : (s : Neighbours) (x : ℕ) (zs : List ℕ) (m : ℕ) (ys : List ℕ) (y : ℕ) → RunsTo s x (zs ++ m ∷ ys) y
    → RunsTo s x zs m × RunsTo s m ys y
runs_cut s x [] m ys y run = run
runs_cut s x (z ∷ zs) m ys y run = let rest = runs_cut s z zs m ys y run.1 in ((run.0, rest.0), rest.1)

-- a run whose items keep their neighbours
pub runs_keep : (s t : Neighbours) (x : ℕ) (zs : List ℕ) (y : ℕ) → ((w : ℕ) → Contains (x ∷ zs) w → t.next w ≡ s.next w)
    → ((w : ℕ) → Contains zs w → t.previous w ≡ s.previous w) → t.previous y ≡ s.previous y → RunsTo s x zs y → RunsTo t x zs y
runs_keep s t x [] y on back end run = record { on = on x (contains_head x []) ∙ run.on; back = end ∙ run.back }
runs_keep s t x (z ∷ zs) y on back end run = (
  record { on = on x (contains_head x (z ∷ zs)) ∙ run.0.on; back = back z (contains_head z zs) ∙ run.0.back },
  runs_keep s t z zs y (λ w inside. on w (contains_tail x w (z ∷ zs) inside)) (λ w inside. back w (contains_tail z w zs inside)) end run.1,
)

-- a run that begins at another place
pub runs_from : (s t : Neighbours) (x v : ℕ) (zs : List ℕ) (y : ℕ) → Once zs → ¬ Contains zs y
    → t.next v ≡ s.next x → t.previous (s.next x) ≡ v → ((w : ℕ) → Contains zs w → t.next w ≡ s.next w)
    → ((w : ℕ) → Contains zs w → w ≢ s.next x → t.previous w ≡ s.previous w) → (y ≢ s.next x → t.previous y ≡ s.previous y)
    → RunsTo s x zs y → RunsTo t v zs y
runs_from s t x v [] y once outside begins first next previous end run = record {
  on = begins ∙ run.on;
  back = subst (λ w. t.previous w ≡ v) run.on first;
}
runs_from s t x v (z ∷ zs) y once outside begins first next previous end run =
    let is_first : s.next x ≡ z = run.0.on in (
      record { on = begins ∙ is_first; back = subst (λ w. t.previous w ≡ v) is_first first },
      runs_keep s t z zs y next
          (λ w inside. previous w (contains_tail z w zs inside) (λ same. once_head z w zs once inside (sym (same ∙ is_first))))
          (end (λ same. outside (subst (λ w. Contains (z ∷ zs) w) (sym (same ∙ is_first)) (contains_head z zs)))) run.1,
    )

-- a run along the same items at first, and then along others
pub runs_on : (s t : Neighbours) (x : ℕ) (zs : List ℕ) (m : ℕ) (ys : List ℕ) (y : ℕ) → Once (x ∷ zs)
    → ((w : ℕ) → w ≢ last_or x zs → t.next w ≡ s.next w) → ((w : ℕ) → Contains zs w → t.previous w ≡ s.previous w)
    → RunsTo s x zs m → RunsTo t (last_or x zs) ys y → RunsTo t x (zs ++ ys) y
runs_on s t x [] m ys y once next previous run rest = rest
runs_on s t x (z ∷ zs) m ys y once next previous run rest = (
  record {
    on = next x (once_head x (last_or z zs) (z ∷ zs) once (contains_last z zs)) ∙ run.0.on;
    back = previous z (contains_head z zs) ∙ run.0.back;
  },
  runs_on s t z zs m ys y (once_tail x (z ∷ zs) once) next (λ w inside. previous w (contains_tail z w zs inside)) run.1 rest,
)
