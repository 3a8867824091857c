-- Jobs that are handed out to lanes, and what the lanes have done, in one list.
use Rattle.std.proofs.Common.{◌≡◌, ℕ, zero, suc, ◌<◌, List, [], ◌∷◌, ◌++◌, Ok, IfOk, Result, Vec, length, get_or, set, IsPermutation, flat_map, sym, ap, ◌∙◌, subst, arith}
use Rattle.std.specs.List.{AllZip}
use Rattle.std.proofs.lemmas.Grind.{flat_map-append}
use Rattle.std.proofs.lemmas.List.{append-nil, append_assoc, get_or-map, length-map, map-append}
use Rattle.std.proofs.lemmas.List.Sorted.{IsPermutation-refl, IsPermutation-append, IsPermutation-append_comm}
use Rattle.region_graph.specs.SiteView.{SiteView}
use Rattle.chunk_run.specs.declared.lanes.Job.{Job}
use Rattle.chunk_run.specs.declared.lanes.Lane.{Lane}
use Rattle.chunk_run.specs.declared.lanes.Worked.{Worked}
use Rattle.chunk_run.specs.Lanes.{ArePartsDone, IsDone, jobs_in}

-- two lists place by place, one after the other
pub zip_after : {A B : Type 0} (R : A → B → Type 0) (xs us : List A) (ys vs : List B) → AllZip R xs ys → AllZip R us vs
    → AllZip R (xs ++ us) (ys ++ vs)
zip_after R [] us [] vs zip then = then
zip_after R [] us (y ∷ ys) vs zip then = absurd zip
zip_after R (x ∷ xs) us [] vs zip then = absurd zip
zip_after R (x ∷ xs) us (y ∷ ys) vs zip then = (zip.0, zip_after R xs us ys vs zip.1 then)

pub zip_at : {A B : Type 0} (R : A → B → Type 0) (xs : List A) (ys : List B) (i : ℕ) (d : A) (e : B) → AllZip R xs ys
    → i < length xs → R (get_or xs i d) (get_or ys i e)
zip_at R [] ys i d e zip lt = absurd (omega arith)
zip_at R (x ∷ xs) [] i d e zip lt = absurd zip
zip_at R (x ∷ xs) (y ∷ ys) zero d e zip lt = zip.0
zip_at R (x ∷ xs) (y ∷ ys) (suc i) d e zip lt = zip_at R xs ys i d e zip.1 (omega arith)

-- one job more in one lane is one more in all
pub handed_more : (lanes : List Lane) (l : ℕ) (d : Lane) (lane : Lane) (job : Job) → l < length lanes
    → lane.jobs.items ≡ (get_or lanes l d).jobs.items ++ job ∷ []
    → IsPermutation (jobs_in lanes ++ job ∷ []) (jobs_in (set lanes l lane))
handed_more [] l d lane job lt is = absurd (omega arith)
handed_more (x ∷ xs) zero d lane job lt is =
    let own = x.jobs.items in
    let rest = jobs_in xs in
    subst (λ l. IsPermutation ((own ++ rest) ++ job ∷ []) (l ++ rest)) (sym is)
    (subst (λ l. IsPermutation l ((own ++ job ∷ []) ++ rest)) (sym (append_assoc own rest (job ∷ [])))
    (subst (IsPermutation (own ++ (rest ++ job ∷ []))) (sym (append_assoc own (job ∷ []) rest))
    (IsPermutation-append own own (rest ++ job ∷ []) (job ∷ rest) (IsPermutation-refl own)
    (IsPermutation-append_comm rest (job ∷ [])))))
handed_more (x ∷ xs) (suc l) d lane job lt is =
    let own = x.jobs.items in
    let rest = jobs_in xs in
    subst (λ z. IsPermutation z (own ++ jobs_in (set xs l lane))) (sym (append_assoc own rest (job ∷ [])))
    (IsPermutation-append own own (rest ++ job ∷ []) (jobs_in (set xs l lane)) (IsPermutation-refl own)
    (handed_more xs l d lane job (omega arith) is))

-- what each lane has done of its jobs is, lane after lane, what all have done
pub all_parts : {A : Type 0} (s : SiteView) (lanes : List Lane) (lists : List (Vec Worked A))
    → length lanes ≡ length lists
    → ((i : ℕ) (d : Lane) (e : Vec Worked A) → i < length lanes
    → AllZip (IsDone s) (get_or lanes i d).jobs.items (get_or lists i e).items)
    → AllZip (IsDone s) (jobs_in lanes) (flat_map (λ (list : Vec Worked A). list.items) lists)
all_parts {A = A} s [] [] long each = tt
all_parts {A = A} s [] (y ∷ ys) long each = absurd (omega (arith, long))
all_parts {A = A} s (x ∷ xs) [] long each = absurd (omega (arith, long))
all_parts {A = A} s (x ∷ xs) (y ∷ ys) long each =
    zip_after (IsDone s) x.jobs.items (jobs_in xs) y.items (flat_map (λ (list : Vec Worked A). list.items) ys) (each 0 x y (omega arith))
    (all_parts {A = A} s xs ys (omega (arith, long)) (λ i d e lt. each (suc i) d e (omega arith)))

-- what came of each lane, one after another
pub parts_done : {A E : Type 0} (s : SiteView) (lanes : List Lane) (parts : List (Result (Vec Worked A) E)) (done : List Worked)
    → length parts ≡ length lanes
    → ((i : ℕ) (d : Lane) (r : Result (Vec Worked A) E) → i < length lanes
    → IfOk (get_or parts i r) (λ list. AllZip (IsDone s) (get_or lanes i d).jobs.items list.items))
    → ArePartsDone parts done → AllZip (IsDone s) (jobs_in lanes) done
parts_done {A} {E} s lanes parts done long each (lists, all, listed) =
    let as_long : length lanes ≡ length lists = sym long ∙ ap length all ∙ length-map lists answer in
    subst (AllZip (IsDone s) (jobs_in lanes)) (sym listed)
    (all_parts s lanes lists as_long (λ i d e lt.
    let here : get_or parts i (Ok e) ≡ Ok (get_or lists i e) =
    ap (λ l. get_or l i (Ok e)) all ∙ get_or-map answer lists i e (Ok e) (omega (arith, as_long)) in
    subst (λ r. IfOk r (λ (list : Vec Worked A). AllZip (IsDone s) (get_or lanes i d).jobs.items list.items)) here (each i d (Ok e) lt)))
  where
    answer : Vec Worked A → Result (Vec Worked A) E
    answer list = Ok list

-- one list more
pub parts_more : {A E : Type 0} (parts : List (Result (Vec Worked A) E)) (done : List Worked) (list : Vec Worked A)
    → ArePartsDone parts done → ArePartsDone (parts ++ Ok list ∷ []) (done ++ list.items)
parts_more {A} {E} parts done list (lists, all, listed) = (
  lists ++ list ∷ [],
  ap (λ l. l ++ Ok list ∷ []) all ∙ sym (map-append answer lists (list ∷ [])),
  ap (λ l. l ++ list.items) listed
      ∙ sym (flat_map-append (λ (l : Vec Worked A). l.items) lists (list ∷ [])
      ∙ ap (λ l. flat_map (λ (l : Vec Worked A). l.items) lists ++ l) (append-nil list.items)),
)
  where
    answer : Vec Worked A → Result (Vec Worked A) E
    answer list = Ok list
