-- Nodes of a level that are handed out to lanes, and come back worked.
use Rattle.std.proofs.Common.{◌≡◌, ℕ, zero, suc, ◌+◌, ◌-◌, ◌<◌, ◌≤◌, List, [], ◌∷◌, ◌++◌, length, get_or, map, All, Contains, IsPermutation, Option, refl, sym, ap, ◌∙◌, subst, arith}
use Rattle.std.specs.List.{AllZip, range_with_len}
use Rattle.std.proofs.lemmas.List.{get_or-map, get_or_append_left, get_or-append-add, length-map, map-append, length-append}
use Rattle.std.proofs.lemmas.List.Elements.{Contains-get_or}
use Rattle.std.proofs.lemmas.List.FromFn.{get_or-range_with_len, length-range_with_len}
use Rattle.std.proofs.lemmas.List.Sorted.{All-permutation, Contains-permutation, IsPermutation-append, IsPermutation-map, IsPermutation-refl, IsPermutation-sym, IsPermutation-trans}
use Rattle.std.proofs.lemmas.Slice.Zip.{AllZip-long}
use Rattle.agglo_model.specs.Greedy.{Merge}
use Rattle.agglo_model.specs.Cutting.{Chunking, IsChunking, node_count, level_of, child_count}
use Rattle.agglo_model.specs.RegionGraph.{RegionGraph}
use Rattle.agglo_model.specs.Report.{Level}
use Rattle.agglo_model.proofs.NodeNesting.{level_of_le}
use Rattle.parent_join.specs.Kids.{graphs_of}
use Rattle.region_graph.specs.SiteView.{SiteView}
use Rattle.chunk_run.specs.declared.lanes.Job.{Job}
use Rattle.chunk_run.specs.declared.lanes.Lane.{Lane}
use Rattle.chunk_run.specs.declared.lanes.Worked.{Worked}
use Rattle.chunk_run.specs.Turns.{AreFromChildren, AreTaken, HasWorked, TakesTurn}
use Rattle.chunk_run.specs.Lanes.{AreAscending, AreHandedOut, AreChildResidues, AreTurns, HasTaken, IsDone, IsReady, jobs_in, kid_lists, nodes_of}
use Rattle.chunk_run.proofs.Kids.{from_children}
use Rattle.chunk_run.proofs.Numbers.{numbers_are, long, range_more}
use Rattle.chunk_run.proofs.Parts.{zip_at}
use Rattle.chunk_run.proofs.Steps.{taken_more}

-- nodes between two of one level are on that level
pub on_one_level : (c : Chunking) (first n last : ℕ) → first ≤ n → n ≤ last → last < node_count c → level_of c first ≡ level_of c last
    → level_of c first ≡ level_of c n
on_one_level c first n last from to node same =
    omega (arith, level_of_le c first n from (omega arith), level_of_le c n last to node, same)

-- what holds of the jobs of all lanes holds of those of each
pub each_lane : (P : Job → Type 0) (lanes : List Lane) → All P (jobs_in lanes) → All (λ lane. All P lane.jobs.items) lanes
each_lane P [] all k d lt = absurd (omega arith)
each_lane P (x ∷ xs) all zero d lt = λ i e below.
    subst P (get_or_append_left x.jobs.items (jobs_in xs) e i below)
    (all i e (omega (arith, length-append x.jobs.items (jobs_in xs))))
each_lane P (x ∷ xs) all (suc k) d lt =
    each_lane P xs (λ i e below.
    subst P (get_or-append-add x.jobs.items (jobs_in xs) i e)
    (all (length x.jobs.items + i) e (omega (arith, length-append x.jobs.items (jobs_in xs))))) k d (omega arith)

pub handed_none : (s : SiteView) (first : ℕ) (before : List (Option RegionGraph)) (handed : List Job) → handed ≡ []
    → AreHandedOut s first first before before handed
handed_none s first before handed none =
    let nothing : first - first ≡ 0 = omega arith in
    record {
      jobs = [];
      in_order = ap (range_with_len first) (sym nothing);
      same_jobs = subst (IsPermutation []) (sym none) (IsPermutation-refl []);
      taken = λ merges levels worked. record { so_far = worked; kids_are = λ n past below. absurd (omega arith) };
    }

module _ (s : SiteView) (first n : ℕ) (before after : List (Option RegionGraph)) (handed : List Job)
    (so_far : AreHandedOut s first n before after handed) where
  pub how_many : length so_far.jobs ≡ n - first
  how_many = sym (length-map so_far.jobs (λ job. job.node)) ∙ ap length so_far.in_order ∙ length-range_with_len first (n - first)

  pub handed_next : IsChunking s.cutting → n < node_count s.cutting → first ≤ n → level_of s.cutting first ≡ level_of s.cutting n
      → (later : List (Option RegionGraph)) (job : Job) → job.node ≡ n
      → AreTaken s.cutting n (child_count s.cutting n) after later (graphs_of job.kids.items)
      → (more : List Job) → IsPermutation (handed ++ job ∷ []) more → AreHandedOut s first (n + 1) before later more
  handed_next h node from level later job is taken more shuffled = record {
    jobs = so_far.jobs ++ job ∷ [];
    in_order =
        map-append (λ job. job.node) so_far.jobs (job ∷ [])
        ∙ (λ i. so_far.in_order i ++ is i ∷ [])
        ∙ sym (range_more first (n - first) n (omega arith))
        ∙ ap (range_with_len first) next;
    same_jobs = IsPermutation-trans (so_far.jobs ++ job ∷ []) (handed ++ job ∷ []) more
        (IsPermutation-append so_far.jobs handed (job ∷ []) (job ∷ []) so_far.same_jobs (IsPermutation-refl (job ∷ []))) shuffled;
    taken = λ merges levels worked.
        subst (HasTaken s first first (n + 1) later merges levels)
        (sym (map-append (λ job. graphs_of job.kids.items) so_far.jobs (job ∷ [])))
        (taken_more s h first n node from level after later merges levels (kid_lists so_far.jobs)
        (length-map so_far.jobs (λ job. graphs_of job.kids.items) ∙ how_many)
        (so_far.taken merges levels worked) (graphs_of job.kids.items) taken);
  }
    where
      next : suc (n - first) ≡ n + 1 - first
      next = omega arith

  node_at : (i : ℕ) (d : Job) → i < n - first → (get_or so_far.jobs i d).node ≡ first + i
  node_at i d lt =
      sym (get_or-map (λ job. job.node) so_far.jobs i d 0 (omega (arith, how_many)))
      ∙ ap (λ l. get_or l i 0) so_far.in_order
      ∙ get_or-range_with_len first (n - first) i 0 lt

  kids_at : (i : ℕ) (d : Job) → i < n - first → get_or (kid_lists so_far.jobs) i [] ≡ graphs_of (get_or so_far.jobs i d).kids.items
  kids_at i d lt = get_or-map (λ job. graphs_of job.kids.items) so_far.jobs i d [] (omega (arith, how_many))

  pub all_ready : (merges : List Merge) (levels : List Level) → HasWorked s first first before merges levels
      → n ≤ node_count s.cutting → All (IsReady s) handed
  all_ready merges levels worked nodes = All-permutation (IsReady s) so_far.jobs handed so_far.same_jobs (λ i d lt.
      let below : i < n - first = omega (arith, how_many) in
      let taken = so_far.taken merges levels worked in
      let at = node_at i d below in
      let place : first + i - first ≡ i = omega arith in
      let kids = get_or (kid_lists so_far.jobs) i [] in
      let left = subst (λ k. AreChildResidues s.cutting taken.so_far.residues (first + i) (get_or (kid_lists so_far.jobs) k [])) place
      (taken.kids_are (first + i) (omega arith) (omega arith)) in
      let from = from_children s first n after merges levels taken.so_far (first + i) kids left in
      record {
        node = omega (arith, at);
        kids = subst (λ k. AreFromChildren s k (graphs_of (get_or so_far.jobs i d).kids.items)) (sym at)
            (subst (AreFromChildren s (first + i)) (kids_at i d below) from);
      })

  module _ (done sorted : List Worked) (zip : AllZip (IsDone s) handed done) (shuffled : IsPermutation done sorted)
      (ascend : AreAscending sorted) where
    -- done, as one of the jobs
    pub record IsOf (w : Worked) : Type 0 where
      pub place : ℕ
      pub inside : place < n - first
      pub number : w.node ≡ first + place
      pub turn : TakesTurn s (first + place) (get_or (kid_lists so_far.jobs) place []) w.settled.merges.items w.settled.residue

    of_job : (job : Job) → Contains so_far.jobs job → (w : Worked) → IsDone s job w → IsOf w
    of_job job at w is =
        let below : at.0 < n - first = omega (arith, at.1, how_many) in
        let node : job.node ≡ first + at.0 = sym (ap (λ (j : Job). j.node) at.2) ∙ node_at at.0 job below in
        let kids : graphs_of job.kids.items ≡ get_or (kid_lists so_far.jobs) at.0 [] =
        sym (ap (λ (j : Job). graphs_of j.kids.items) at.2) ∙ sym (kids_at at.0 job below) in
        record {
          place = at.0;
          inside = below;
          number = is.same_node ∙ node;
          turn = subst (λ k. TakesTurn s k (get_or (kid_lists so_far.jobs) at.0 []) w.settled.merges.items w.settled.residue) node
              (subst (λ l. TakesTurn s job.node l w.settled.merges.items w.settled.residue) kids is.turn);
        }

    all_done : All IsOf done
    all_done i d lt =
        let inside : i < length handed = omega (arith, AllZip-long (IsDone s) handed done zip) in
        by_first handed refl inside
      where
        by_first : (l : List Job) → l ≡ handed → i < length l → IsOf (get_or done i d)
        by_first [] is below = absurd (omega arith)
        by_first (x ∷ xs) is below =
            let inside : i < length handed = subst (λ l. i < length l) is below in
            of_job (get_or handed i x)
            (Contains-permutation handed so_far.jobs (get_or handed i x) (IsPermutation-sym so_far.jobs handed so_far.same_jobs)
            (Contains-get_or handed i x inside))
            (get_or done i d) (zip_at (IsDone s) handed done i x d zip inside)

    done_nodes : (js : List Job) (ws : List Worked) → AllZip (IsDone s) js ws → map (λ (w : Worked). w.node) ws ≡ nodes_of js
    done_nodes [] [] z = refl
    done_nodes [] (w ∷ ws) z = absurd z
    done_nodes (j ∷ js) [] z = absurd z
    done_nodes (j ∷ js) (w ∷ ws) z = λ i. z.0.same_node i ∷ done_nodes js ws z.1 i

    same_numbers : IsPermutation (range_with_len first (n - first)) (map (λ (w : Worked). w.node) sorted)
    same_numbers =
        subst (λ l. IsPermutation l (map (λ (w : Worked). w.node) sorted)) so_far.in_order
        (IsPermutation-trans (nodes_of so_far.jobs) (nodes_of handed) (map (λ (w : Worked). w.node) sorted)
        (IsPermutation-map (λ (job : Job). job.node) so_far.jobs handed so_far.same_jobs)
        (subst (λ l. IsPermutation l (map (λ (w : Worked). w.node) sorted)) (done_nodes handed done zip)
        (IsPermutation-map (λ (w : Worked). w.node) done sorted shuffled)))

    numbers_ascend : (ws : List Worked) → AreAscending ws → (i j : ℕ) → i ≤ j → j < length (map (λ (w : Worked). w.node) ws)
        → get_or (map (λ (w : Worked). w.node) ws) i 0 ≤ get_or (map (λ (w : Worked). w.node) ws) j 0
    numbers_ascend [] up i j le lt = absurd (omega arith)
    numbers_ascend (x ∷ xs) up i j le lt =
        let inside : j < length (x ∷ xs) = omega (arith, length-map (x ∷ xs) (λ (w : Worked). w.node)) in
        let at_i = get_or-map (λ (w : Worked). w.node) (x ∷ xs) i x 0 (omega arith) in
        let at_j = get_or-map (λ (w : Worked). w.node) (x ∷ xs) j x 0 inside in
        omega (arith, at_i, at_j, up i j x le inside)

    pub as_many : length sorted ≡ n - first
    as_many =
        sym (length-map sorted (λ (w : Worked). w.node))
        ∙ long first (n - first) (map (λ (w : Worked). w.node) sorted) same_numbers (numbers_ascend sorted ascend)

    number_at : (i : ℕ) (d : Worked) → i < length sorted → (get_or sorted i d).node ≡ first + i
    number_at i d lt =
        sym (get_or-map (λ (w : Worked). w.node) sorted i d 0 lt)
        ∙ numbers_are first (n - first) (map (λ (w : Worked). w.node) sorted) same_numbers (numbers_ascend sorted ascend) i
        (omega (arith, as_many))

    pub all_turns : AreTurns s first (kid_lists so_far.jobs) sorted
    all_turns = record {
      numbers = number_at;
      turns = λ i d lt.
          let of = All-permutation IsOf done sorted shuffled all_done i d lt in
          let place : of.place ≡ i = omega (arith, of.number, number_at i d lt) in
          subst (λ k. TakesTurn s (first + k) (get_or (kid_lists so_far.jobs) k []) (get_or sorted i d).settled.merges.items
          (get_or sorted i d).settled.residue) place of.turn;
    }
