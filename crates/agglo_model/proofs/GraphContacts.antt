-- The contact of two names by a list of graph edges: what several edges make together.
use Rattle.std.proofs.Common.{◌≡◌, inl, inr, ℕ, ◌+◌, ◌<◌, ◌≤◌, Bool, true, false, cond, ◌&&◌, ◌||◌, List, [], ◌∷◌, ◌++◌, fold, sum_by, refl, sym, ap, ◌∙◌, subst, arith}
use Rattle.std.specs.Prelude.{map, filter, Contains, IsPermutation}
use Rattle.std.proofs.lemmas.List.Sums.{sum_by-cons}
use Rattle.std.proofs.lemmas.List.Sorted.{IsPermutation-sym, Contains-permutation, sum_by-IsPermutation}
use Rattle.std.proofs.lemmas.Bool.{false≢true}
use Rattle.agglo_model.specs.PairOrder.{Contact, added}
use Rattle.agglo_model.specs.RegionGraph.{GraphEdge, is_between, no_contact, all_added, contact_in}
use Rattle.agglo_model.proofs.Members.{contains_head, contains_tail, contains_cases, contains_none}

pub same_contact : (c d : Contact) → c.sum ≡ d.sum → c.count ≡ d.count → c.tie ≡ d.tie → c ≡ d
same_contact c d sum count tie = λ i. record { sum = sum i; count = count i; tie = tie i }

pub added_comm : (c d : Contact) → added c d ≡ added d c
added_comm c d = same_contact (added c d) (added d c) (omega arith) (omega arith) (omega arith)

pub added_assoc : (c d e : Contact) → added (added c d) e ≡ added c (added d e)
added_assoc c d e =
    same_contact (added (added c d) e) (added c (added d e)) (omega arith) (omega arith) (omega arith)

-- what the contacts of the edges that pass a test make together
unfoldable pub joint : ℕ → (GraphEdge → Bool) → List GraphEdge → Contact
joint past test [] = no_contact past
joint past test (e ∷ es) = cond (test e) (added e.contact (joint past test es)) (joint past test es)

fold_added : (c d : Contact) (contacts : List Contact) → fold added (added c d) contacts ≡ added c (fold added d contacts)
fold_added c d [] = refl
fold_added c d (x ∷ contacts) =
    ap (λ z. fold added z contacts) (added_assoc c d x) ∙ fold_added c (added d x) contacts

all_added-cons : (past : ℕ) (c : Contact) (contacts : List Contact)
    → all_added past (c ∷ contacts) ≡ added c (all_added past contacts)
all_added-cons past c contacts =
    ap (λ z. fold added z contacts) (added_comm (no_contact past) c) ∙ fold_added c (no_contact past) contacts

joint_step : (past : ℕ) (b : Bool) (e : GraphEdge) (kept : List GraphEdge) (rest : Contact)
    → all_added past (map (λ f. f.contact) kept) ≡ rest
    → all_added past (map (λ f. f.contact) (cond b (e ∷ kept) kept)) ≡ cond b (added e.contact rest) rest
joint_step past true e kept rest same = all_added-cons past e.contact (map (λ f. f.contact) kept) ∙ ap (added e.contact) same
joint_step past false e kept rest same = same

joint-is : (past : ℕ) (test : GraphEdge → Bool) (es : List GraphEdge)
    → all_added past (map (λ e. e.contact) (filter test es)) ≡ joint past test es
unfolding joint
joint-is past test [] = refl
joint-is past test (e ∷ es) = joint_step past (test e) e (filter test es) (joint past test es) (joint-is past test es)

pub contact_in-is : (past x y : ℕ) (es : List GraphEdge) → contact_in past es x y ≡ joint past (is_between x y) es
contact_in-is past x y es = joint-is past (is_between x y) es

-- two tests that agree on each edge of the list make the same together
agree_step : (b b' : Bool) (e : GraphEdge) (rest rest' : Contact) → b ≡ b' → rest ≡ rest'
    → cond b (added e.contact rest) rest ≡ cond b' (added e.contact rest') rest'
agree_step b b' e rest rest' tests rests = λ i. cond (tests i) (added e.contact (rests i)) (rests i)

pub joint-agree : (past : ℕ) (p q : GraphEdge → Bool) (es : List GraphEdge)
    → ((e : GraphEdge) → Contains es e → p e ≡ q e) → joint past p es ≡ joint past q es
unfolding joint
joint-agree past p q [] same = refl
joint-agree past p q (e ∷ es) same =
    agree_step (p e) (q e) e (joint past p es) (joint past q es) (same e (contains_head e es))
    (joint-agree past p q es (λ f inside. same f (contains_tail e f es inside)))

none_step : (b : Bool) (e : GraphEdge) (past : ℕ) (rest : Contact) → b ≡ false → rest ≡ no_contact past
    → cond b (added e.contact rest) rest ≡ no_contact past
none_step true e past rest test none = absurd (false≢true (sym test))
none_step false e past rest test none = none

pub joint-none : (past : ℕ) (p : GraphEdge → Bool) (es : List GraphEdge)
    → ((e : GraphEdge) → Contains es e → p e ≡ false) → joint past p es ≡ no_contact past
unfolding joint
joint-none past p [] fails = refl
joint-none past p (e ∷ es) fails =
    none_step (p e) e past (joint past p es) (fails e (contains_head e es))
    (joint-none past p es (λ f inside. fails f (contains_tail e f es inside)))

-- edges that are changed in their names alone
map_step : (b : Bool) (c d : Contact) (rest rest' : Contact) → c ≡ d → rest ≡ rest'
    → cond b (added c rest) rest ≡ cond b (added d rest') rest'
map_step b c d rest rest' same rests = λ i. cond b (added (same i) (rests i)) (rests i)

pub joint-map : (past : ℕ) (p : GraphEdge → Bool) (f : GraphEdge → GraphEdge) (es : List GraphEdge)
    → ((e : GraphEdge) → (f e).contact ≡ e.contact) → joint past p (map f es) ≡ joint past (λ e. p (f e)) es
unfolding joint
joint-map past p f [] same = refl
joint-map past p f (e ∷ es) same =
    map_step (p (f e)) (f e).contact e.contact (joint past p (map f es)) (joint past (λ z. p (f z)) es) (same e)
    (joint-map past p f es same)

-- two tests that no edge passes both
or_step : (b c : Bool) (d x y z : Contact) → (b && c) ≡ false → z ≡ added x y
    → cond (b || c) (added d z) z ≡ added (cond b (added d x) x) (cond c (added d y) y)
or_step true true d x y z apart same = absurd (false≢true (sym apart))
or_step true false d x y z apart same = ap (added d) same ∙ sym (added_assoc d x y)
or_step false true d x y z apart same =
    ap (added d) (same ∙ added_comm x y) ∙ sym (added_assoc d y x) ∙ added_comm (added d y) x
or_step false false d x y z apart same = same

none_or : (past : ℕ) → no_contact past ≡ added (no_contact past) (no_contact past)
none_or past = same_contact (no_contact past) (added (no_contact past) (no_contact past)) refl refl (omega arith)

pub joint-or : (past : ℕ) (p q : GraphEdge → Bool) (es : List GraphEdge) → ((e : GraphEdge) → (p e && q e) ≡ false)
    → joint past (λ e. p e || q e) es ≡ added (joint past p es) (joint past q es)
unfolding joint
joint-or past p q [] apart = none_or past
joint-or past p q (e ∷ es) apart =
    or_step (p e) (q e) e.contact (joint past p es) (joint past q es) (joint past (λ z. p z || q z) es) (apart e)
    (joint-or past p q es apart)

-- one list after another
append_step : (b : Bool) (d x y z : Contact) → z ≡ added x y
    → cond b (added d z) z ≡ added (cond b (added d x) x) y
append_step true d x y z same = ap (added d) same ∙ sym (added_assoc d x y)
append_step false d x y z same = same

pub joint-tie-le : (past : ℕ) (p : GraphEdge → Bool) (es : List GraphEdge) → (joint past p es).tie ≤ past
unfolding joint
joint-tie-le past p [] = omega arith
joint-tie-le past p (e ∷ es) = step (p e) e.contact (joint past p es) (joint-tie-le past p es)
  where
    step : (b : Bool) (c d : Contact) → d.tie ≤ past → (cond b (added c d) d).tie ≤ past
    step true c d low = omega arith
    step false c d low = low

-- no contact adds nothing to a contact whose tie is no greater
pub added-none : (past : ℕ) (c : Contact) → c.tie ≤ past → added c (no_contact past) ≡ c
added-none past c low = same_contact (added c (no_contact past)) c (omega arith) (omega arith) (omega arith)

pub none-added : (past : ℕ) (c : Contact) → c.tie ≤ past → added (no_contact past) c ≡ c
none-added past c low = same_contact (added (no_contact past) c) c (omega arith) (omega arith) (omega arith)

pub joint-append : (past : ℕ) (p : GraphEdge → Bool) (es fs : List GraphEdge)
    → joint past p (es ++ fs) ≡ added (joint past p es) (joint past p fs)
unfolding joint
joint-append past p [] fs = sym (none-added past (joint past p fs) (joint-tie-le past p fs))
joint-append past p (e ∷ es) fs =
    append_step (p e) e.contact (joint past p es) (joint past p fs) (joint past p (es ++ fs)) (joint-append past p es fs)

-- where the edges that pass have an edge of the grid, one passes
pub joint-some : (past : ℕ) (p : GraphEdge → Bool) (es : List GraphEdge) → 0 < (joint past p es).count
    → (e : GraphEdge) × Contains es e × (p e ≡ true)
unfolding joint
joint-some past p [] some = absurd (omega arith)
joint-some past p (e ∷ es) some = by_cases (joint-some past p es) (p e) refl
  where
    by_cases : (0 < (joint past p es).count → (f : GraphEdge) × Contains es f × (p f ≡ true))
        → (b : Bool) → p e ≡ b → (f : GraphEdge) × Contains (e ∷ es) f × (p f ≡ true)
    by_cases rest true pass = (e, contains_head e es, pass)
    by_cases rest false fail =
        let later = rest (subst (λ b. 0 < (cond b (added e.contact (joint past p es)) (joint past p es)).count) fail some) in
        (later.0, contains_tail e later.0 es later.1, later.2)

-- an edge that passes counts
pub joint-count : (past : ℕ) (p : GraphEdge → Bool) (es : List GraphEdge) (e : GraphEdge) → Contains es e → p e ≡ true
    → e.contact.count ≤ (joint past p es).count
unfolding joint
joint-count past p [] e inside pass = absurd (contains_none e inside)
joint-count past p (f ∷ es) e inside pass = elim (contains_cases f e es inside) [
  | inl same ↦ here (p f) (ap p same ∙ pass) (ap (λ z. z.contact.count) same)
  | inr later ↦ there (p f) (joint-count past p es e later pass)
]
  where
    here : (b : Bool) → b ≡ true → f.contact.count ≡ e.contact.count
        → e.contact.count ≤ (cond b (added f.contact (joint past p es)) (joint past p es)).count
    here true b same = omega arith
    here false b same = absurd (false≢true b)

    there : (b : Bool) → e.contact.count ≤ (joint past p es).count
        → e.contact.count ≤ (cond b (added f.contact (joint past p es)) (joint past p es)).count
    there true low = omega arith
    there false low = low

pub joint-tie : (past : ℕ) (p : GraphEdge → Bool) (es : List GraphEdge) (e : GraphEdge) → Contains es e → p e ≡ true
    → (joint past p es).tie ≤ e.contact.tie
unfolding joint
joint-tie past p [] e inside pass = absurd (contains_none e inside)
joint-tie past p (f ∷ es) e inside pass = elim (contains_cases f e es inside) [
  | inl same ↦ here (p f) (ap p same ∙ pass) (ap (λ z. z.contact.tie) same)
  | inr later ↦ there (p f) (joint-tie past p es e later pass)
]
  where
    here : (b : Bool) → b ≡ true → f.contact.tie ≡ e.contact.tie
        → (cond b (added f.contact (joint past p es)) (joint past p es)).tie ≤ e.contact.tie
    here true b same = omega arith
    here false b same = absurd (false≢true b)

    there : (b : Bool) → (joint past p es).tie ≤ e.contact.tie
        → (cond b (added f.contact (joint past p es)) (joint past p es)).tie ≤ e.contact.tie
    there true low = omega arith
    there false low = low

-- the tie is the greatest number that is no greater than `past` and the ties of the edges that pass
pub joint-tie-most : (past : ℕ) (p : GraphEdge → Bool) (es : List GraphEdge) (n : ℕ) → n ≤ past
    → ((e : GraphEdge) → Contains es e → p e ≡ true → n ≤ e.contact.tie) → n ≤ (joint past p es).tie
unfolding joint
joint-tie-most past p [] n low each = low
joint-tie-most past p (e ∷ es) n low each =
    step (p e) (λ pass. each e (contains_head e es) pass)
    (joint-tie-most past p es n low (λ f inside. each f (contains_tail e f es inside)))
  where
    step : (b : Bool) → (b ≡ true → n ≤ e.contact.tie) → n ≤ (joint past p es).tie
        → n ≤ (cond b (added e.contact (joint past p es)) (joint past p es)).tie
    step true here rest = let one = here refl in omega arith
    step false here rest = rest

-- the same edges in another order
joint-sum : (past : ℕ) (p : GraphEdge → Bool) (es : List GraphEdge)
    → (joint past p es).sum ≡ sum_by (λ e. cond (p e) e.contact.sum 0) es
unfolding joint
joint-sum past p [] = refl
joint-sum past p (e ∷ es) =
    step (p e) (joint-sum past p es) ∙ sym (sum_by-cons (λ f. cond (p f) f.contact.sum 0) e es)
  where
    step : (b : Bool) → (joint past p es).sum ≡ sum_by (λ f. cond (p f) f.contact.sum 0) es
        → (cond b (added e.contact (joint past p es)) (joint past p es)).sum
        ≡ cond b e.contact.sum 0 + sum_by (λ f. cond (p f) f.contact.sum 0) es
    step true same = omega arith
    step false same = omega arith

joint-counts : (past : ℕ) (p : GraphEdge → Bool) (es : List GraphEdge)
    → (joint past p es).count ≡ sum_by (λ e. cond (p e) e.contact.count 0) es
unfolding joint
joint-counts past p [] = refl
joint-counts past p (e ∷ es) =
    step (p e) (joint-counts past p es) ∙ sym (sum_by-cons (λ f. cond (p f) f.contact.count 0) e es)
  where
    step : (b : Bool) → (joint past p es).count ≡ sum_by (λ f. cond (p f) f.contact.count 0) es
        → (cond b (added e.contact (joint past p es)) (joint past p es)).count
        ≡ cond b e.contact.count 0 + sum_by (λ f. cond (p f) f.contact.count 0) es
    step true same = omega arith
    step false same = omega arith

pub joint-permutation : (past : ℕ) (p : GraphEdge → Bool) (es fs : List GraphEdge) → IsPermutation es fs
    → joint past p fs ≡ joint past p es
joint-permutation past p es fs moved =
    let back = IsPermutation-sym es fs moved in
    let down = joint-tie-most past p es (joint past p fs).tie (joint-tie-le past p fs)
    (λ e inside pass. joint-tie past p fs e (Contains-permutation es fs e moved inside) pass) in
    let up = joint-tie-most past p fs (joint past p es).tie (joint-tie-le past p es)
    (λ e inside pass. joint-tie past p es e (Contains-permutation fs es e back inside) pass) in
    same_contact (joint past p fs) (joint past p es)
    (joint-sum past p fs ∙ sum_by-IsPermutation (λ e. cond (p e) e.contact.sum 0) es fs moved ∙ sym (joint-sum past p es))
    (joint-counts past p fs ∙ sum_by-IsPermutation (λ e. cond (p e) e.contact.count 0) es fs moved
    ∙ sym (joint-counts past p es))
    (omega (arith, down, up))

pub contact_in-append : (past x y : ℕ) (es fs : List GraphEdge)
    → contact_in past (es ++ fs) x y ≡ added (contact_in past es x y) (contact_in past fs x y)
contact_in-append past x y es fs =
    contact_in-is past x y (es ++ fs) ∙ joint-append past (is_between x y) es fs
    ∙ (λ i. added (sym (contact_in-is past x y es) i) (sym (contact_in-is past x y fs) i))

pub contact_in-tie-le : (past x y : ℕ) (es : List GraphEdge) → (contact_in past es x y).tie ≤ past
contact_in-tie-le past x y es =
    subst (λ c. c.tie ≤ past) (sym (contact_in-is past x y es)) (joint-tie-le past (is_between x y) es)

-- an edge alone
alone : ℕ → Bool → Contact → Contact
alone past b c = cond b (added c (no_contact past)) (no_contact past)

contact_in-alone : (past x y : ℕ) (e : GraphEdge) → contact_in past (e ∷ []) x y ≡ alone past (is_between x y e) e.contact
unfolding joint alone
contact_in-alone past x y e = contact_in-is past x y (e ∷ [])

alone-none : (past : ℕ) (b : Bool) (c : Contact) → b ≡ false → alone past b c ≡ no_contact past
unfolding alone
alone-none past true c other = absurd (false≢true (sym other))
alone-none past false c other = refl

alone-added : (past : ℕ) (b : Bool) (c d : Contact) → alone past b (added c d) ≡ added (alone past b c) (alone past b d)
unfolding alone
alone-added past true c d =
    same_contact (added (added c d) (no_contact past)) (added (added c (no_contact past)) (added d (no_contact past)))
    (omega arith) (omega arith) (omega arith)
alone-added past false c d = none_or past

-- an edge that is not between the names adds nothing
pub contact_in-other : (past x y : ℕ) (es : List GraphEdge) (e : GraphEdge) → is_between x y e ≡ false
    → contact_in past (es ++ e ∷ []) x y ≡ contact_in past es x y
contact_in-other past x y es e other =
    contact_in-append past x y es (e ∷ [])
    ∙ ap (added (contact_in past es x y)) (contact_in-alone past x y e ∙ alone-none past (is_between x y e) e.contact other)
    ∙ added-none past (contact_in past es x y) (contact_in-tie-le past x y es)

-- two lists that go on with edges that are between the names alike
pub contact_in-alike : (past x y : ℕ) (es fs : List GraphEdge) (e f : GraphEdge) → is_between x y e ≡ is_between x y f
    → e.contact ≡ f.contact → contact_in past es x y ≡ contact_in past fs x y
    → contact_in past (es ++ e ∷ []) x y ≡ contact_in past (fs ++ f ∷ []) x y
contact_in-alike past x y es fs e f alike same rest =
    contact_in-append past x y es (e ∷ [])
    ∙ (λ i. added (rest i) ((contact_in-alone past x y e ∙ (λ j. alone past (alike j) (same j)) ∙ sym (contact_in-alone past x y f)) i))
    ∙ sym (contact_in-append past x y fs (f ∷ []))

-- an edge that takes another between the same names
pub contact_in-taken : (past x y : ℕ) (es : List GraphEdge) (e f both : GraphEdge) → is_between x y both ≡ is_between x y e
    → is_between x y f ≡ is_between x y e → both.contact ≡ added e.contact f.contact
    → contact_in past (es ++ both ∷ []) x y ≡ contact_in past ((es ++ e ∷ []) ++ f ∷ []) x y
contact_in-taken past x y es e f both alike alike' sum =
    let t = is_between x y e in
    let of_f : alone past t f.contact ≡ contact_in past (f ∷ []) x y =
    (λ j. alone past (sym alike' j) f.contact) ∙ sym (contact_in-alone past x y f) in
    contact_in-append past x y es (both ∷ [])
    ∙ ap (added (contact_in past es x y))
    (contact_in-alone past x y both ∙ (λ i. alone past (alike i) (sum i)) ∙ alone-added past t e.contact f.contact)
    ∙ sym (added_assoc (contact_in past es x y) (alone past t e.contact) (alone past t f.contact))
    ∙ (λ i. added (added (contact_in past es x y) (sym (contact_in-alone past x y e) i)) (of_f i))
    ∙ (λ i. added (sym (contact_in-append past x y es (e ∷ [])) i) (contact_in past (f ∷ []) x y))
    ∙ sym (contact_in-append past x y (es ++ e ∷ []) (f ∷ []))
