-- A list of graph edges with some of them written: what those that pass a test make together.
use Rattle.std.proofs.Common.{◌≡◌, ◌≢◌, ℕ, zero, suc, ◌<◌, Bool, true, false, cond, List, [], ◌∷◌, length, get_or, set, refl, sym, ap, ◌∙◌, arith}
use Rattle.std.proofs.lemmas.Bool.{false≢true}
use Rattle.std.proofs.lemmas.List.{length-set, get_or-set_same, get_or-set_other, set-set, set_comm}
use Rattle.agglo_model.specs.PairOrder.{Contact, added}
use Rattle.agglo_model.specs.RegionGraph.{GraphEdge, no_contact}
use Rattle.agglo_model.proofs.GraphContacts.{joint, joint-tie-le, added_comm, added_assoc, added-none, none-added}

-- what an edge adds to the others
part : ℕ → Bool → Contact → Contact
part past b c = cond b c (no_contact past)

part-added : (past : ℕ) (b : Bool) (c d : Contact) → part past b (added c d) ≡ added (part past b c) (part past b d)
unfolding part
part-added past true c d = refl
part-added past false c d = sym (added-none past (no_contact past) (omega arith))

swapped_parts : (c d e : Contact) → added c (added d e) ≡ added d (added c e)
swapped_parts c d e = sym (added_assoc c d e) ∙ ap (λ z. added z e) (added_comm c d) ∙ added_assoc d c e

-- one edge is written by one that does not pass
joint-without : (past : ℕ) (p : GraphEdge → Bool) (es : List GraphEdge) (i : ℕ) (gone d : GraphEdge) → i < length es → p gone ≡ false
    → joint past p es ≡ added (part past (p (get_or es i d)) (get_or es i d).contact) (joint past p (set es i gone))
unfolding joint part
joint-without past p [] i gone d below fails = absurd (omega arith)
joint-without past p (e ∷ es) zero gone d below fails =
    here (p e) (p gone) e.contact (joint past p es) fails (none-added past (joint past p es) (joint-tie-le past p es))
  where
    here : (b b' : Bool) (c rest : Contact) → b' ≡ false → added (no_contact past) rest ≡ rest
        → cond b (added c rest) rest ≡ added (part past b c) (cond b' (added gone.contact rest) rest)
    here b true c rest fail none = absurd (false≢true (sym fail))
    here true false c rest fail none = refl
    here false false c rest fail none = sym none
joint-without past p (e ∷ es) (suc i) gone d below fails =
    there (p e) (part past (p (get_or es i d)) (get_or es i d).contact) (joint past p es) (joint past p (set es i gone))
    (joint-without past p es i gone d (omega arith) fails)
  where
    there : (b : Bool) (c rest others : Contact) → rest ≡ added c others
        → cond b (added e.contact rest) rest ≡ added c (cond b (added e.contact others) others)
    there true c rest others same = ap (added e.contact) same ∙ swapped_parts e.contact c others
    there false c rest others same = same

-- an edge takes another that passes with it, and the other is written by one that does not pass
pub record IsTakenEdge (p : GraphEdge → Bool) (es : List GraphEdge) (into index : ℕ) (both gone d : GraphEdge) : Type 0 where
  pub apart : into ≢ index
  pub into_inside : into < length es
  pub index_inside : index < length es
  pub both_pass : p both ≡ p (get_or es into d)
  pub other_pass : p (get_or es index d) ≡ p (get_or es into d)
  pub gone_fails : p gone ≡ false
  pub sum : both.contact ≡ added (get_or es into d).contact (get_or es index d).contact

pub joint-taken : (past : ℕ) (p : GraphEdge → Bool) (es : List GraphEdge) (into index : ℕ) (both gone d : GraphEdge)
    → IsTakenEdge p es into index both gone d
    → joint past p (set (set es into both) index gone) ≡ joint past p es
joint-taken past p es into index both gone d taken =
    ap (joint past p) (set_comm es into index both gone taken.apart)
    ∙ joint-without past p (set (set es index gone) into both) into gone d
    (let a = length-set (set es index gone) into both in let b = length-set es index gone in let c = taken.into_inside in omega arith)
    taken.gone_fails
    ∙ (λ i. added (written i) (joint past p (set-set (set es index gone) into both gone i)))
    ∙ added_assoc one other rest
    ∙ swapped_parts one other rest
    ∙ ap (added other) (sym without_one)
    ∙ sym (joint-without past p es index gone d taken.index_inside taken.gone_fails)
  where
    t : Bool
    t = p (get_or es into d)

    one : Contact
    one = part past t (get_or es into d).contact

    other : Contact
    other = part past (p (get_or es index d)) (get_or es index d).contact

    rest : Contact
    rest = joint past p (set (set es index gone) into gone)

    both_there : get_or (set (set es index gone) into both) into d ≡ both
    both_there = get_or-set_same (set es index gone) into both d (let b = length-set es index gone in let c = taken.into_inside in omega arith)

    written : part past (p (get_or (set (set es index gone) into both) into d)) (get_or (set (set es index gone) into both) into d).contact
        ≡ added one other
    written =
        (λ i. part past (p (both_there i)) (both_there i).contact)
        ∙ (λ i. part past (taken.both_pass i) (taken.sum i))
        ∙ part-added past t (get_or es into d).contact (get_or es index d).contact
        ∙ (λ i. added one (part past (sym taken.other_pass i) (get_or es index d).contact))

    into_there : get_or (set es index gone) into d ≡ get_or es into d
    into_there = get_or-set_other es index into gone d taken.apart

    without_one : joint past p (set es index gone) ≡ added one rest
    without_one =
        joint-without past p (set es index gone) into gone d
        (let b = length-set es index gone in let c = taken.into_inside in omega arith) taken.gone_fails
        ∙ (λ i. added (part past (p (into_there i)) (into_there i).contact) rest)
