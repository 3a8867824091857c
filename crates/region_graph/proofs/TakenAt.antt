-- Lists in which one edge or region took in another, which is the same as a list with that one at its end.
use Rattle.std.proofs.Common.{◌≡◌, ◌≢◌, ℕ, zero, suc, ◌+◌, ◌<◌, ◌≤◌, Bool, true, false, cond, ◌&&◌, ◌||◌, eqb, List, [], ◌∷◌, ◌++◌, length, get_or, set, refl, sym, ap, ◌∙◌, subst, arith}
use Rattle.std.specs.List.{list_any}
use Rattle.std.proofs.lemmas.List.Sums.{sum_by-set}
use Rattle.std.proofs.lemmas.List.Elements.{All-get_or, All-set}
use Rattle.std.proofs.lemmas.List.Folds.{list_any-append}
use Rattle.std.proofs.Math.Bool.{or_self, and-or_distrib_left}
use Rattle.agglo_model.specs.PairOrder.{Contact, added}
use Rattle.agglo_model.specs.Contacts.{are}
use Rattle.agglo_model.specs.RegionGraph.{Region, GraphEdge, is_between, no_contact, contact_in}
use Rattle.agglo_model.proofs.GraphContacts.{same_contact, joint, joint-append, joint-tie-le, contact_in-is, added-none}
use Rattle.region_graph.specs.Lists.{AreNamed, AreOrdered, SameContacts, SameRegions, count_of, with_contact, with_faces_of}
use Rattle.region_graph.proofs.EdgeSums.{joint-one}
use Rattle.region_graph.proofs.RegionLists.{has_bit, has_bit-or, names_face, same_regions}

-- ---- edges

take_step : (past : ℕ) (b c : Bool) (l e most rest : Contact) → b ≡ c → most.tie ≤ past
    → rest ≡ added most (cond c (added e (no_contact past)) (no_contact past))
    → cond b (added (added l e) most) most ≡ cond b (added l rest) rest
take_step past true true l e most rest same low is =
    same_contact (added (added l e) most) (added l (added most (added e (no_contact past)))) (omega arith) (omega arith) (omega arith)
    ∙ ap (added l) (sym is)
take_step past false false l e most rest same low is = sym (is ∙ added-none past most low)
take_step past true false l e most rest same low is = cc
take_step past false true l e most rest same low is = cc

set_joint : (past x y : ℕ) (es : List GraphEdge) (i : ℕ) (e d : GraphEdge) → i < length es
    → is_between x y (get_or es i d) ≡ is_between x y e
    → joint past (is_between x y) (set es i (with_contact (get_or es i d) e)) ≡ joint past (is_between x y) (es ++ e ∷ [])
unfolding joint
set_joint past x y [] i e d below same = absurd (omega arith)
set_joint past x y (l ∷ es) zero e d below same =
    take_step past (is_between x y l) (is_between x y e) l.contact e.contact (joint past (is_between x y) es)
    (joint past (is_between x y) (es ++ e ∷ [])) same (joint-tie-le past (is_between x y) es)
    (joint-append past (is_between x y) es (e ∷ [])
    ∙ ap (added (joint past (is_between x y) es)) (joint-one past (is_between x y) e))
set_joint past x y (l ∷ es) (suc i) e d below same =
    let rest = set_joint past x y es i e d (omega arith) same in
    λ k. cond (is_between x y l) (added l.contact (rest k)) (rest k)

module _ (es fs : List GraphEdge) (i : ℕ) (e d : GraphEdge) (below : i < length es)
    (fs_is : fs ≡ set es i (with_contact (get_or es i d) e)) where
  pub taken_at-contacts : (get_or es i d).a ≡ e.a → (get_or es i d).b ≡ e.b → SameContacts (es ++ e ∷ []) fs
  taken_at-contacts a b past x y =
      ap (λ gs. contact_in past gs x y) fs_is
      ∙ contact_in-is past x y (set es i (with_contact (get_or es i d) e))
      ∙ set_joint past x y es i e d below (λ k. are (a k) (b k) x y)
      ∙ sym (contact_in-is past x y (es ++ e ∷ []))

  pub taken_at-count : count_of fs ≡ count_of es + e.contact.count
  taken_at-count =
      let moved = sum_by-set (λ f. f.contact.count) es i (with_contact (get_or es i d) e) d below in
      let same = ap count_of fs_is in
      omega (arith, moved, same)

  pub taken_at-ordered : AreOrdered es → AreOrdered fs
  taken_at-ordered ordered =
      subst AreOrdered (sym fs_is)
      (All-set (λ f. f.a < f.b) es i (with_contact (get_or es i d) e) (All-get_or (λ f. f.a < f.b) es i d below ordered) ordered)

-- ---- regions

any_step : (a b c : Bool) → ((a || c) || b) ≡ (a || (b || (c || false)))
any_step true b c = refl
any_step false true true = refl
any_step false true false = refl
any_step false false true = refl
any_step false false false = refl

set_any : {X : Type 0} (p : X → Bool) (xs : List X) (i : ℕ) (y x d : X) → i < length xs → p y ≡ (p (get_or xs i d) || p x)
    → list_any p (set xs i y) ≡ list_any p (xs ++ x ∷ [])
set_any p [] i y x d below both = absurd (omega arith)
set_any p (z ∷ xs) zero y x d below both =
    ap (λ b. b || list_any p xs) both ∙ any_step (p z) (list_any p xs) (p x)
    ∙ ap (λ b. p z || b) (sym (list_any-append p xs (x ∷ [])))
set_any p (z ∷ xs) (suc i) y x d below both = ap (λ b. p z || b) (set_any p xs i y x d (omega arith) both)

module _ (rs qs : List Region) (i : ℕ) (r d : Region) (below : i < length rs) (name : (get_or rs i d).name ≡ r.name)
    (qs_is : qs ≡ set rs i (with_faces_of (get_or rs i d) r)) where
  pub taken_at-regions : SameRegions (rs ++ r ∷ []) qs
  taken_at-regions =
      let l = get_or rs i d in
      let w = with_faces_of l r in
      subst (SameRegions (rs ++ r ∷ [])) (sym qs_is) (same_regions (rs ++ r ∷ []) (set rs i w) (record {
        names = λ x. set_any (λ (q : Region). eqb q.name x) rs i w r d below
            (sym (or_self (eqb l.name x)) ∙ (λ k. eqb l.name x || eqb (name k) x));
        faces = λ x b. set_any (names_face x b) rs i w r d below
            (ap (λ t. eqb l.name x && t) (has_bit-or l.faces r.faces b)
            ∙ and-or_distrib_left (eqb l.name x) (has_bit l.faces b) (has_bit r.faces b)
            ∙ (λ k. (eqb l.name x && has_bit l.faces b) || (eqb (name k) x && has_bit r.faces b)));
      }))

  pub taken_at-named : AreNamed rs → AreNamed qs
  taken_at-named named =
      subst AreNamed (sym qs_is)
      (All-set (λ q. q.name ≢ 0) rs i (with_faces_of (get_or rs i d) r) (All-get_or (λ q. q.name ≢ 0) rs i d below named) named)
