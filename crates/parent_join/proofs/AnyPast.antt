-- The contact of two names by a list of edges, whatever number past all edges is told.
use Rattle.std.proofs.Common.{◌≡◌, ◌⊎◌, inl, inr, ℕ, ◌<◌, ◌≤◌, min, Bool, true, false, cond, List, [], ◌∷◌, refl, sym, ap, ◌∙◌, subst, eq-zero-or-pos, arith}
use Rattle.std.proofs.lemmas.Bool.{cases_Bool}
use Rattle.std.proofs.lemmas.List.Elements.{All-contains}
use Rattle.agglo_model.specs.PairOrder.{Contact, added}
use Rattle.agglo_model.specs.RegionGraph.{GraphEdge, is_between, no_contact, contact_in}
use Rattle.agglo_model.proofs.GraphContacts.{same_contact, joint, joint-none, joint-count, joint-tie-le, contact_in-is}
use Rattle.work_laws.proofs.AddedContacts.{listed, listed-none, listed-some}
use Rattle.region_graph.specs.Lists.{AreTouching}

-- the same sums and counts, and the same tie but for the numbers past all
record AreAlike (past n : ℕ) (d f : Contact) : Type 0 where
  sums : d.sum ≡ f.sum
  counts : d.count ≡ f.count
  ties : min d.tie n ≡ min f.tie past

alike_step : (past n : ℕ) (b : Bool) (d f k : Contact) → AreAlike past n d f → AreAlike past n (cond b (added k d) d) (cond b (added k f) f)
alike_step past n true d f k is = record {
  sums = let s = is.sums in omega arith;
  counts = let s = is.counts in omega arith;
  ties = let s = is.ties in omega arith;
}
alike_step past n false d f k is = is

joint-alike : (past n : ℕ) (p : GraphEdge → Bool) (es : List GraphEdge) → AreAlike past n (joint past p es) (joint n p es)
unfolding joint
joint-alike past n p [] = record { sums = refl; counts = refl; ties = omega arith }
joint-alike past n p (e ∷ es) = alike_step past n (p e) (joint past p es) (joint n p es) e.contact (joint-alike past n p es)

listed_alike : (past n : ℕ) (d f : Contact) → AreAlike past n d f → d.tie ≤ past → 0 < f.count → f.tie < n → d ≡ listed past f
listed_alike past n d f is low some below =
    let sums = is.sums in
    let counts = is.counts in
    let ties = is.ties in
    same_contact d (added f (no_contact past)) (omega arith) (omega arith) (omega arith) ∙ sym (listed-some past f some)

-- where one past is told, the contact is known at each
pub contact_at : (past n x y : ℕ) (es : List GraphEdge) → AreTouching es
    → (0 < (contact_in n es x y).count → (contact_in n es x y).tie < n)
    → contact_in past es x y ≡ listed past (contact_in n es x y)
contact_at past n x y es touching low =
    contact_in-is past x y es
    ∙ by_cases (eq-zero-or-pos (joint n (is_between x y) es).count)
    ∙ ap (listed past) (sym (contact_in-is n x y es))
  where
    by_cases : ((joint n (is_between x y) es).count ≡ 0) ⊎ (0 < (joint n (is_between x y) es).count)
        → joint past (is_between x y) es ≡ listed past (joint n (is_between x y) es)
    by_cases (inl none) =
        joint-none past (is_between x y) es (λ e inside. elim (cases_Bool (is_between x y e)) [
          | inr other ↦ other
          | inl pass ↦
              let more = joint-count n (is_between x y) es e inside pass in
              let some = All-contains (λ f. 0 < f.contact.count) es e touching inside in
              absurd (omega (arith, more, some, none))
        ])
        ∙ sym (listed-none past (joint n (is_between x y) es) none)
    by_cases (inr some) =
        let is = contact_in-is n x y es in
        listed_alike past n (joint past (is_between x y) es) (joint n (is_between x y) es) (joint-alike past n (is_between x y) es)
        (joint-tie-le past (is_between x y) es) some
        (subst (λ d. d.tie < n) is (low (subst (λ d. 0 < d.count) (sym is) some)))
