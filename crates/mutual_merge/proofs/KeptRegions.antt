-- Which regions are left, and the graph of those.
use Rattle.std.proofs.Common.{◌≡◌, ◌≢◌, ◌⊎◌, inl, inr, ℕ, ◌+◌, ◌<◌, Bool, true, false, cond, List, [], ◌∷◌, ◌++◌, length, set, refl, sym, ap, ◌∙◌, subst, arith}
use Rattle.std.specs.Prelude.{◌↔◌, IsTrue, bit_and, map, filter}
use Rattle.std.specs.List.{range_with_len}
use Rattle.std.proofs.lemmas.List.{append-nil, map-append, length-set, get_or-set_same, get_or-set_other}
use Rattle.std.proofs.lemmas.List.Elements.{filter-append, Contains-push, Contains-push_cases, Contains-append_left}
use Rattle.agglo_model.specs.PairOrder.{Threshold, Reaches}
use Rattle.agglo_model.specs.RegionGraph.{Region}
use Rattle.agglo_model.proofs.Names.{range_more}
use Rattle.mutual_merge.specs.declared.links.Link.{Link}
use Rattle.mutual_merge.specs.Linked.{IsLink, IsAtPlace, region_at, faces_at}
use Rattle.mutual_merge.specs.Left.{AreHeldBack, AreLeft, HasReaching, KeepsReaching, is_kept}
use Rattle.mutual_merge.proofs.RegionPlaces.{place_cases}

-- which of the first i regions are held back
pub record HeldSoFar (faces : ℕ) (regions : List Region) (i : ℕ) (held : List Bool) : Type 0 where
  pub one_each : length held ≡ i
  pub each : (k : ℕ) → k < i → IsTrue (is_kept held k) ↔ (bit_and (faces_at regions k) faces ≢ 0)

-- the regions of a link are kept
abbrev pub ends_kept : List Bool → Link → List Bool
ends_kept kept l = set (set kept l.a true) l.b true

more_reaching : (t : Threshold) (links : List Link) (l : Link) (k : ℕ) → HasReaching t links k → HasReaching t (links ++ l ∷ []) k
more_reaching t links l k (m, inside, at_k, reaches) = (m, Contains-append_left links (l ∷ []) m inside, at_k, reaches)

-- a link that doesn't reach adds nothing
pub KeepsReaching-skip : (t : Threshold) (links : List Link) (old new : List Bool) (l : Link) → KeepsReaching t links old new
    → ¬ (Reaches t l.contact) → KeepsReaching t (links ++ l ∷ []) old new
KeepsReaching-skip t links old new l so_far low = record {
  one_each = so_far.one_each;
  each = λ k below. (
    λ kept. elim ((so_far.each k below).0 kept) [ inl own ↦ inl own | inr reaching ↦ inr (more_reaching t links l k reaching) ],
    λ cases. elim cases [
      | inl own ↦ (so_far.each k below).1 (inl own)
      | inr (m, inside, at_k, reaches) ↦ elim (Contains-push_cases links l m inside) [
        | inl before ↦ (so_far.each k below).1 (inr (m, before, at_k, reaches))
        | inr same ↦ absurd (low (subst (λ z. Reaches t z.contact) (sym same) reaches))
      ]
    ],
  );
}

pub KeepsReaching-take : (t : Threshold) (links : List Link) (old new : List Bool) (l : Link) → KeepsReaching t links old new
    → IsLink (length old) l → Reaches t l.contact → KeepsReaching t (links ++ l ∷ []) old (ends_kept new l)
KeepsReaching-take t links old new l so_far is reaches = record {
  one_each = length-set (set new l.a true) l.b true ∙ length-set new l.a true ∙ so_far.one_each;
  each = λ k below. by_cases k below (place_cases k l.a l.b);
}
  where
    b_in : l.b < length (set new l.a true)
    b_in = let len = length-set new l.a true in let own = so_far.one_each in let low = is.inside in omega arith

    a_in : l.a < length new
    a_in = let own = so_far.one_each in let up = is.ordered in let low = is.inside in omega arith

    b_kept : is_kept (ends_kept new l) l.b ≡ true
    b_kept = get_or-set_same (set new l.a true) l.b true false b_in

    a_kept : is_kept (ends_kept new l) l.a ≡ true
    a_kept = get_or-set_other (set new l.a true) l.b l.a true false (let up = is.ordered in λ e. omega arith)
        ∙ get_or-set_same new l.a true false a_in

    by_cases : (k : ℕ) → k < length old → (k ≡ l.a) ⊎ (k ≡ l.b) ⊎ ((l.a ≢ k) × (l.b ≢ k))
        → IsTrue (is_kept (ends_kept new l) k) ↔ (IsTrue (is_kept old k) ⊎ HasReaching t (links ++ l ∷ []) k)
    by_cases k below (inl same) =
        (λ kept. inr (l, Contains-push links l, inl (sym same), reaches), λ cases. ap (is_kept (ends_kept new l)) same ∙ a_kept)
    by_cases k below (inr (inl same)) =
        (λ kept. inr (l, Contains-push links l, inr (sym same), reaches), λ cases. ap (is_kept (ends_kept new l)) same ∙ b_kept)
    by_cases k below (inr (inr (not_a, not_b))) =
        let stays : is_kept (ends_kept new l) k ≡ is_kept new k =
        get_or-set_other (set new l.a true) l.b k true false (λ e. not_b (sym e))
        ∙ get_or-set_other new l.a k true false (λ e. not_a (sym e)) in (
          λ kept. elim ((so_far.each k below).0 (sym stays ∙ kept)) [ inl own ↦ inl own | inr reaching ↦ inr (more_reaching t links l k reaching) ],
          λ cases. elim cases [
            | inl own ↦ stays ∙ (so_far.each k below).1 (inl own)
            | inr (m, inside, at_k, reaches') ↦ elim (Contains-push_cases links l m inside) [
              | inl before ↦ stays ∙ (so_far.each k below).1 (inr (m, before, at_k, reaches'))
              | inr same ↦ elim (subst (IsAtPlace k) (sym same) at_k) [ inl a ↦ absurd (not_a a) | inr b ↦ absurd (not_b b) ]
            ]
          ],
        )

pub AreLeft-from : (t : Threshold) (faces : ℕ) (regions : List Region) (links : List Link) (held kept : List Bool)
    → AreHeldBack faces regions held → KeepsReaching t links held kept → AreLeft t faces regions links kept
AreLeft-from t faces regions links held kept are_held keeps = record {
  one_each = keeps.one_each ∙ are_held.one_each;
  each = λ k below.
      let len = are_held.one_each in
      let all = keeps.each k (omega arith) in
      let own = are_held.each k below in (
        λ is. elim (all.0 is) [ inl here ↦ inl (own.0 here) | inr reaching ↦ inr reaching ],
        λ left. elim left [ inl here ↦ all.1 (inl (own.1 here)) | inr reaching ↦ all.1 (inr reaching) ],
      );
}

-- the regions that are kept of one more place
kept_upto-more : (regions : List Region) (kept : List Bool) (i : ℕ)
    → map (region_at regions) (filter (is_kept kept) (range_with_len 0 (i + 1)))
    ≡ map (region_at regions) (filter (is_kept kept) (range_with_len 0 i)) ++ cond (is_kept kept i) (region_at regions i ∷ []) []
kept_upto-more regions kept i =
    ap (λ xs. map (region_at regions) (filter (is_kept kept) xs)) (range_more i)
    ∙ ap (map (region_at regions)) (filter-append (is_kept kept) (range_with_len 0 i) (i ∷ []))
    ∙ map-append (region_at regions) (filter (is_kept kept) (range_with_len 0 i)) (filter (is_kept kept) (i ∷ []))
    ∙ ap (λ xs. map (region_at regions) (filter (is_kept kept) (range_with_len 0 i)) ++ xs) (one (is_kept kept i))
  where
    one : (b : Bool) → map (region_at regions) (cond b (i ∷ []) []) ≡ cond b (region_at regions i ∷ []) []
    one true = refl
    one false = refl

pub kept_upto-take : (regions : List Region) (kept : List Bool) (i : ℕ) → is_kept kept i ≡ true
    → map (region_at regions) (filter (is_kept kept) (range_with_len 0 (i + 1)))
    ≡ map (region_at regions) (filter (is_kept kept) (range_with_len 0 i)) ++ region_at regions i ∷ []
kept_upto-take regions kept i pass =
    kept_upto-more regions kept i
    ∙ ap (λ b. map (region_at regions) (filter (is_kept kept) (range_with_len 0 i)) ++ cond b (region_at regions i ∷ []) []) pass

pub kept_upto-skip : (regions : List Region) (kept : List Bool) (i : ℕ) → is_kept kept i ≡ false
    → map (region_at regions) (filter (is_kept kept) (range_with_len 0 (i + 1)))
    ≡ map (region_at regions) (filter (is_kept kept) (range_with_len 0 i))
kept_upto-skip regions kept i fail =
    kept_upto-more regions kept i
    ∙ ap (λ b. map (region_at regions) (filter (is_kept kept) (range_with_len 0 i)) ++ cond b (region_at regions i ∷ []) []) fail
    ∙ append-nil (map (region_at regions) (filter (is_kept kept) (range_with_len 0 i)))
