use Rattle.std.proofs.Common.{◌≡◌, ◌∙◌, ◌+◌, ◌++◌, ◌∷◌, [], ℕ, List, Bool, length, sym, ap, subst, arith}
use Rattle.std.proofs.lemmas.List.{get_or_read}
use Rattle.agglo_model.specs.RegionGraph.{Region}
use Rattle.mutual_merge.proofs.KeptPlaces.{AreKeptTo, kept_skip, kept_take}
use Rattle.mutual_merge.proofs.trimming.keep.Goals as goal
use Rattle.mutual_merge.proofs.trimming.keep.Goals.{then-kept-place+in_ok-push-2, else-kept-place}

pub loop-place-preserved : goal.loop-place-preserved
loop-place-preserved c =
    let rs : List Region = c.args.regions.now in
    let kept : List Bool = c.args.kept.now in
    let i : ℕ = c.loop-place.place in
    let left : List Region = c.loop-place.left.items in
    let places : List ℕ = c.loop-place.places.items in
    let r : Region = c.index-regions-place.result in
    let here = get_or_read rs i r c.loop-place-test.true c.index-regions-place.is (record { name = 0; faces = 0 }) in
    let count : c.len.result ≡ length left = omega arith in
    let noted : c.push.new.self.items ≡ places ++ length left ∷ [] = c.in_ok-push.ensures.items ∙ ap (λ n. places ++ n ∷ []) count in
    subst (AreKeptTo rs kept (i + 1) c.if-kept-place.left.items) (sym noted)
    (elim c.if-kept-place.branch [
      | then-kept-place+in_ok-push-2 w ↦
          subst (λ rs'. AreKeptTo rs kept (i + 1) rs' (places ++ length left ∷ [])) (sym (ap (λ v. v.items) w.left-is ∙ w.in_ok-push-2.ensures.items))
          (kept_take rs kept i left places c.loop-place.invariant r (sym here) w.if-kept-place.true)
      | else-kept-place w ↦
          subst (λ rs'. AreKeptTo rs kept (i + 1) rs' (places ++ length left ∷ [])) (sym (ap (λ v. v.items) w.left-is))
          (kept_skip rs kept i left places c.loop-place.invariant w.if-kept-place.false)
    ])
