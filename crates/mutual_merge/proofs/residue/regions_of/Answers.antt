use Rattle.std.proofs.Common.{◌∙◌, ◌++◌, ◌∷◌, [], ℕ, List, Bool, sym, ap}
use Rattle.std.proofs.lemmas.List.{get_or_read}
use Rattle.agglo_model.specs.RegionGraph.{Region}
use Rattle.mutual_merge.proofs.KeptRegions.{kept_upto-take, kept_upto-skip}
use Rattle.mutual_merge.proofs.residue.regions_of.Goals as goal
use Rattle.mutual_merge.proofs.residue.regions_of.Goals.{then-kept-place+in_ok-push, else-kept-place}

pub loop-place-preserved : goal.loop-place-preserved
loop-place-preserved c =
    let rs : List Region = c.args.regions.now in
    let kept : List Bool = c.args.kept.now in
    let i : ℕ = c.loop-place.place in
    let r : Region = c.index-regions-place.result in
    let here = get_or_read rs i r c.loop-place-test.true c.index-regions-place.is (record { name = 0; faces = 0 }) in
    elim c.if-kept-place.branch [
      | then-kept-place+in_ok-push w ↦
          ap (λ v. v.items) w.left-is ∙ w.in_ok-push.ensures.items
          ∙ (λ j. c.loop-place.invariant j ++ here j ∷ [])
          ∙ sym (kept_upto-take rs kept i w.if-kept-place.true)
      | else-kept-place w ↦
          ap (λ v. v.items) w.left-is ∙ c.loop-place.invariant ∙ sym (kept_upto-skip rs kept i w.if-kept-place.false)
    ]
