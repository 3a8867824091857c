use Rattle.std.proofs.Common.{◌≡◌, ◌∙◌, ◌+◌, ◌++◌, ◌∷◌, [], ℕ, List, length, sym, ap, subst, arith}
use Rattle.agglo_model.specs.RegionGraph.{Region}
use Rattle.mutual_merge.proofs.Survival.{SurvivorsSoFar, AtRegion, step_skip, step_keep, AreSurvivors-all}
use Rattle.mutual_merge.proofs.merging.keep_survivors.Goals as goal
use Rattle.mutual_merge.proofs.merging.keep_survivors.Goals.{then-mate-k+in_ok-push, else-mate-k+in_ok-push-2+in_ok-push-3}

pub loop-k-preserved : goal.loop-k-preserved
loop-k-preserved c =
    let rs : List Region = c.args.regions.now in
    let ms : List ℕ = c.args.mates.now in
    let i : ℕ = c.loop-k.k in
    let kept : List Region = c.loop-k.kept.items in
    let places : List ℕ = c.loop-k.places.items in
    let known : AtRegion rs ms i = record { ascend = c.requires.ascend; mutual_are = c.requires.back; below = c.loop-k-test.true } in
    elim c.if-mate-k.branch [
      | then-mate-k+in_ok-push w ↦
          let more : c.if-mate-k.places.items ≡ places ++ w.index.result.now ∷ [] =
          ap (λ v. v.items) w.places-is ∙ w.in_ok-push.ensures.items in
          let same : c.if-mate-k.kept.items ≡ kept = ap (λ v. v.items) w.kept-is in
          subst (SurvivorsSoFar rs ms (i + 1) c.if-mate-k.kept.items) (sym more)
          (subst (λ k. SurvivorsSoFar rs ms (i + 1) k (places ++ w.index.result.now ∷ [])) (sym same)
          (step_skip rs ms i kept places w.index.result.now c.loop-k.invariant known w.if-mate-k.true w.index.ensures))
      | else-mate-k+in_ok-push-2+in_ok-push-3 w ↦
          let count : w.len.result ≡ length kept = let own = c.loop-k.kept.ok.0 in let e = w.len.ensures in omega arith in
          let more : c.if-mate-k.places.items ≡ places ++ length kept ∷ [] =
          ap (λ v. v.items) w.places-is ∙ w.in_ok-push-2.ensures.items ∙ ap (λ n. places ++ n ∷ []) count in
          let most : c.if-mate-k.kept.items ≡ kept ++ w.join_regions.result ∷ [] =
          ap (λ v. v.items) w.kept-is ∙ w.in_ok-push-3.ensures.items in
          subst (SurvivorsSoFar rs ms (i + 1) c.if-mate-k.kept.items) (sym more)
          (subst (λ k. SurvivorsSoFar rs ms (i + 1) k (places ++ length kept ∷ [])) (sym most)
          (step_keep rs ms i kept places c.index-regions-k.result w.index-regions-mate.result w.join_regions.result
          c.loop-k.invariant known w.if-mate-k.false c.index-regions-k.is w.index-regions-mate.is w.join_regions.ensures))
    ]

pub returns : goal.returns
returns c =
    let whole : c.loop-k.k ≡ length c.args.regions.now =
    let most = c.loop-k.auto.k-end in let least = c.loop-k-test.false in omega arith in
    AreSurvivors-all c.args.regions.now c.args.mates.now c.loop-k.kept.items c.loop-k.places.items
    (subst (λ i. SurvivorsSoFar c.args.regions.now c.args.mates.now i c.loop-k.kept.items c.loop-k.places.items) whole c.loop-k.invariant)
