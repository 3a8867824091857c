use Rattle.std.proofs.Common.{◌≡◌, ◌∙◌, ◌++◌, ◌∷◌, [], ℕ, List, get_or, take, sym, ap, subst}
use Rattle.mutual_merge.specs.declared.links.Link.{Link}
use Rattle.mutual_merge.specs.Moved.{AreMoved}
use Rattle.mutual_merge.proofs.MovedLinks.{AreMoved-skip, AreMoved-take, at_moved, more_links}
use Rattle.mutual_merge.proofs.merging.move_links.Goals as goal
use Rattle.mutual_merge.proofs.merging.move_links.Goals.{then-a-b+in_ok-push, else-a-b}

pub loop-link-preserved : goal.loop-link-preserved
loop-link-preserved c =
    let links : List Link = c.args.links.now in
    let places : List ℕ = c.args.places.now in
    let i : ℕ = c.loop-link.link-index in
    let l : Link = c.link-item.result in
    let moved : List Link = c.loop-link.moved.items in
    let known = at_moved links i places l c.requires c.loop-link-test.true c.link-item.is in
    let more = more_links links i l c.loop-link-test.true c.link-item.is in
    elim c.if-a-b.branch [
      | then-a-b+in_ok-push w ↦
          let m : Link = record { a = w.min.result; b = w.max.result; contact = l.contact } in
          let pushed : c.if-a-b.moved.items ≡ moved ++ m ∷ [] = ap (λ v. v.items) w.moved-is ∙ w.in_ok-push.ensures.items in
          subst (λ ls. AreMoved ls places c.if-a-b.moved.items) (sym more)
          (subst (AreMoved (take i links ++ l ∷ []) places) (sym pushed)
          (AreMoved-take (take i links) places moved l m (get_or places l.a 0) (get_or places l.b 0) c.loop-link.invariant known w.if-a-b.true
          (λ j. record { a = w.min.ensures j; b = w.max.ensures j; contact = l.contact })))
      | else-a-b w ↦
          let same : c.if-a-b.moved.items ≡ moved = ap (λ v. v.items) w.moved-is in
          subst (λ ls. AreMoved ls places c.if-a-b.moved.items) (sym more)
          (subst (AreMoved (take i links ++ l ∷ []) places) (sym same)
          (AreMoved-skip (take i links) places moved l (get_or places l.a 0) (get_or places l.b 0) c.loop-link.invariant known w.if-a-b.false))
    ]
