use Rattle.std.proofs.Common.{◌≡◌, ◌∙◌, ◌+◌, ◌-◌, ◌<◌, ℕ, List, inl, length, set, sym, ap, subst, arith}
use Rattle.std.proofs.lemmas.List.{get_or_read}
use Rattle.agglo_model.specs.PairOrder.{Contact}
use Rattle.mutual_merge.specs.declared.links.Link.{Link}
use Rattle.mutual_merge.specs.Merged.{JoinsLast}
use Rattle.mutual_merge.proofs.JoinedLinks.{JoinsLast-written}
use Rattle.mutual_merge.proofs.merging.join.Goals as goal

pub returns-then-index-link-2 : goal.returns-then-index-link-2
returns-then-index-link-2 c =
    let old : List Link = c.args.joined.now.items in
    let link : Link = c.args.link in
    let last : Link = c.index_mut-last.result.now in
    let n : ℕ = c.len-count.result - 1 in
    let some = c.if-count-gt0.true in
    let len : n + 1 ≡ length old = let own = c.args.joined.now.ok.0 in let e = c.len-count.ensures in omega arith in
    let below : n < length old = omega arith in
    let here = get_or_read old n last below c.index_mut-last.ensures.value last in
    let first = get_or_read old n c.index.result.now below c.index.ensures last in
    let second = get_or_read old n c.index-then-index-link.result.now below c.index-then-index-link.ensures last in
    let same_a : last.a ≡ link.a = ap (λ l. l.a) (here ∙ sym first) ∙ c.if-index-link.true in
    let same_b : last.b ≡ link.b = ap (λ l. l.b) (here ∙ sym second) ∙ c.if-index-link-2.true in
    inl (subst (λ (k : Contact). JoinsLast old link (set old n (record last { contact = k }))) (sym c.add-last.ensures) (JoinsLast-written old n last link len c.index_mut-last.ensures.value same_a same_b))
