use Rattle.std.proofs.Common.{ℕ, List, sym, ap, arith}
use Rattle.std.proofs.lemmas.List.{get_or_read}
use Rattle.std.proofs.lemmas.List.Sums.{sum_by_more_le}
use Rattle.mutual_merge.specs.declared.links.Link.{Link}
use Rattle.mutual_merge.proofs.JoinedLinks.{JoinedSoFar-next}
use Rattle.mutual_merge.proofs.merging.join_links.Goals as goal

pub join-requires : goal.join-requires
join-requires c =
    let links : List Link = c.args.links.now in
    let i : ℕ = c.loop-link.link-index in
    let l : Link = c.link-item.result in
    let more = sum_by_more_le (λ (m : Link). m.contact.count) links i l c.loop-link-test.true in
    let here = ap (λ (m : Link). m.contact.count) c.link-item.is in
    let edges = c.loop-link.invariant.edges in
    let within = c.requires.within in
    omega arith

pub loop-link-preserved : goal.loop-link-preserved
loop-link-preserved c =
    let links : List Link = c.args.links.now in
    let i : ℕ = c.loop-link.link-index in
    let l : Link = c.link-item.result in
    JoinedSoFar-next links i c.loop-link.joined.items c.join.new.joined.items l c.loop-link.invariant
    (record {
      below = c.loop-link-test.true;
      is = λ d. sym (get_or_read links i l c.loop-link-test.true c.link-item.is d);
      sorted = c.requires.sorted;
    }) c.in_ok-join.ensures
