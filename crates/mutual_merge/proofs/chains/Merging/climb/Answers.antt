use Rattle.std.proofs.Common.{rules, ◌≡◌, ℕ, List, Some, get_or, sym, ap, ◌∙◌, subst}
use Rattle.agglo_model.specs.PairOrder.{Reaches}
use Rattle.agglo_model.specs.RegionGraph.{Region}
use Rattle.mutual_merge.specs.declared.links.Link.{Link}
use Rattle.mutual_merge.specs.Slots.{AreFree, IsFirstAt, nth_link, other_end}
use Rattle.mutual_merge.proofs.SlotFirsts.{read_link}
use Rattle.mutual_merge.proofs.FirstPair.{first_pair}
use Rattle.mutual_merge.proofs.chains.Merging.climb.Goals as goal

pub returns-then-eq-clause-end : goal.returns-then-eq-clause-end
returns-then-eq-clause-end c =
    let links : List Link = c.args.slots.now.links.items in
    let index : ℕ = c.in-Some.index in
    let on = c.loop.invariant.0 in
    let stay : c.loop.slots.links.items ≡ links = ap (λ v. v.items) on.links_stay in
    let first : IsFirstAt links c.loop.last (Some index) = subst (IsFirstAt links c.loop.last) c.in-Some.is on.first_is in
    let again : c.in_ok-next.next ≡ Some index = search rules in
    let back : IsFirstAt links c.other_end-partner.result (Some index) =
    subst (λ (ls : List Link). IsFirstAt ls c.other_end-partner.result (Some index)) stay
    (subst (IsFirstAt c.loop.slots.links.items c.other_end-partner.result) again c.in_ok-next.ensures.first) in
    let link_is : nth_link links index ≡ c.index.result.now =
    read_link links index c.index.result.now first.0
    (subst (λ (ls : List Link). c.index.result.now ≡ get_or ls index c.index.result.now) stay c.index.ensures) in
    let reaches : Reaches c.args.threshold.now c.index.result.now.contact = search rules in
    let free : AreFree c.deref.result.now c.args.frozen c.index.result.now = search rules in
    first_pair c.args.threshold.now c.args.frozen c.args.slots.now.regions.items links c.loop.last c.other_end-partner.result index (record {
      first = first;
      back = back;
      partner_is = c.other_end-partner.ensures ∙ ap (other_end c.loop.last) (sym link_is);
      reaches = subst (λ (l : Link). Reaches c.args.threshold.now l.contact) (sym link_is) reaches;
      free = subst (λ (l : Link). AreFree c.args.slots.now.regions.items c.args.frozen l) (sym link_is)
          (subst (λ (rs : List Region). AreFree rs c.args.frozen c.index.result.now) (c.deref.ensures.value ∙ ap (λ v. v.items) on.regions_stay) free);
    })
