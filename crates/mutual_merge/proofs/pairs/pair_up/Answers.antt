use Rattle.std.proofs.Common.{◌≡◌, ◌∙◌, ◌++◌, ◌∷◌, [], ℕ, ◌<◌, ◌≤◌, List, set, length, get_or, ◌+◌, sym, ap, subst, true, arith}
use Rattle.std.specs.List.{range_with_len}
use Rattle.std.specs.Prelude.{◌↔◌}
use Rattle.std.proofs.lemmas.Bool.{false≢true}
use Rattle.std.proofs.lemmas.List.{get_or_read, with_items_is, length-set}
use Rattle.std.proofs.lemmas.List.Elements.{All-contains, All-get_or}
use Rattle.agglo_model.specs.PairOrder.{Threshold}
use Rattle.agglo_model.specs.RegionGraph.{Region}
use Rattle.mutual_merge.specs.declared.links.Link.{Link}
use Rattle.mutual_merge.specs.Linked.{IsLink}
use Rattle.mutual_merge.specs.Pairs.{AreSingle, IsReciprocalBy}
use Rattle.mutual_merge.proofs.Pairing.{AtLink, PairsSoFar, PairsSoFar-none, PairsSoFar-skip, PairsSoFar-take, IsPairing-all, mated_by}
use Rattle.mutual_merge.proofs.pairs.pair_up.Goals as goal
use Rattle.mutual_merge.proofs.pairs.pair_up.Goals.{Joined-can_pair, After-can_pair, then-can_pair+in_ok-push, else-can_pair}

-- the link stands at its place among all
below_all : (c : After-can_pair) → c.loop-link.link-index < length c.args.graph.now.links.items
below_all c = subst (λ links. c.loop-link.link-index < length links) c.deref-link-items.ensures.value c.loop-link-test.true

item_is : (c : After-can_pair) → get_or c.args.graph.now.links.items c.loop-link.link-index c.link-item.result ≡ c.link-item.result
item_is c = subst (λ links. get_or links c.loop-link.link-index c.link-item.result ≡ c.link-item.result) c.deref-link-items.ensures.value (sym c.link-item.is)

-- the first contacts at the regions of the link, and what the link is
at_link : (c : After-can_pair) → AtLink c.args.threshold.now c.args.frozen c.args.graph.now.regions.items c.args.graph.now.links.items c.args.firsts.now c.link-item.result
at_link c =
    let links : List Link = c.args.graph.now.links.items in
    let i : ℕ = c.loop-link.link-index in
    let l : Link = c.link-item.result in
    let each = c.requires.linked.links_are.each in
    let below : i < length links = below_all c in
    let here : get_or links i l ≡ l = item_is c in
    record {
      are = c.requires.firsts;
      counts = λ m inside. (All-contains (IsLink (length c.args.graph.now.regions.items)) links m each inside).touching;
      there = (i, below, here);
      is = subst (IsLink (length c.args.graph.now.regions.items)) here (All-get_or (IsLink (length c.args.graph.now.regions.items)) links i l below each);
    }

pub loop-link-init : goal.loop-link-init
loop-link-init c =
    PairsSoFar-none c.args.threshold.now c.args.frozen c.args.graph.now.regions.items c.args.graph.now.links.items c.in_ok-mates.mates.items
    c.new-pairs.result.items (c.in_ok-mates.ensures ∙ ap (range_with_len 0) (omega arith)) c.new-pairs.ensures.items

pub loop-link-preserved : goal.loop-link-preserved
loop-link-preserved c =
    let t : Threshold = c.args.threshold.now in
    let rs : List Region = c.args.graph.now.regions.items in
    let links : List Link = c.args.graph.now.links.items in
    let l : Link = c.link-item.result in
    let known = at_link (goal.at.loop-link-preserved c).After-can_pair in
    let ms : List ℕ = c.loop-link.mates.items in
    let decides : (c.can_pair.result ≡ true) ↔ (AreSingle ms l × IsReciprocalBy t c.args.frozen rs c.args.firsts.now l) =
    subst (λ xs. (c.can_pair.result ≡ true) ↔ (AreSingle xs l × IsReciprocalBy t c.args.frozen rs c.args.firsts.now l)) c.deref.ensures.value
    (subst (λ xs. (c.can_pair.result ≡ true) ↔ (AreSingle c.deref.result.now l × IsReciprocalBy t c.args.frozen xs c.args.firsts.now l))
    c.deref-in-loop-link.ensures.value c.can_pair.ensures) in
    elim c.if-can_pair.branch [
      | then-can_pair+in_ok-push w ↦
          let both = decides.0 w.if-can_pair.true in
          let written : w.mate.new.mates ≡ mated_by ms l = w.mate.ensures ∙ ap (λ xs. mated_by xs l) w.deref_mut.ensures.value in
          let len = ap length written in
          let len_b = length-set (set ms l.a l.b) l.b l.a in
          let len_a = length-set ms l.a l.b in
          let own = c.loop-link.mates.ok.0 in
          let mates : c.if-can_pair.mates.items ≡ mated_by ms l =
          ap (λ v. v.items) w.mates-is ∙ with_items_is c.loop-link.mates w.mate.new.mates (omega arith) ∙ written in
          let pairs : c.if-can_pair.pairs.items ≡ c.loop-link.pairs.items ++ l ∷ [] =
          ap (λ v. v.items) w.pairs-is ∙ w.in_ok-push.ensures.items in
          subst (λ xs. PairsSoFar t c.args.frozen rs links (c.loop-link.link-index + 1) xs c.if-can_pair.pairs.items) (sym mates)
          (subst (λ ps. PairsSoFar t c.args.frozen rs links (c.loop-link.link-index + 1) (mated_by ms l) ps) (sym pairs)
          (PairsSoFar-take t c.args.frozen rs links c.loop-link.link-index ms c.loop-link.pairs.items c.args.firsts.now l
          c.loop-link.invariant known both.0 both.1))
      | else-can_pair w ↦
          let same : c.if-can_pair.mates ≡ c.loop-link.mates = w.mates-is in
          let pairs : c.if-can_pair.pairs ≡ c.loop-link.pairs = w.pairs-is in
          subst (λ v. PairsSoFar t c.args.frozen rs links (c.loop-link.link-index + 1) v.items c.if-can_pair.pairs.items) (sym same)
          (subst (λ v. PairsSoFar t c.args.frozen rs links (c.loop-link.link-index + 1) ms v.items) (sym pairs)
          (PairsSoFar-skip t c.args.frozen rs links c.loop-link.link-index ms c.loop-link.pairs.items c.args.firsts.now l
          c.loop-link.invariant known (λ d. sym (get_or_read links c.loop-link.link-index l (below_all (goal.at.loop-link-preserved c).After-can_pair)
          (sym (item_is (goal.at.loop-link-preserved c).After-can_pair)) d))
          (λ can. false≢true (sym w.if-can_pair.false ∙ decides.1 can))))
    ]

pub returns : goal.returns
returns c =
    IsPairing-all c.args.threshold.now c.args.frozen c.args.graph.now.regions.items c.args.graph.now.links.items c.loop-link.link-index
    c.loop-link.mates.items c.loop-link.pairs.items
    (subst (λ links. length links ≤ c.loop-link.link-index) c.deref-link-items.ensures.value c.loop-link-test.false) c.loop-link.invariant
