use Rattle.std.proofs.Common.{◌≡◌, ◌<◌, ◌+◌, ◌*◌, ◌∙◌, List, ◌∷◌, length, arith, ap, sym, subst, length-set}
use Rattle.index_lists.specs.LinkedLists.{LinkedLists, list_at}
use Rattle.mutual_merge.specs.declared.links.Link.{Link}
use Rattle.mutual_merge.proofs.SlotFirsts.{read_link}
use Rattle.mutual_merge.proofs.ListedLinks.{AreBelow, AreListedUpTo, few_links, link_at, listed_all, listed_next, listed_none, none_linked, pushed_below}
use Rattle.mutual_merge.proofs.listing.list_links.Goals as goal

pub overflow_cast-links : goal.overflow_cast-links
overflow_cast-links c = omega (arith, few_links c.args.slots c.args.links.now c.requires.links, c.requires.within)

pub overflow_mul-links : goal.overflow_mul-links
overflow_mul-links c = omega (arith, few_links c.args.slots c.args.links.now c.requires.links, c.requires.within)

pub overflow_cast-item : goal.overflow_cast-item
overflow_cast-item c =
    omega (arith, few_links c.args.slots c.args.links.now c.requires.links, c.requires.within, c.loop-index-test.true)

pub overflow_mul-item : goal.overflow_mul-item
overflow_mul-item c =
    omega (arith, few_links c.args.slots c.args.links.now c.requires.links, c.requires.within, c.loop-index-test.true)

pub overflow_add-item : goal.overflow_add-item
overflow_add-item c =
    omega (arith, few_links c.args.slots c.args.links.now c.requires.links, c.requires.within, c.loop-index-test.true)

pub push_front-requires : goal.push_front-requires
push_front-requires c =
    let i = c.loop-index.index in
    let link : Link = c.index-links-index.result in
    let is = link_at c.args.slots c.args.links.now i link c.requires.links c.loop-index-test.true c.index-links-index.is in
    let ordered : link.a < link.b = is.ordered in
    let inside : link.b < c.args.slots = is.inside in
    let are = c.loop-index.invariant in
    record {
      list = omega (arith, are.lists_are);
      item = omega (arith, are.items_are);
      free = none_linked (2 * i) c.loop-index.lists are.below;
    }

pub push_front-requires-in-loop-index : goal.push_front-requires-in-loop-index
push_front-requires-in-loop-index c =
    let i = c.loop-index.index in
    let lists : LinkedLists = c.loop-index.lists in
    let link : Link = c.index-links-index.result in
    let is = link_at c.args.slots c.args.links.now i link c.requires.links c.loop-index-test.true c.index-links-index.is in
    let ordered : link.a < link.b = is.ordered in
    let inside : link.b < c.args.slots = is.inside in
    let are = c.loop-index.invariant in
    let a_in : link.a < length lists.lists = omega (arith, are.lists_are) in
    let one : LinkedLists = c.push_front.new.self in
    let count : length one.lists ≡ length lists.lists =
    ap (λ (ls : LinkedLists). length ls.lists) c.push_front.ensures ∙ length-set lists.lists link.a ((2 * i) ∷ list_at lists link.a) in
    let items : one.items ≡ lists.items = ap (λ (ls : LinkedLists). ls.items) c.push_front.ensures in
    record {
      list = omega (arith, are.lists_are, count);
      item = omega (arith, are.items_are, items);
      free =
          none_linked (2 * i + 1) one
          (subst (AreBelow (2 * i + 1)) (sym c.push_front.ensures) (pushed_below lists link.a (2 * i) a_in are.below));
    }

pub loop-index-init : goal.loop-index-init
loop-index-init c =
    subst (AreListedUpTo c.args.slots c.args.links.now 0) (sym c.in_ok-lists.ensures) (listed_none c.args.slots c.args.links.now)

pub loop-index-preserved : goal.loop-index-preserved
loop-index-preserved c =
    let links : List Link = c.args.links.now in
    let i = c.loop-index.index in
    let link : Link = c.index-links-index.result in
    listed_next c.args.slots links i link c.loop-index.lists c.push_front.new.self c.push_front-in-loop-index.new.self
    c.loop-index.invariant
    (link_at c.args.slots links i link c.requires.links c.loop-index-test.true c.index-links-index.is)
    (read_link links i link c.loop-index-test.true c.index-links-index.is)
    c.push_front.ensures c.push_front-in-loop-index.ensures

pub returns : goal.returns
returns c =
    listed_all c.args.slots c.args.links.now c.loop-index.index c.loop-index.lists c.loop-index.invariant c.loop-index-test.false
