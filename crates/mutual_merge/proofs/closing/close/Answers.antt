use Rattle.std.proofs.Common.{◌≡◌, ◌≢◌, ◌<◌, ◌∙◌, List, length, map, sym, ap, subst}
use Rattle.std.specs.Prelude.{All, AllPairs}
use Rattle.mutual_merge.specs.declared.closing.OpenSlot.{OpenSlot}
use Rattle.mutual_merge.specs.declared.links.Link.{Link}
use Rattle.mutual_merge.specs.Linked.{AreLinked, graph_of}
use Rattle.mutual_merge.specs.Closing.{ArePlaces}
use Rattle.mutual_merge.specs.Moved.{AreRelinked}
use Rattle.mutual_merge.proofs.ClosedGraph.{slots_inside, slots_apart, closed_linked, closed_same}
use Rattle.mutual_merge.proofs.closing.close.Goals as goal
use Rattle.mutual_merge.proofs.closing.close.Goals.{After-drop-open-2}

pub place_slots-requires-clause-inside : goal.place_slots-requires-clause-inside
place_slots-requires-clause-inside c =
    subst (All (λ s. s.slot < length c.args.regions.now)) (sym c.deref.ensures.value)
    (slots_inside c.args.regions.now c.args.closed.now c.in_ok-open.open.items c.in_ok-open.ensures)

pub place_slots-requires-clause-apart : goal.place_slots-requires-clause-apart
place_slots-requires-clause-apart c =
    subst (AllPairs (λ s u. s.slot ≢ u.slot)) (sym c.deref.ensures.value)
    (slots_apart c.args.regions.now c.args.closed.now c.in_ok-open.open.items c.in_ok-open.ensures)

are_places : (c : After-drop-open-2) → ArePlaces (length c.args.regions.now) c.in_ok-open.open.items c.in_ok-places.places.items
are_places c =
    subst (λ slots. ArePlaces (length c.args.regions.now) slots c.in_ok-places.places.items) c.deref.ensures.value c.in_ok-places.ensures

relinked : (c : After-drop-open-2) → AreRelinked c.args.links.now c.in_ok-places.places.items c.in_ok-links.links.items
relinked c =
    subst (λ places. AreRelinked c.args.links.now places c.in_ok-links.links.items) c.deref-2.ensures.value c.in_ok-links.ensures

kept_are : (c : After-drop-open-2) → c.in_ok-regions.regions.items ≡ map (λ s. s.region) c.in_ok-open.open.items
kept_are c = c.in_ok-regions.ensures ∙ ap (map (λ (s : OpenSlot). s.region)) c.deref-3.ensures.value

pub returns-clause-linked : goal.returns-clause-linked
returns-clause-linked c =
    let links : List Link = c.in_ok-links.links.items in
    subst (λ regions. AreLinked regions links) (sym (kept_are c))
    (closed_linked c.args.regions.now c.args.closed.now c.args.links.now c.in_ok-open.open.items c.in_ok-places.places.items links
    c.requires.slots c.requires.fit c.in_ok-open.ensures (are_places c) (relinked c))

pub returns-clause-same : goal.returns-clause-same
returns-clause-same c graph stands =
    let links : List Link = c.in_ok-links.links.items in
    ap (λ regions. graph_of regions links) (kept_are c)
    ∙ closed_same c.args.regions.now c.args.closed.now c.args.links.now c.in_ok-open.open.items c.in_ok-places.places.items links
    c.requires.slots c.requires.fit c.in_ok-open.ensures (are_places c) (relinked c) graph stands
