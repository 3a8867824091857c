use Rattle.std.proofs.Common.{◌≡◌, ◌<◌, ◌/◌, ◌∷◌, ◌++◌, ◌∙◌, ℕ, List, [], length, sym, ap, subst, take, get_or, true≢false, Vec, Global}
use Rattle.std.specs.Prelude.{Contains, IsTrue}
use Rattle.std.proofs.lemmas.List.{take_all, take_more}
use Rattle.std.proofs.lemmas.List.Elements.{Contains-append_left, Contains-push}
use Rattle.agglo_model.specs.PairOrder.{IsWithinLimits}
use Rattle.mutual_merge.specs.declared.hubs.Entry.{Entry}
use Rattle.mutual_merge.specs.declared.links.Link.{Link}
use Rattle.mutual_merge.specs.Hubs.{TellOf, entry_of}
use Rattle.mutual_merge.specs.Slots.{IsLiveAt, nth_link}
use Rattle.mutual_merge.proofs.SlotFirsts.{read_link}
use Rattle.mutual_merge.proofs.HubFirsts.{tell_all, tell_more}
use Rattle.mutual_merge.proofs.hubs.list_entries.Goals as goal
use Rattle.mutual_merge.proofs.hubs.list_entries.Goals.{then-is_live_at+in_ok-push, else-is_live_at}

pub loop-item-preserved : goal.loop-item-preserved
loop-item-preserved c =
    let links : List Link = c.args.links.now in
    let items : List ℕ = c.args.items.now in
    let i = c.loop-item.item-index in
    let item = get_or items i 0 in
    let old : List Entry = c.loop-item.entries.items in
    let slot = c.args.slot in
    let below : item / 2 < length links = c.requires.items i 0 c.loop-item-test.true in
    let read = read_link links (item / 2) c.index-links-index.result below c.index-links-index.is in
    subst (TellOf c.if-is_live_at.entries.items links slot) (sym (take_more items i 0 c.loop-item-test.true))
    (elim c.if-is_live_at.branch [
      | then-is_live_at+in_ok-push w ↦
          let new : c.if-is_live_at.entries.items ≡ old ++ entry_of (item / 2) (nth_link links (item / 2)) ∷ [] =
          ap (λ (v : Vec Entry Global). v.items) w.entries-is ∙ w.in_ok-push.ensures.items
          ∙ ap (λ (e : Entry). old ++ e ∷ []) (w.entry_of.ensures.entry ∙ ap (entry_of (item / 2)) (sym read)) in
          tell_more old c.if-is_live_at.entries.items links slot (take i items) item c.loop-item.invariant
          (λ entry inside. subst (λ es. Contains es entry) (sym new) (Contains-append_left old (entry_of (item / 2) (nth_link links (item / 2)) ∷ []) entry inside))
          (λ live. record {
            entry = subst (λ es. Contains es (entry_of (item / 2) (nth_link links (item / 2)))) (sym new) (Contains-push old (entry_of (item / 2) (nth_link links (item / 2))));
            within = subst (λ (l : Link). IsWithinLimits l.contact) (sym read) w.entry_of.ensures.within;
          })
      | else-is_live_at w ↦
          subst (λ (es : List Entry). TellOf es links slot (take i items ++ item ∷ [])) (sym (ap (λ (v : Vec Entry Global). v.items) w.entries-is))
          (tell_more old old links slot (take i items) item c.loop-item.invariant (λ entry inside. inside)
          (λ live. absurd (subst (λ b. ¬ (IsTrue b)) (sym w.if-is_live_at.false) (λ h. true≢false (sym h))
          (c.is_live_at.ensures.1 (subst (IsLiveAt slot) read live)))))
    ])

pub returns : goal.returns
returns c =
    tell_all c.loop-item.entries.items c.args.links.now c.args.slot c.args.items.now c.requires.covers
    (subst (TellOf c.loop-item.entries.items c.args.links.now c.args.slot) (take_all c.loop-item.item-index c.args.items.now c.loop-item-test.false)
    c.loop-item.invariant)
