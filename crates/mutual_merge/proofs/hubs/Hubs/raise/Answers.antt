use Rattle.std.proofs.Common.{◌≡◌, ◌<◌, ◌≤◌, ◌∙◌, length, refl, rules}
use Rattle.std.proofs.lemmas.List.{get_or-set_other, get_or-set_same}
use Rattle.mutual_merge.specs.declared.hubs.TheConstants.{NONE}
use Rattle.mutual_merge.proofs.ReadyHubs.{past_numbers, raised_ready, same_ready}
use Rattle.mutual_merge.proofs.hubs.Hubs.raise.Goals as goal

pub returns-in-Some : goal.returns-in-Some
returns-in-Some c =
    let numbers = c.note_pairs.new.self.numbers.items in
    let there : c.args.slot < length c.note_pairs.new.self.numbers.items = search rules in
    let number_is : c.in-Ok.number ≡ length c.note_pairs.new.self.hubs.items = search rules in
    λ ready. raised_ready c.args.slot c.in_ok-open.field-0 c.note_pairs.new.self _
    (record {
      hubs_are = c.in_ok-push.ensures.items;
      own = c.in_ok-open.ensures.slot;
      others_stay = λ k other. get_or-set_other numbers c.args.slot k c.in-Ok.number NONE other;
      number_is = λ some. get_or-set_same numbers c.args.slot c.in-Ok.number NONE there ∙ number_is;
    })
    c.args.links.now c.in_ok-open.ensures.tells (same_ready c.args.links.now c.args.self.now c.note_pairs.new.self c.in_ok-note_pairs.ensures ready)

pub returns-in_default-get_mut : goal.returns-in_default-get_mut
returns-in_default-get_mut c =
    let past : length c.note_pairs.new.self.numbers.items ≤ c.args.slot = search rules in
    λ ready. raised_ready c.args.slot c.in_ok-open.field-0 c.note_pairs.new.self _
    (record {
      hubs_are = c.in_ok-push.ensures.items;
      own = c.in_ok-open.ensures.slot;
      others_stay = λ k other. refl;
      number_is = λ some. absurd (some (past_numbers c.note_pairs.new.self c.args.slot past));
    })
    c.args.links.now c.in_ok-open.ensures.tells (same_ready c.args.links.now c.args.self.now c.note_pairs.new.self c.in_ok-note_pairs.ensures ready)
