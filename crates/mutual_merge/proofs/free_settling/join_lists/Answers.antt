use Rattle.std.proofs.Common.{◌++◌, [], ◌∷◌, Ok, sym, subst}
use Rattle.mutual_merge.specs.Parts.{AreListsJoined}
use Rattle.mutual_merge.proofs.JoinedLists.{lists_more}
use Rattle.mutual_merge.proofs.free_settling.join_lists.Goals as goal

pub loop-list-preserved : goal.loop-list-preserved
loop-list-preserved c =
    let list = c.in_ok-list.list in
    let yielded = c.loop-list.yielded in
    subst (λ list. AreListsJoined (yielded ++ list ∷ []) c.append.new.self.items) (sym c.in_ok-list.was)
    (subst (AreListsJoined (yielded ++ Ok list ∷ [])) (sym c.in_ok-append.ensures.items)
    (lists_more yielded c.loop-list.merges.items list c.loop-list.invariant))
