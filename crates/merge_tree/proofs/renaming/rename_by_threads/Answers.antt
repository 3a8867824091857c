use Rattle.std.proofs.Common.{◌≡◌, ◌<◌, ◌∙◌, ap, sym, length, map, subst}
use Rattle.std.proofs.lemmas.List.{get_or-map, length-map, same_lists}
use denote.Param.Send.{sendable}
use Rattle.merge_tree.specs.Renaming.{final_label}
use Rattle.merge_tree.proofs.renaming.rename_by_threads.Goals as goal

pub par_for_each_mut-requires : goal.par_for_each_mut-requires
par_for_each_mut-requires g c = λ k. (search sendable depth 20, (search sendable depth 20, (search sendable depth 20, λ i p lt e. tt)))

pub returns : goal.returns
returns g c =
    let new = c.par_for_each_mut.new.s in
    let old = c.args.labels.now in
    let name = final_label c.args.names.now in
    let long : length new ≡ length old = c.par_for_each_mut.auto.s in
    same_lists new (map name old) (long ∙ sym (length-map old name))
    (λ k d lt.
    let below = subst (λ n. k < n) long lt in
    let at = (c.par_for_each_mut.ensures k d below).1 in
    sym at.left ∙ at.call ∙ ap name at.argument_is ∙ sym (get_or-map name old k d d below))
