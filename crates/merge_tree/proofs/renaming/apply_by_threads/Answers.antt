use Rattle.std.proofs.Common.{◌≡◌, ◌++◌, ◌∙◌, ap, drop, length, map, subst, sym, take}
use Rattle.std.proofs.lemmas.List.{length-map, take_at}
use Rattle.agglo_model.specs.Greedy.{after_merges}
use Rattle.agglo_model.specs.LabelMap.{AreLabels}
use Rattle.merge_tree.specs.Renaming.{final_label}
use Rattle.merge_tree.proofs.FinalNames.{labels_renamed, renamed_fit}
use Rattle.merge_tree.proofs.renaming.apply_by_threads.Given.{Over}
use Rattle.merge_tree.proofs.renaming.apply_by_threads.Goals as goal
use Rattle.merge_tree.proofs.renaming.apply_by_threads.Goals.{After-rename_by_threads}

-- the list after it was renamed
renamed_list : (g : Over) (c : After-rename_by_threads g)
    → take c.into_list-list.result.len (c.rename_by_threads.new.labels ++ drop (length c.rename_by_threads.new.labels) c.into_list-list.result.items)
    ≡ map (final_label c.in_ok-names.names.items) c.args.labels.labels
renamed_list g c =
    let is = c.rename_by_threads.ensures
    ∙ ap (λ names. map (final_label names) c.deref_mut.result.now) c.deref.ensures.value in
    take_at c.rename_by_threads.new.labels _ c.into_list-list.result.len
    (ap length is ∙ length-map c.deref_mut.result.now (final_label c.in_ok-names.names.items) ∙ c.deref_mut.ensures.len)
    ∙ is ∙ ap (map (final_label c.in_ok-names.names.items)) (c.deref_mut.ensures.value ∙ c.into_list-list.ensures.value)

pub of-requires-clause-labels_fit : goal.of-requires-clause-labels_fit
of-requires-clause-labels_fit g c =
    subst AreLabels (sym (renamed_list g (goal.at.of-requires-clause-labels_fit g c).After-rename_by_threads))
    (renamed_fit c.args.labels.labels c.in_ok-names.names.items c.in_ok-names.ensures.fit c.into_list-list.ensures.labelled.labels_fit)

pub returns : goal.returns
returns g c =
    let list_is = renamed_list g (goal.at.returns g c).After-rename_by_threads
    ∙ labels_renamed c.args.labels.labels c.in_ok-names.names.items c.args.merges.now c.in_ok-names.ensures in
    c.of.ensures
    ∙ ap (λ list. record { axes = c.dims.result.now; labels = list }) list_is
    ∙ ap (λ axes. record { axes = axes; labels = after_merges c.args.labels.labels c.args.merges.now }) c.dims.ensures.value
