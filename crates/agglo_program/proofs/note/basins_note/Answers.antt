use Rattle.std.proofs.Common.{◌≡◌, ℕ, List, ◌++◌, ◌∷◌, [], length, codes, append_assoc, ap, sym, ◌∙◌}
use Rattle.std.specs.Fmt.{decimal}
use Rattle.agglo_model.specs.Axes.{voxel_count}
use Rattle.agglo_model.specs.Basins.{foreground}
use Rattle.agglo_model.specs.Note.{line}
use Rattle.agglo_program.proofs.note.basins_note.Goals as goal

-- a text as one list, and as three lines
in_lines : (p a q b r c : List ℕ) → p ++ (a ++ (10 ∷ (q ++ (b ++ (10 ∷ (r ++ (c ++ 10 ∷ [])))))))
    ≡ ((p ++ a) ++ 10 ∷ []) ++ ((q ++ b) ++ 10 ∷ []) ++ ((r ++ c) ++ 10 ∷ [])
in_lines p a q b r c = simp append_assoc

pub returns : goal.returns
returns c =
    let voxels : c.voxels-voxels.result ≡ length c.args.labels.now.labels =
    c.voxels-voxels.ensures.value ∙ (ap voxel_count c.dims.ensures.value ∙ sym c.dims.ensures.labelled.one_each) in
    let labelled = c.count_foreground-foreground.ensures ∙ ap foreground c.list.ensures.value in
    let basins = c.count_basins-basins.ensures in
    c.in_ok-note.ensures.ok
    ∙ (in_lines (codes "voxels") (32 ∷ decimal c.voxels-voxels.result) (codes "foreground") (32 ∷ decimal c.count_foreground-foreground.result)
    (codes "basins") (32 ∷ decimal c.count_basins-basins.result)
    ∙ (ap (λ n. line (codes "voxels") n ++ line (codes "foreground") c.count_foreground-foreground.result ++ line (codes "basins") c.count_basins-basins.result) voxels
    ∙ (ap (λ n. line (codes "voxels") (length c.args.labels.now.labels) ++ line (codes "foreground") n ++ line (codes "basins") c.count_basins-basins.result) labelled
    ∙ ap (λ n. line (codes "voxels") (length c.args.labels.now.labels) ++ line (codes "foreground") (foreground c.args.labels.now.labels) ++ line (codes "basins") n) basins)))
