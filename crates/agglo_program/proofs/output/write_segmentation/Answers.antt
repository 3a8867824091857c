use Rattle.agglo_program.proofs.Written.{tree_can_open, two_files_outcome}
use Rattle.agglo_program.proofs.output.write_segmentation.Goals as goal

pub write_tree-requires : goal.write_tree-requires
write_tree-requires g c = tree_can_open _ _ _ _ c.requires.tree c.in_ok-write_labels.ensures

pub returns : goal.returns
returns g c = two_files_outcome c.put_all.result _ _ _ _ _ _ _ _ c.as_bytes.ensures.value
    c.in_ok-write_labels.ensures c.in_ok-write_tree.ensures c.put_all.ensures
