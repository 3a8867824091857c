use Rattle.std.proofs.Common.{◌≡◌, subst, refl, arith, IfOk}
use Rattle.std.specs.List.{range_with_len}
use Rattle.std.proofs.lemmas.Iterator.{items_from_collect, YieldsList-from_range}
use Rattle.merge_tree.proofs.renaming.names_below.Goals as goal

pub returns : goal.returns
returns c =
    subst (λ r. IfOk r (λ v. v.items ≡ range_with_len 0 c.args.limit)) c.in_ok-names.was
    (items_from_collect c.collect.result c.collect.ensures.ran (YieldsList-from_range 0 c.args.limit c.args.limit refl (omega arith)))
