use Rattle.merge_tree.proofs.Ranks.{less_is_first}
use Rattle.merge_tree.proofs.order.compare.Goals as goal

pub returns : goal.returns
returns c = rw (← c.a.view_is, ← c.b.view_is) (less_is_first _ _ _ c.count.ensures.limits.some c.count-2.ensures.limits.some c.rank.ensures.less.0 c.rank.ensures.less.1)
