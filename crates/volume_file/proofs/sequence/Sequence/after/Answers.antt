use Rattle.volume_file.proofs.Lanes.{first_place}
use Rattle.volume_file.proofs.sequence.Sequence.after.Goals as goal

pub returns : goal.returns
returns c =
    first_place c.args.start c.next_highs-last.result c.next_highs-last.new.high c.next_highs.new.high c.lower.new.lanes
    c.next_highs-last.ensures.highs c.next_highs-last.ensures.last c.next_highs.ensures.highs c.lower.ensures
