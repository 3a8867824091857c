use Rattle.std.proofs.Common.{refl}
use Rattle.std.proofs.lemmas.Result.{MatchResult-weaker}
use Rattle.merge_tree.proofs.Headers.{reads_head, finds_bad_head}
use Rattle.merge_tree.proofs.tree_reading.read_head.Goals as goal

pub returns : goal.returns
returns g c =
    MatchResult-weaker c.head_of.result c.head_of.ensures
    (λ head h. reads_head c.in_ok-got.got _ c.fill.new.into head _ _ refl c.in_ok-got.ensures h.0 h.1)
    (λ fault tells. finds_bad_head c.in_ok-got.got _ c.fill.new.into fault _ _ refl c.in_ok-got.ensures tells)
