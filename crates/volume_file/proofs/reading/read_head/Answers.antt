use Rattle.std.proofs.Common.{refl}
use Rattle.std.proofs.lemmas.Result.{MatchResult-weaker}
use Rattle.volume_file.proofs.Header.{reads_head, finds_bad_head}
use Rattle.volume_file.proofs.reading.read_head.Goals as goal

pub returns : goal.returns
returns g c =
    MatchResult-weaker c.head_of.result c.head_of.ensures
    (λ head h. reads_head c.in_ok-got.got _ c.fill.new.into _ _ _ refl c.in_ok-got.ensures h.0 h.1)
    (λ fault flaw. finds_bad_head c.in_ok-got.got _ c.fill.new.into _ _ _ refl c.in_ok-got.ensures flaw)
