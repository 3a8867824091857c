use Rattle.std.proofs.Common.{lit<}
use Rattle.agglo_model.proofs.Digits.{four_bytes, eight_bytes}
use Rattle.agglo_model.proofs.laws_of_files.bytes_write_back.Goals as goal

pub returns : goal.returns
returns c = (
  λ a b c d small. four_bytes a b c d (small 0 0 (lit< tt)) (small 1 0 (lit< tt)) (small 2 0 (lit< tt)) (small 3 0 (lit< tt)),
  λ a b c d e f g h small. eight_bytes a b c d e f g h (small 0 0 (lit< tt)) (small 1 0 (lit< tt)) (small 2 0 (lit< tt))
      (small 3 0 (lit< tt)) (small 4 0 (lit< tt)) (small 5 0 (lit< tt)) (small 6 0 (lit< tt)) (small 7 0 (lit< tt)),
)
