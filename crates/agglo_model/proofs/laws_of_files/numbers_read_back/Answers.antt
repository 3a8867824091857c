use Rattle.agglo_model.proofs.Digits.{four_digits, eight_digits}
use Rattle.agglo_model.proofs.laws_of_files.numbers_read_back.Goals as goal

pub returns : goal.returns
returns c = (λ n h. four_digits n h, λ n h. eight_digits n h)
