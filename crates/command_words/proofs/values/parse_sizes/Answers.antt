use Rattle.std.proofs.Common.{ℕ, List, ◌∷◌, [], subst}
use Rattle.command_words.specs.Words.{AreSizes, IsNumber}
use Rattle.command_words.proofs.Cuts.{AreParts, sizes_all, sizes_word}
use Rattle.command_words.proofs.values.parse_sizes.Goals as goal
use Rattle.command_words.proofs.values.parse_sizes.Goals.{In_ok-second}

-- the parts of sizes that the word spells are those at its first two commas
parts_of : (c : In_ok-second) (sizes : List ℕ) → (s : AreSizes c.args.word.now sizes)
    → AreParts c.in_ok-first.first.now c.in_ok-second.second.now c.in_ok-second.third.now s.x s.y s.z
parts_of c sizes s =
    sizes_all c.args.word.now c.in_ok-first.first.now c.in_ok-first.others.now c.in_ok-second.second.now c.in_ok-second.third.now sizes
    c.in_ok-first.ensures.0 c.in_ok-first.ensures.1 c.in_ok-second.ensures.0 c.in_ok-second.ensures.1 s

pub returns-in_err-x : goal.returns-in_err-x
returns-in_err-x c = rw c.from_residual-in_err-x.ensures (λ sizes s.
    c.in_err-x.ensures (subst (IsNumber 1 65535) (parts_of (goal.at.returns-in_err-x c).In_ok-second sizes s).at_x s.x_number))

pub returns-in_err-y : goal.returns-in_err-y
returns-in_err-y c = rw c.from_residual-in_err-y.ensures (λ sizes s.
    c.in_err-y.ensures (subst (IsNumber 1 65535) (parts_of (goal.at.returns-in_err-y c).In_ok-second sizes s).at_y s.y_number))

pub returns-in_err-z : goal.returns-in_err-z
returns-in_err-z c = rw c.from_residual-in_err-z.ensures (λ sizes s.
    c.in_err-z.ensures (subst (IsNumber 1 65535) (parts_of (goal.at.returns-in_err-z c).In_ok-second sizes s).at_z s.z_number))

pub returns : goal.returns
returns c = record {
  x = c.in_ok-first.first.now;
  y = c.in_ok-second.second.now;
  z = c.in_ok-second.third.now;
  parts = sizes_word c.args.word.now c.in_ok-first.first.now c.in_ok-first.others.now c.in_ok-second.second.now c.in_ok-second.third.now
      c.in_ok-first.ensures.0 c.in_ok-second.ensures.0;
  x_number = c.in_ok-x.ensures.0;
  y_number = c.in_ok-y.ensures.0;
  z_number = c.in_ok-z.ensures.0;
  sizes_are = λ i. c.in_ok-x.ensures.1 i ∷ c.in_ok-y.ensures.1 i ∷ c.in_ok-z.ensures.1 i ∷ [];
}
