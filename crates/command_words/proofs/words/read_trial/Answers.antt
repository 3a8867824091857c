use Rattle.std.proofs.Common.{◌∷◌, codes, ap}
use Rattle.command_words.specs.Words.{trial_options}
use Rattle.command_words.specs.Texts.{texts}
use Rattle.command_words.proofs.WholeWords.{trial_alone, trial_is_row, fault_again, refused_values}
use Rattle.command_words.proofs.words.read_trial.Goals as goal

pub returns-in_err-options : goal.returns-in_err-options
returns-in_err-options c = fault_again c.from_residual.result (codes "trial") trial_options (texts c.args.words.now) _ c.from_residual.ensures.1
    trial_is_row c.requires c.in_err-options.ensures

pub returns-in_default : goal.returns-in_default
returns-in_default c = refused_values (codes "trial") trial_options (texts c.args.words.now) c.in_ok-options.options.values trial_is_row
    c.in_ok-options.ensures (λ given slots are. trial_alone given (c.in_default.ensures given slots are))

pub returns : goal.returns
returns c =
    let read = c.in_ok-options.ensures in
    record {
      options = read.options;
      words_are = ap (λ words. codes "trial" ∷ words) read.words_are;
      gives = c.in-Some.ensures read.options read.slots read.options_are;
    }
