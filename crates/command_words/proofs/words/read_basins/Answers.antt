use Rattle.std.proofs.Common.{◌∷◌, codes, ap, subst, sym, string_bytes}
use Rattle.command_words.specs.Words.{basins_options, GivesBasins}
use Rattle.command_words.specs.Texts.{texts}
use Rattle.command_words.proofs.WholeWords.{basins_alone, basins_is_row, fault_again, refused_values, no_memory}
use Rattle.command_words.proofs.words.read_basins.Goals as goal

pub returns-in_err-options : goal.returns-in_err-options
returns-in_err-options c = fault_again c.from_residual.result (codes "basins") basins_options (texts c.args.words.now) _ c.from_residual.ensures.1
    basins_is_row c.requires c.in_err-options.ensures

pub returns-in_default : goal.returns-in_default
returns-in_default c = refused_values (codes "basins") basins_options (texts c.args.words.now) c.in_ok-options.options.values basins_is_row
    c.in_ok-options.ensures (λ given slots are. basins_alone given (c.in_default.ensures given slots are))

pub returns-in_err-volume : goal.returns-in_err-volume
returns-in_err-volume c = no_memory c.from_residual-in_err-volume.result (codes "basins") (texts c.args.words.now)
    c.from_residual-in_err-volume.ensures.1 basins_is_row.known c.requires

pub returns-in_err-labels : goal.returns-in_err-labels
returns-in_err-labels c = no_memory c.from_residual-in_err-labels.result (codes "basins") (texts c.args.words.now)
    c.from_residual-in_err-labels.ensures.1 basins_is_row.known c.requires

pub returns : goal.returns
returns c =
    let read = c.in_ok-options.ensures in
    let says = c.in-Some.ensures read.options read.slots read.options_are in
    record {
      options = read.options;
      words_are = ap (λ words. codes "basins" ∷ words) read.words_are;
      gives = subst (λ v. GivesBasins read.options (record { volume = v; labels = string_bytes c.in_ok-labels.labels; low = c.in-Some.values.low }))
          (sym c.in_ok-volume.ensures.ok)
          (subst (λ l. GivesBasins read.options (record { volume = c.in-Some.values.volume.now; labels = l; low = c.in-Some.values.low }))
          (sym c.in_ok-labels.ensures.ok) says);
    }
