use Rattle.std.proofs.Common.{◌∷◌, codes, ap, subst, sym}
use Rattle.command_words.specs.Words.{make_options, GivesMake}
use Rattle.command_words.specs.Texts.{texts}
use Rattle.command_words.proofs.WholeWords.{make_alone, make_is_row, fault_again, refused_values, no_memory}
use Rattle.command_words.proofs.words.read_make.Goals as goal

pub returns-in_err-options : goal.returns-in_err-options
returns-in_err-options c = fault_again c.from_residual.result (codes "make") make_options (texts c.args.words.now) _ c.from_residual.ensures.1
    make_is_row c.requires c.in_err-options.ensures

pub returns-in_default : goal.returns-in_default
returns-in_default c = refused_values (codes "make") make_options (texts c.args.words.now) c.in_ok-options.options.values make_is_row
    c.in_ok-options.ensures (λ given slots are. make_alone given (c.in_default.ensures given slots are))

pub returns-in_err-volume : goal.returns-in_err-volume
returns-in_err-volume c = no_memory c.from_residual-in_err-volume.result (codes "make") (texts c.args.words.now)
    c.from_residual-in_err-volume.ensures.1 make_is_row.known c.requires

pub returns : goal.returns
returns c =
    let read = c.in_ok-options.ensures in
    let says = c.in-Some.ensures read.options read.slots read.options_are in
    record {
      options = read.options;
      words_are = ap (λ words. codes "make" ∷ words) read.words_are;
      gives = subst (λ v. GivesMake read.options (record { volume = v; start = c.in-Some.values.start; axes = c.in-Some.values.dims }))
          (sym c.in_ok-volume.ensures.ok) says;
    }
