use Rattle.std.proofs.Common.{◌∷◌, codes, ap, subst, sym}
use Rattle.command_words.specs.Words.{show_options, GivesShow}
use Rattle.command_words.specs.Texts.{texts}
use Rattle.command_words.proofs.WholeWords.{show_alone, show_is_row, fault_again, refused_values, no_memory}
use Rattle.command_words.proofs.words.read_show.Goals as goal

pub returns-in_err-options : goal.returns-in_err-options
returns-in_err-options c = fault_again c.from_residual.result (codes "show") show_options (texts c.args.words.now) _ c.from_residual.ensures.1
    show_is_row c.requires c.in_err-options.ensures

pub returns-in_default : goal.returns-in_default
returns-in_default c = refused_values (codes "show") show_options (texts c.args.words.now) c.in_ok-options.options.values show_is_row
    c.in_ok-options.ensures (λ given slots are. show_alone given (c.in_default.ensures given slots are))

pub returns-in_err-tree : goal.returns-in_err-tree
returns-in_err-tree c = no_memory c.from_residual-in_err-tree.result (codes "show") (texts c.args.words.now)
    c.from_residual-in_err-tree.ensures.1 show_is_row.known c.requires

pub returns : goal.returns
returns c =
    let read = c.in_ok-options.ensures in
    let says = c.in-Some.ensures read.options read.slots read.options_are in
    record {
      options = read.options;
      words_are = ap (λ words. codes "show" ∷ words) read.words_are;
      gives = subst (GivesShow read.options) (sym c.in_ok-tree.ensures.ok) says;
    }
