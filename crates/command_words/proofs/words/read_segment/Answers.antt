use Rattle.std.proofs.Common.{◌∷◌, codes, ap, string_bytes}
use Rattle.command_words.specs.Words.{segment_options}
use Rattle.command_words.specs.Texts.{texts}
use Rattle.command_words.proofs.WholeWords.{segment_alone, segment_is_row, fault_again, refused_values, no_memory, settings_of, names_copied}
use Rattle.command_words.proofs.words.read_segment.Goals as goal

pub returns-in_err-options : goal.returns-in_err-options
returns-in_err-options c = fault_again c.from_residual.result (codes "segment") segment_options (texts c.args.words.now) _ c.from_residual.ensures.1
    segment_is_row c.requires c.in_err-options.ensures

pub returns-in_default : goal.returns-in_default
returns-in_default c = refused_values (codes "segment") segment_options (texts c.args.words.now) c.in_ok-options.options.values segment_is_row
    c.in_ok-options.ensures (λ given slots are. segment_alone given (c.in_default.ensures given slots are))

pub returns-in_err-volume : goal.returns-in_err-volume
returns-in_err-volume c = no_memory c.from_residual-in_err-volume.result (codes "segment") (texts c.args.words.now)
    c.from_residual-in_err-volume.ensures.1 segment_is_row.known c.requires

pub returns-in_err-labels : goal.returns-in_err-labels
returns-in_err-labels c = no_memory c.from_residual-in_err-labels.result (codes "segment") (texts c.args.words.now)
    c.from_residual-in_err-labels.ensures.1 segment_is_row.known c.requires

pub returns-in_err-tree : goal.returns-in_err-tree
returns-in_err-tree c = no_memory c.from_residual-in_err-tree.result (codes "segment") (texts c.args.words.now)
    c.from_residual-in_err-tree.ensures.1 segment_is_row.known c.requires

pub returns : goal.returns
returns c =
    let read = c.in_ok-options.ensures in
    let says = c.in-Some.ensures read.options read.slots read.options_are in
    record {
      options = read.options;
      words_are = ap (λ words. codes "segment" ∷ words) read.words_are;
      gives = names_copied read.options (settings_of c.in-Some.values) (string_bytes c.in_ok-volume.volume) (string_bytes c.in_ok-labels.labels)
          (string_bytes c.in_ok-tree.tree) c.in_ok-volume.ensures.ok c.in_ok-labels.ensures.ok c.in_ok-tree.ensures.ok says;
    }
