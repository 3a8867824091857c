use Rattle.std.proofs.Common.{map}
use Rattle.clap.specs.Words.{app_of, found_of}
use Rattle.command_words.specs.Slots.{spelled}
use Rattle.command_words.specs.Texts.{texts}
use Rattle.command_words.proofs.ParserAnswers.{read_by, refused_by}
use Rattle.command_words.proofs.parser.parse.Goals as goal

pub returns-in-Ok : goal.returns-in-Ok
returns-in-Ok c = read_by c.args.command.now (map spelled c.args.options.now) (texts c.args.words.now) (app_of c.in_ok-parser.parser)
    (found_of c.in-Ok.matches) c.values_in.result.values c.in_ok-parser.ensures c.requires c.in-Ok.ensures.kinds
    (λ simple. (c.in-Ok.ensures.matches simple).0) c.values_in.ensures

pub returns-in-Err : goal.returns-in-Err
returns-in-Err c = refused_by c.args.command.now c.args.options.now (texts c.args.words.now) (app_of c.in_ok-parser.parser) c.in-Err.error
    c.fault_of.result c.in_ok-parser.ensures c.in-Err.ensures.kinds c.fault_of.ensures
