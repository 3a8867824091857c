use Rattle.clap.specs.Words.{app_of, rule_of}
use Rattle.command_words.proofs.ParserRules.{adds_option}
use Rattle.command_words.proofs.parser.make_parser.Goals as goal

pub loop-option-preserved : goal.loop-option-preserved
loop-option-preserved c = adds_option c.args.command.now c.args.options.now c.loop-option.option-index _ (app_of c.loop-option.parser)
    (app_of c.in_ok-parser.parser) (rule_of c.option_arg.result) c.loop-option-test.true c.loop-option.invariant
    (c.in_ok-parser.ensures.shape c.option_arg.ensures.local) c.option_arg.ensures.rule
