use Rattle.std.proofs.Common.{refl, ◌∙◌, rules}
use Rattle.agglo_program.proofs.Segmented.{made_answer}
use Rattle.command_words.specs.Words.{Make}
use Rattle.agglo_program.specs.Answers.{Finds}
use Rattle.agglo_program.proofs.Stopped.{done_or_stopped}
use Rattle.agglo_program.proofs.top_call.run_make.Goals as goal

pub returns : goal.returns
returns g c =
    let found : Finds (Make (record { volume = c.args.name.now; start = c.args.start; axes = c.args.dims.now })) _ (g.D.Desk.state c.args.desk.now) (g.D.Desk.state c.args.desk.now) = record {
      answer_is = made_answer (record { volume = c.args.name.now; start = c.args.start; axes = c.args.dims.now }) _
          (c.as_str.ensures.value ∙ c.in_ok-note.ensures);
      after = refl;
    } in
    done_or_stopped _ c.write_made.result c.map_err.result _ _ _ _ _ found c.write_made.ensures c.map_err.ensures.cases
    (λ e d is. search rules)
