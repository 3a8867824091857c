use Rattle.std.proofs.Common.{[], ◌∙◌, ap, rules}
use Rattle.command_words.specs.Words.{Show}
use Rattle.agglo_program.specs.Answers.{Finds}
use Rattle.agglo_program.proofs.Stopped.{done_or_stopped}
use Rattle.agglo_program.proofs.top_call.run_show.Goals as goal

pub returns : goal.returns
returns g c =
    let found : Finds (Show c.args.tree.now) _ (g.D.Desk.state c.args.desk.now) (g.D.Desk.state c.read_tree_file.new.desk) = record {
      tree = c.in_ok-tree.tree;
      read = c.in_ok-tree.ensures;
      answer_is = ap (λ n. record { outputs = []; note = n }) (c.as_bytes.ensures.value ∙ c.in_ok-note.ensures);
    } in
    done_or_stopped _ c.put_all.result c.map_err.result _ _ _ _ _ found c.put_all.ensures c.map_err.ensures.cases
    (λ e d is. search rules)
