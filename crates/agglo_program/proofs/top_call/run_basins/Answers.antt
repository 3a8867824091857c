use Rattle.std.proofs.Common.{◌≡◌, ℕ, List, ◌∙◌, rules}
use Rattle.agglo_model.specs.Axes.{Axes}
use Rattle.agglo_model.specs.Note.{basins_note}
use Rattle.command_words.specs.Words.{Basins, BasinsSettings}
use Rattle.agglo_program.specs.Answers.{Finds, basins_answer}
use Rattle.agglo_program.proofs.Stopped.{done_or_stopped}
use Rattle.agglo_program.proofs.top_call.run_basins.Goals as goal

-- what was written is the answer for the labels of the volume's axes
answer_is : (settings : BasinsSettings) (axes axes' : Axes) (labels note : List ℕ) → axes ≡ axes' → note ≡ basins_note labels
    → record { outputs = (basins_answer settings axes labels).outputs; note = note } ≡ basins_answer settings axes' labels
answer_is settings axes axes' labels note e f = λ i. record { outputs = (basins_answer settings (e i) labels).outputs; note = f i }

pub returns : goal.returns
returns g c =
    let found : Finds (Basins (record { volume = c.args.volume.now; labels = c.args.labels.now; low = c.args.low })) _ (g.D.Desk.state c.args.desk.now) (g.D.Desk.state c.read_volume_file.new.desk) = record {
      volume = c.in_ok-volume.volume;
      read = c.in_ok-volume.ensures;
      labels = c.in_ok-basins.basins.labels;
      basins = c.in_ok-basins.ensures.basins;
      answer_is = answer_is (record { volume = c.args.volume.now; labels = c.args.labels.now; low = c.args.low }) _ _ _ _ c.in_ok-basins.ensures.axes (c.as_str.ensures.value ∙ c.in_ok-note.ensures);
    } in
    done_or_stopped _ c.write_basins.result c.map_err.result _ _ _ _ _ found c.write_basins.ensures c.map_err.ensures.cases
    (λ e d is. search rules)
