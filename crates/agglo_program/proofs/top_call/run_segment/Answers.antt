use Rattle.std.proofs.Common.{ap, subst, sym, ◌∙◌, rules}
use Rattle.agglo_model.specs.Axes.{Axes}
use Rattle.agglo_model.specs.MergeTree.{AreLawful}
use Rattle.agglo_program.proofs.Segmented.{lawful, answer_is}
use Rattle.command_words.specs.Words.{Segment}
use Rattle.agglo_program.specs.Answers.{Finds}
use Rattle.agglo_program.proofs.Stopped.{done_or_stopped}
use Rattle.agglo_program.proofs.top_call.run_segment.Goals as goal

pub of-tree-requires : goal.of-tree-requires
of-tree-requires g c = subst (λ (a : Axes). AreLawful a c.args.plan.now.settings.threshold c.in_ok-answer.answer.merges.items) (sym c.dims.ensures.value)
    (lawful _ _ _ _ _ _ _ _ c.greedy_merges_are_lawful.ensures c.bounded_labels.ensures c.dims.ensures.whole c.in_ok-answer.ensures.answer)

pub returns : goal.returns
returns g c =
    let found : Finds (Segment (record {
      volume = c.args.volume.now;
      labels = c.args.names.labels.now;
      tree = c.args.names.tree.now;
      low = c.args.plan.now.settings.low;
      threshold = c.args.plan.now.settings.threshold;
      chunk = c.args.plan.now.chunk;
      workers = c.args.plan.now.settings.workers;
    })) _ (g.D.Desk.state c.args.desk.now) (g.D.Desk.state c.read_cut_volume.new.desk) = record {
      volume = c.in_ok-read.read.volume;
      cutting = c.in_ok-read.read.cutting;
      read = c.in_ok-read.ensures;
      labels = c.in_ok-answer.answer.labels.labels;
      basins = c.in_ok-answer.answer.basins;
      merges = c.in_ok-answer.answer.merges.items;
      levels = c.in_ok-answer.answer.levels.items;
      segmentation = c.in_ok-answer.ensures.answer;
      answer_is = answer_is (record {
        volume = c.args.volume.now;
        labels = c.args.names.labels.now;
        tree = c.args.names.tree.now;
        low = c.args.plan.now.settings.low;
        threshold = c.args.plan.now.settings.threshold;
        chunk = c.args.plan.now.chunk;
        workers = c.args.plan.now.settings.workers;
      }) _ _ _ _ _ _ _ _ c.in_ok-answer.ensures.axes
          (c.of-tree.ensures ∙ ap (λ (a : Axes). record { axes = a; threshold = c.args.plan.now.settings.threshold; merges = c.in_ok-answer.answer.merges.items }) c.dims.ensures.value)
          (c.as_str.ensures.value ∙ c.in_ok-report.ensures);
    } in
    done_or_stopped _ c.write_segmentation.result c.map_err.result _ _ _ _ _ found c.write_segmentation.ensures c.map_err.ensures.cases
    (λ e d is. search rules)
