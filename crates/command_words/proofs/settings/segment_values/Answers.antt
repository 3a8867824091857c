use Rattle.std.proofs.Common.{sym, ◌∙◌}
use Rattle.std.proofs.lemmas.Slice.Eq.{bytes_eq-Decides}
use Rattle.command_words.proofs.GivenValues.{same_name}
use Rattle.command_words.proofs.settings.segment_values.Goals as goal
use Rattle.command_words.proofs.settings.segment_values.Goals.{then-eq-via-then-eq, then-eq-via-else-eq+then-eq-2, then-eq-via-else-eq+else-eq-2+then-eq-3}

pub returns-in_err-volume : goal.returns-in_err-volume
returns-in_err-volume c = λ given slots are. rw c.from_residual.ensures (λ settings gives. c.in_err-volume.ensures given slots settings.volume gives.volume)

pub returns-in_err-labels : goal.returns-in_err-labels
returns-in_err-labels c = λ given slots are. rw c.from_residual-in_err-labels.ensures (λ settings gives. c.in_err-labels.ensures given slots settings.labels gives.labels)

pub returns-in_err-tree : goal.returns-in_err-tree
returns-in_err-tree c = λ given slots are. rw c.from_residual-in_err-tree.ensures (λ settings gives. c.in_err-tree.ensures given slots settings.tree gives.tree)

pub returns-in_err-low : goal.returns-in_err-low
returns-in_err-low c = λ given slots are. rw c.from_residual-in_err-low.ensures (λ settings gives. c.in_err-low.ensures.number given slots settings.low gives.low)

pub returns-in_err-threshold : goal.returns-in_err-threshold
returns-in_err-threshold c = λ given slots are. rw c.from_residual-in_err-threshold.ensures (λ settings gives. c.in_err-threshold.ensures given slots settings.threshold gives.merge)

pub returns-in_err-chunk : goal.returns-in_err-chunk
returns-in_err-chunk c = λ given slots are. rw c.from_residual-in_err-chunk.ensures (λ settings gives. c.in_err-chunk.ensures given slots settings.chunk gives.chunk)

pub returns-in_err-workers : goal.returns-in_err-workers
returns-in_err-workers c = λ given slots are. rw c.from_residual-in_err-workers.ensures (λ settings gives. c.in_err-workers.ensures.number given slots settings.workers gives.workers)

pub returns-then-eq : goal.returns-then-eq
returns-then-eq c = λ given slots are settings gives.
    let volume = same_name given slots.once _ settings.volume c.in_ok-volume.volume.now gives.volume (c.in_ok-volume.ensures given slots) in
    let labels = same_name given slots.once _ settings.labels c.in_ok-labels.labels.now gives.labels (c.in_ok-labels.ensures given slots) in
    let tree = same_name given slots.once _ settings.tree c.in_ok-tree.tree.now gives.tree (c.in_ok-tree.ensures given slots) in
    elim c.then-eq.branch [
      | then-eq-via-then-eq w ↦ gives.volume_labels (volume
          ∙ (bytes_eq-Decides c.in_ok-volume.volume.now c.in_ok-labels.labels.now).0 (sym w.if-eq.ensures) ∙ sym labels)
      | then-eq-via-else-eq+then-eq-2 w ↦ gives.volume_tree (volume
          ∙ (bytes_eq-Decides c.in_ok-volume.volume.now c.in_ok-tree.tree.now).0 (sym w.if-eq-2.ensures) ∙ sym tree)
      | then-eq-via-else-eq+else-eq-2+then-eq-3 w ↦ gives.labels_tree (labels
          ∙ (bytes_eq-Decides c.in_ok-labels.labels.now c.in_ok-tree.tree.now).0 (sym w.if-eq-3.ensures) ∙ sym tree)
    ]

pub returns : goal.returns
returns c = λ given slots are.
    let volume = c.in_ok-volume.ensures given slots in
    let labels = c.in_ok-labels.ensures given slots in
    let tree = c.in_ok-tree.ensures given slots in
    let low = c.in_ok-low.ensures.number given slots in
    let merge = c.in_ok-threshold.ensures given slots in
    let chunk = c.in_ok-chunk.ensures given slots in
    let workers = c.in_ok-workers.ensures.number given slots in
    record {
      options_are = are;
      volume = volume;
      labels = labels;
      tree = tree;
      low = low;
      merge = merge;
      chunk = chunk;
      workers = workers;
      volume_labels = λ e. cc (c.if-eq.ensures ∙ (bytes_eq-Decides c.in_ok-volume.volume.now c.in_ok-labels.labels.now).1 e);
      volume_tree = λ e. cc (c.if-eq-2.ensures ∙ (bytes_eq-Decides c.in_ok-volume.volume.now c.in_ok-tree.tree.now).1 e);
      labels_tree = λ e. cc (c.if-eq-3.ensures ∙ (bytes_eq-Decides c.in_ok-labels.labels.now c.in_ok-tree.tree.now).1 e);
    }
