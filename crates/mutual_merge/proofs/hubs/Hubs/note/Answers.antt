use Rattle.std.proofs.Common.{◌∷◌, ℕ, List}
use Rattle.std.proofs.lemmas.Result.{IfOk-weaker}
use Rattle.mutual_merge.specs.Hubs.{AreReady, AreReadyBut, HasGained}
use Rattle.mutual_merge.proofs.SlotFirsts.{read_link}
use Rattle.mutual_merge.proofs.ReadyHubs.{gained_both, gained_ready}
use Rattle.mutual_merge.proofs.hubs.Hubs.note.Goals as goal

pub returns-clause-noted : goal.returns-clause-noted
returns-clause-noted c =
    let link = c.index-links-index.result in
    IfOk-weaker c.add-2.result (λ x. HasGained link.b c.args.index link c.add.new.self c.add-2.new.self)
    (λ x. (rest : List ℕ) → AreReadyBut c.args.links.now c.args.self.now (c.args.index ∷ rest) → AreReadyBut c.args.links.now c.add-2.new.self rest)
    (λ x gained rest.
    gained_both c.args.links.now c.args.index link c.args.self.now c.add.new.self c.add-2.new.self rest
    (read_link c.args.links.now c.args.index link c.requires c.index-links-index.is) c.in_ok-add.ensures gained) c.add-2.ensures

pub returns-clause-ready : goal.returns-clause-ready
returns-clause-ready c =
    let link = c.index-links-index.result in
    IfOk-weaker c.add-2.result (λ x. HasGained link.b c.args.index link c.add.new.self c.add-2.new.self)
    (λ x. AreReady c.args.links.now c.args.self.now → AreReady c.args.links.now c.add-2.new.self)
    (λ x gained ready.
    gained_ready c.args.links.now link.b c.args.index link c.add.new.self c.add-2.new.self gained
    (gained_ready c.args.links.now link.a c.args.index link c.args.self.now c.add.new.self c.in_ok-add.ensures ready)) c.add-2.ensures
