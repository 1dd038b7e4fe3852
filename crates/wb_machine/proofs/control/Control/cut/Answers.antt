use Rattle.wb_machine.proofs.turns.Steps.{rest_cut}
use Rattle.wb_machine.proofs.control.Control.cut.Goals as goal

pub returns-clause-kept : goal.returns-clause-kept
returns-clause-kept c script r budget h at =
    let ready = c.requires in
    rest_cut script budget r c.args.self.now.ending c.args.self.now.pieces.items ready.1 ready.2 h ready.0 ready.3 ready.4 at
