use Rattle.wb_machine.proofs.kept.SlotsKept.{slots_pushed, first_pushed}
use Rattle.wb_machine.proofs.control.Control.push.Goals as goal

pub returns-clause-slots : goal.returns-clause-slots
returns-clause-slots c = slots_pushed c.args.self.now.pieces.items c.push.new.self.items c.args.piece c.in_ok-push.ensures.items

pub returns-clause-first : goal.returns-clause-first
returns-clause-first c = first_pushed c.args.self.now.pieces.items c.push.new.self.items c.args.piece c.in_ok-push.ensures.items
