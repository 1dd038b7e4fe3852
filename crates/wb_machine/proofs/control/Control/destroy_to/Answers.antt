use Rattle.std.proofs.Common.{arith}
use Rattle.wb_machine.specs.declared.pieces.PendingPiece.TheVariants.{Items}
use Rattle.wb_machine.proofs.turns.Scripts.{sound_pushed, weight_pushed}
use Rattle.wb_machine.proofs.control.Control.destroy_to.Goals as goal

pub returns-clause-weight : goal.returns-clause-weight
returns-clause-weight c =
    omega (
      arith,
      weight_pushed c.args.self.now.pieces.items c.push.new.self.pieces.items c.args.then c.in_ok-push.ensures.pieces,
      weight_pushed c.push.new.self.pieces.items c.push-2.new.self.pieces.items (Items c.args.at c.saturating_sub-left.result) c.in_ok-push-2.ensures.pieces,
    )

pub returns-clause-sound : goal.returns-clause-sound
returns-clause-sound c script one below =
    sound_pushed script c.push.new.self.pieces.items c.push-2.new.self.pieces.items (Items c.args.at c.saturating_sub-left.result) c.in_ok-push-2.ensures.pieces
    (sound_pushed script c.args.self.now.pieces.items c.push.new.self.pieces.items c.args.then c.in_ok-push.ensures.pieces below one) tt
