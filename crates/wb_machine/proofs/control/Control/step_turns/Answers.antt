use Rattle.std.proofs.Common.{ap, ◌∙◌, ◌-◌, arith}
use Rattle.wb_machine.specs.RunState.{RunState}
use Rattle.wb_machine.specs.declared.pieces.Ending.TheVariants.{GoesOn}
use Rattle.wb_machine.specs.declared.pieces.PendingPiece.TheVariants.{Code, Turns}
use Rattle.wb_machine.specs.Flow.{context_of, rest_from}
use Rattle.wb_machine.proofs.turns.Steps.{pending_pushed, rest_turned}
use Rattle.wb_machine.proofs.turns.Scripts.{sound_pushed}
use Rattle.wb_machine.proofs.kept.SlotsKept.{slots_pushed}
use Rattle.wb_machine.proofs.control.Control.step_turns.Goals as goal

pub returns-clause-kept : goal.returns-clause-kept
returns-clause-kept c script r budget below is within =
    let callers = c.args.state.now.callers in
    let mid = c.replace_top.new.self.pieces.items in
    let new = c.push.new.self.pieces.items in
    let left = Turns c.args.at (c.args.left - 1) c.args.body in
    ap (λ e. rest_from script budget r e new c.tick.new.self) (c.in_ok-push.ensures.ending ∙ c.replace_top.ensures.ending ∙ c.requires.going)
    ∙ ap (λ (x : RunState). rest_from script budget r GoesOn new x) c.tick.ensures
    ∙ rest_turned script budget r (context_of c.args.at) c.args.left (c.args.left - 1) c.args.body.now below mid new c.args.state.now
    (pending_pushed callers below mid left (c.replace_top.ensures.pieces below (Turns c.args.at c.args.left c.args.body) is))
    (pending_pushed callers mid new (Code c.args.at c.args.body) c.in_ok-push.ensures.pieces)
    (omega (arith, c.requires.left)) within

pub returns-clause-sound : goal.returns-clause-sound
returns-clause-sound c script below is own under =
    let mid = c.replace_top.new.self.pieces.items in
    let left = Turns c.args.at (c.args.left - 1) c.args.body in
    sound_pushed script mid c.push.new.self.pieces.items (Code c.args.at c.args.body) c.in_ok-push.ensures.pieces
    (sound_pushed script below mid left (c.replace_top.ensures.pieces below (Turns c.args.at c.args.left c.args.body) is) under own) own

pub returns-clause-slots : goal.returns-clause-slots
returns-clause-slots c below is =
    let mid = c.replace_top.new.self.pieces.items in
    let left = Turns c.args.at (c.args.left - 1) c.args.body in
    omega (arith, c.in_ok-push.ensures.slots, slots_pushed below mid left (c.replace_top.ensures.pieces below (Turns c.args.at c.args.left c.args.body) is))
