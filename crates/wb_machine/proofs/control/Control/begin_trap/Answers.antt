use Rattle.std.proofs.Common.{ap, ◌∙◌}
use Rattle.wb_machine.specs.declared.pieces.PendingPiece.TheVariants.{Code, Trap}
use Rattle.wb_machine.specs.Flow.{context_of, rest_from}
use Rattle.wb_machine.proofs.turns.Heads.{trap_rest}
use Rattle.wb_machine.proofs.turns.Steps.{pending_pushed}
use Rattle.wb_machine.proofs.turns.Scripts.{sound_pushed}
use Rattle.wb_machine.proofs.control.Control.begin_trap.Goals as goal

pub returns-clause-kept : goal.returns-clause-kept
returns-clause-kept c script r budget =
    let h = c.args.state.now in
    let entry = c.items-entry.result in
    let new = c.push-2.new.self.pieces.items in
    ap (λ e. rest_from script budget r e new h) (c.in_ok-push-2.ensures.ending ∙ c.in_ok-push.ensures.ending ∙ c.requires)
    ∙ trap_rest script budget r (context_of c.args.at) c.args.local entry c.args.body.now c.args.self.now.pieces.items c.push.new.self.pieces.items new h c.items-entry.ensures.items
    (pending_pushed h.callers c.args.self.now.pieces.items c.push.new.self.pieces.items (Trap c.args.at c.args.local entry) c.in_ok-push.ensures.pieces)
    (pending_pushed h.callers c.push.new.self.pieces.items new (Code (record c.args.at { floor = entry }) c.args.body) c.in_ok-push-2.ensures.pieces)

pub returns-clause-sound : goal.returns-clause-sound
returns-clause-sound c script own below =
    let entry = c.items-entry.result in
    sound_pushed script c.push.new.self.pieces.items c.push-2.new.self.pieces.items (Code (record c.args.at { floor = entry }) c.args.body) c.in_ok-push-2.ensures.pieces
    (sound_pushed script c.args.self.now.pieces.items c.push.new.self.pieces.items (Trap c.args.at c.args.local entry) c.in_ok-push.ensures.pieces below tt) own
