use Rattle.std.proofs.Common.{ap, ◌∙◌}
use Rattle.std.proofs.lemmas.Bool.{eq-eqb, ne_eqb}
use Rattle.wb_machine.specs.declared.pieces.PendingPiece.TheVariants.{Object}
use Rattle.wb_machine.specs.Flow.{context_of, rest_from}
use Rattle.wb_machine.proofs.turns.Heads.{null_deleted, object_deleted}
use Rattle.wb_machine.proofs.turns.Steps.{pending_pushed}
use Rattle.wb_machine.proofs.turns.Scripts.{sound_pushed}
use Rattle.wb_machine.proofs.control.Control.begin_delete.Goals as goal

pub returns-in_ok-push-clause-kept : goal.returns-in_ok-push-clause-kept
returns-in_ok-push-clause-kept c script r budget h =
    let new = c.push.new.self.pieces.items in
    ap (λ e. rest_from script budget r e new h) (c.in_ok-push.ensures.ending ∙ c.requires)
    ∙ object_deleted script budget r (context_of c.args.at) c.args.ptr c.args.self.now.pieces.items new h
    (pending_pushed h.callers c.args.self.now.pieces.items new (Object c.args.at c.args.ptr) c.in_ok-push.ensures.pieces) (ne_eqb c.args.ptr.number 0 c.if-ptr-ne0.true)

pub returns-in_ok-push-clause-sound : goal.returns-in_ok-push-clause-sound
returns-in_ok-push-clause-sound c script below =
    sound_pushed script c.args.self.now.pieces.items c.push.new.self.pieces.items (Object c.args.at c.args.ptr) c.in_ok-push.ensures.pieces below tt

pub returns-else-ptr-ne0-clause-kept : goal.returns-else-ptr-ne0-clause-kept
returns-else-ptr-ne0-clause-kept c script r budget h =
    ap (λ e. rest_from script budget r e c.args.self.now.pieces.items h) c.requires
    ∙ null_deleted script budget r (context_of c.args.at) c.args.ptr c.args.self.now.pieces.items h (eq-eqb c.args.ptr.number 0 c.if-ptr-ne0.false)
