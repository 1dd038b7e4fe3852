use Rattle.std.proofs.Common.{sym, ap, ◌∙◌, rules, w32, FitsSigned}
use Rattle.std.proofs.lemmas.Int.{to_z-of_z}
use Rattle.wb_basics.specs.declared.limits.TheConstants.{MOST_TURNS}
use Rattle.wb_meaning.specs.Operands.{within}
use Rattle.wb_machine.specs.declared.pieces.PendingPiece.TheVariants.{Turns}
use Rattle.wb_machine.specs.Flow.{context_of, rest_from}
use Rattle.wb_machine.proofs.turns.Heads.{turns_rest, turns_refused}
use Rattle.wb_machine.proofs.turns.Steps.{pending_pushed}
use Rattle.wb_machine.proofs.turns.Scripts.{sound_pushed}
use Rattle.wb_machine.proofs.control.Control.begin_repeat.Goals as goal

pub returns-in_ok-push-in-Some-clause-kept : goal.returns-in_ok-push-in-Some-clause-kept
returns-in_ok-push-in-Some-clause-kept c script r budget =
    let new = c.push.new.self.pieces.items in
    let h = c.args.state.now in
    let fits : FitsSigned w32 c.number.result = search rules in
    let value = to_z-of_z w32 c.number.result fits ∙ c.number.ensures in
    ap (λ e. rest_from script budget r e new h) (c.in_ok-push-in-Some.ensures.ending ∙ c.requires)
    ∙ turns_rest script budget r (context_of c.args.at) c.args.count.now c.in-Some.turns c.args.body.now c.args.self.now.pieces.items new h
    (pending_pushed h.callers c.args.self.now.pieces.items new (Turns c.args.at c.in-Some.turns c.args.body) c.in_ok-push-in-Some.ensures.pieces)
    (sym (ap (within MOST_TURNS) value) ∙ sym c.number_within.ensures.value ∙ c.in-Some.is)

pub returns-in_ok-push-in-Some-clause-sound : goal.returns-in_ok-push-in-Some-clause-sound
returns-in_ok-push-in-Some-clause-sound c script own below =
    sound_pushed script c.args.self.now.pieces.items c.push.new.self.pieces.items (Turns c.args.at c.in-Some.turns c.args.body) c.in_ok-push-in-Some.ensures.pieces below own

pub returns-in-None-clause-kept : goal.returns-in-None-clause-kept
returns-in-None-clause-kept c script r budget =
    let fits : FitsSigned w32 c.number.result = search rules in
    let value = to_z-of_z w32 c.number.result fits ∙ c.number.ensures in
    turns_refused script budget r (context_of c.args.at) c.args.count.now c.args.body.now c.args.self.now.pieces.items c.args.state.now
    (sym (ap (within MOST_TURNS) value) ∙ sym c.number_within.ensures.value ∙ c.in-None.is)
