use Rattle.std.proofs.Common.{sym, ap, ◌∙◌, arith, rules, w32, FitsSigned}
use Rattle.std.proofs.lemmas.Int.{to_z-of_z}
use Rattle.wb_meaning.specs.Operands.{not_negative}
use Rattle.wb_machine.specs.declared.pieces.PendingPiece.TheVariants.{Items}
use Rattle.wb_machine.specs.Flow.{context_of, rest_from}
use Rattle.wb_machine.proofs.turns.Heads.{pop_rest, pop_below, pop_refused}
use Rattle.wb_machine.proofs.turns.Steps.{pending_pushed}
use Rattle.wb_machine.proofs.turns.Scripts.{sound_pushed}
use Rattle.wb_machine.proofs.control.Control.begin_pop.Goals as goal

pub returns-in_ok-push-clause-kept : goal.returns-in_ok-push-clause-kept
returns-in_ok-push-clause-kept c script r budget =
    let new = c.push.new.self.pieces.items in
    let h = c.args.state.now in
    let count = c.in-Some.count in
    let fits : FitsSigned w32 c.number.result = search rules in
    let value = to_z-of_z w32 c.number.result fits ∙ c.number.ensures in
    ap (λ e. rest_from script budget r e new h) (c.in_ok-push.ensures.ending ∙ c.requires)
    ∙ pop_rest script budget r (context_of c.args.at) c.args.count.now count c.args.self.now.pieces.items new h
    (pending_pushed h.callers c.args.self.now.pieces.items new (Items c.args.at count) c.in_ok-push.ensures.pieces)
    (sym (ap not_negative value) ∙ sym c.not_negative.ensures ∙ c.in-Some.is)
    (omega (arith, c.from.ensures, c.from-2.ensures, c.from-3.ensures, c.items.ensures.items, c.if-from.true))

pub returns-in_ok-push-clause-sound : goal.returns-in_ok-push-clause-sound
returns-in_ok-push-clause-sound c script below =
    sound_pushed script c.args.self.now.pieces.items c.push.new.self.pieces.items (Items c.args.at c.in-Some.count) c.in_ok-push.ensures.pieces below tt

pub returns-else-from-clause-kept : goal.returns-else-from-clause-kept
returns-else-from-clause-kept c script r budget =
    let fits : FitsSigned w32 c.number.result = search rules in
    let value = to_z-of_z w32 c.number.result fits ∙ c.number.ensures in
    pop_below script budget r (context_of c.args.at) c.args.count.now c.in-Some.count c.args.self.now.pieces.items c.args.state.now
    (sym (ap not_negative value) ∙ sym c.not_negative.ensures ∙ c.in-Some.is)
    (omega (arith, c.from.ensures, c.from-2.ensures, c.from-3.ensures, c.items.ensures.items, c.if-from.false))

pub returns-in_default-clause-kept : goal.returns-in_default-clause-kept
returns-in_default-clause-kept c script r budget =
    let fits : FitsSigned w32 c.number.result = search rules in
    let value = to_z-of_z w32 c.number.result fits ∙ c.number.ensures in
    pop_refused script budget r (context_of c.args.at) c.args.count.now c.args.self.now.pieces.items c.args.state.now
    (sym (ap not_negative value) ∙ sym c.not_negative.ensures ∙ c.in_default.is)
