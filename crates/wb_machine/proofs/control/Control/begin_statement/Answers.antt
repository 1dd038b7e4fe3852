use Rattle.std.proofs.Common.{◌≡◌, List, [], refl, ap, ◌∙◌, sym, subst, arith}
use Rattle.wb_tree.specs.declared.script.StatementAt.{StatementAt}
use Rattle.wb_tree.specs.declared.script.Statement.TheOpen.{Statement-F}
use Rattle.wb_tree.specs.declared.script.Argument.{Argument}
use Rattle.wb_meaning.specs.Statements.{Layer}
use Rattle.wb_meaning.specs.Meaning.{meaning_of}
use Rattle.wb_meaning.specs.Run.{whole_of}
use Rattle.wb_meaning.specs.Rest.{resume}
use Rattle.wb_machine.proofs.turns.Steps.{rest_known}
use Rattle.wb_machine.specs.RunState.{Values}
use Rattle.wb_tree.specs.declared.script.Statement.TheViews.{out-Statement, outs-If, outs-IfElse, outs-Repeat, outs-Trap, outs-Call, outs-CallTo}
use Rattle.wb_machine.specs.Flow.{context_of, pending_in, AreOwn, rest_of_statement}
use Rattle.wb_machine.specs.PointerOperands.{first_refusal, of_arguments, operands_refusal}
use Rattle.wb_machine.proofs.effects.Outcomes.{on_ok_then, on_ok_anyhow}
use Rattle.wb_machine.proofs.kept.WholeCells.{effect_whole}
use Rattle.wb_machine.proofs.turns.Heads.{if_as_choice}
use Rattle.wb_machine.proofs.turns.Scripts.{own_if, own_choice, own_turns, own_trapped, own_none, own_call, own_call_to}
use Rattle.wb_machine.proofs.kept.SlotsKept.{effect_room, free_room, still_room, quiet_room}
use Rattle.wb_machine.proofs.control.Control.begin_statement.Goals as goal

pub returns-in-If-clause-kept : goal.returns-in-If-clause-kept
returns-in-If-clause-kept c =
    let script = c.args.script.now in
    let layer = out-Statement c.args.statement.now in
    let old = c.args.self.now.pieces.items in
    let h = c.args.state.now in
    let at = context_of c.args.at in
    let cond = c.in-If.condition in
    let first = c.in-If.first in
    let is : layer ≡ Statement-F.If cond first = ap out-Statement c.in-If.is ∙ outs-If cond first in
    on_ok_then c.begin_if.result c.begin_if.ensures.kept (λ kept r budget f.
    kept r budget (sym (ap (operands_refusal h) is) ∙ c.requires.operands)
    ∙ ap (λ (ss : List StatementAt). rest_of_statement script budget r at (Statement-F.IfElse cond ss []) old h) c.as_slice.ensures
    ∙ if_as_choice script budget r at cond first old h
    ∙ ap (λ (l : Layer). rest_of_statement script budget r at l old h) (sym is))

pub returns-in-If-clause-sound : goal.returns-in-If-clause-sound
returns-in-If-clause-sound c =
    let script = c.args.script.now in
    let own = own_if script (out-Statement c.args.statement.now) c.requires.own c.in-If.condition c.in-If.first (ap out-Statement c.in-If.is ∙ outs-If c.in-If.condition c.in-If.first) in
    on_ok_then c.begin_if.result c.begin_if.ensures.sound (λ sound. sound script (subst (AreOwn script) (sym c.as_slice.ensures) own) (own_none script) c.requires.may.sound)

pub returns-in-IfElse-clause-sound : goal.returns-in-IfElse-clause-sound
returns-in-IfElse-clause-sound c =
    let script = c.args.script.now in
    let own = own_choice script (out-Statement c.args.statement.now) c.requires.own c.in-IfElse.condition c.in-IfElse.first c.in-IfElse.other
    (ap out-Statement c.in-IfElse.is ∙ outs-IfElse c.in-IfElse.condition c.in-IfElse.first c.in-IfElse.other) in
    on_ok_then c.begin_if-in-IfElse.result c.begin_if-in-IfElse.ensures.sound (λ sound.
    sound script (subst (AreOwn script) (sym c.as_slice-in-IfElse.ensures) own.0) (subst (AreOwn script) (sym c.as_slice-in-IfElse-2.ensures) own.1) c.requires.may.sound)

pub returns-in-Repeat-clause-sound : goal.returns-in-Repeat-clause-sound
returns-in-Repeat-clause-sound c =
    let script = c.args.script.now in
    let own = own_turns script (out-Statement c.args.statement.now) c.requires.own c.in-Repeat.count c.in-Repeat.body (ap out-Statement c.in-Repeat.is ∙ outs-Repeat c.in-Repeat.count c.in-Repeat.body) in
    on_ok_then c.begin_repeat.result c.begin_repeat.ensures.sound (λ sound. sound script (subst (AreOwn script) (sym c.as_slice-in-Repeat.ensures) own) c.requires.may.sound)

pub returns-in-Trap-clause-sound : goal.returns-in-Trap-clause-sound
returns-in-Trap-clause-sound c =
    let script = c.args.script.now in
    let own = own_trapped script (out-Statement c.args.statement.now) c.requires.own c.in-Trap.local c.in-Trap.body (ap out-Statement c.in-Trap.is ∙ outs-Trap c.in-Trap.local c.in-Trap.body) in
    on_ok_then c.begin_trap.result c.begin_trap.ensures.sound (λ sound. sound script (subst (AreOwn script) (sym c.as_slice-in-Trap.ensures) own) c.requires.may.sound)

pub returns-in_ok-self-in_default : goal.returns-in_ok-self-in_default
returns-in_ok-self-in_default c =
    let script = c.args.script.now in
    let pieces = c.args.self.now.pieces.items in
    record {
      kept = λ r budget f.
          rest_known script budget r c.in_ok-self-in_default.field-0 pieces (pending_in c.args.state.now.callers pieces) c.carry_out.new.self
          (ap (λ (callers : Values). pending_in callers pieces) c.in_ok-self-in_default.ensures.keeps.callers)
          ∙ ap whole_of (c.in_ok-self-in_default.ensures.kept r f (meaning_of script budget) (context_of c.args.at) refl (resume script budget (pending_in c.args.state.now.callers pieces)));
      sound = c.requires.may.sound;
      keeps = record { steps = c.in_ok-self-in_default.ensures.keeps.steps; stays = c.in_ok-self-in_default.ensures.keeps.stays };
      room = effect_room script c.args.at.floor (out-Statement c.args.statement.now) pieces c.args.state.now c.carry_out.new.self c.in_ok-self-in_default.field-0 c.in_ok-self-in_default.ensures.kept c.requires.may.free;
      whole = effect_whole script c.args.at.floor (out-Statement c.args.statement.now) c.args.state.now c.carry_out.new.self c.in_ok-self-in_default.field-0 c.in_ok-self-in_default.ensures.kept;
      line = refl;
    }

pub returns-in-PopDestroy-clause-sound : goal.returns-in-PopDestroy-clause-sound
returns-in-PopDestroy-clause-sound c = on_ok_then c.begin_pop.result c.begin_pop.ensures.sound (λ sound. sound c.args.script.now c.requires.may.sound)

pub returns-in-Construct-clause-whole : goal.returns-in-Construct-clause-whole
returns-in-Construct-clause-whole c = on_ok_anyhow c.begin_construct.result (c.begin_construct.ensures.quiet.whole c.args.script.now)

pub returns-in-If-clause-room : goal.returns-in-If-clause-room
returns-in-If-clause-room c =
    on_ok_then c.begin_if.result c.begin_if.ensures.slots (λ slots.
    still_room c.begin_if.new.self.ending c.args.self.now.pieces.items c.begin_if.new.self.pieces.items c.args.state.now c.requires.may.free slots)

pub returns-in-IfElse-clause-room : goal.returns-in-IfElse-clause-room
returns-in-IfElse-clause-room c =
    on_ok_then c.begin_if-in-IfElse.result c.begin_if-in-IfElse.ensures.slots (λ slots.
    still_room c.begin_if-in-IfElse.new.self.ending c.args.self.now.pieces.items c.begin_if-in-IfElse.new.self.pieces.items c.args.state.now c.requires.may.free slots)

pub returns-in-Repeat-clause-room : goal.returns-in-Repeat-clause-room
returns-in-Repeat-clause-room c =
    on_ok_then c.begin_repeat.result c.begin_repeat.ensures.slots (λ slots.
    still_room c.begin_repeat.new.self.ending c.args.self.now.pieces.items c.begin_repeat.new.self.pieces.items c.args.state.now c.requires.may.free slots)

pub returns-in-PopDestroy-clause-room : goal.returns-in-PopDestroy-clause-room
returns-in-PopDestroy-clause-room c =
    on_ok_then c.begin_pop.result c.begin_pop.ensures.slots (λ slots.
    still_room c.begin_pop.new.self.ending c.args.self.now.pieces.items c.begin_pop.new.self.pieces.items c.args.state.now c.requires.may.free slots)

pub returns-in-Trap-clause-room : goal.returns-in-Trap-clause-room
returns-in-Trap-clause-room c =
    let h = c.args.state.now in
    on_ok_then c.begin_trap.result c.begin_trap.ensures.slots (λ slots.
    free_room c.begin_trap.new.self.ending c.args.self.now.pieces.items c.begin_trap.new.self.pieces.items h h c.requires.may.free slots (omega arith) refl)

pub returns-in-Construct-clause-room : goal.returns-in-Construct-clause-room
returns-in-Construct-clause-room c =
    on_ok_then c.begin_construct.result c.begin_construct.ensures.slots (λ slots.
    quiet_room c.begin_construct.new.self.ending c.args.self.now.pieces.items c.begin_construct.new.self.pieces.items c.args.state.now c.begin_construct.new.state c.requires.may.free slots c.begin_construct.ensures.quiet)

-- the body that a call names is there
pub begin_call-requires-clause-there : goal.begin_call-requires-clause-there
begin_call-requires-clause-there c =
    (own_call c.args.script.now (out-Statement c.args.statement.now) c.requires.own c.in-Call.index c.in-Call.arguments
    (ap out-Statement c.in-Call.is ∙ outs-Call c.in-Call.index c.in-Call.arguments)).1

pub returns-in-Call-clause-kept : goal.returns-in-Call-clause-kept
returns-in-Call-clause-kept c =
    on_ok_then c.begin_call.result c.begin_call.ensures.kept (λ kept r budget f.
    let script = c.args.script.now in
    let h = c.args.state.now in
    let old = c.args.self.now.pieces.items in
    let at = context_of c.args.at in
    let layer = out-Statement c.args.statement.now in
    let is : layer ≡ Statement-F.Call c.in-Call.index c.in-Call.arguments = ap out-Statement c.in-Call.is ∙ outs-Call c.in-Call.index c.in-Call.arguments in
    kept r budget (ap (λ (given : List Argument). first_refusal h (of_arguments given)) c.as_slice-in-Call.ensures ∙ sym (ap (operands_refusal h) is) ∙ c.requires.operands)
    ∙ ap (λ (given : List Argument). rest_of_statement script budget r at (Statement-F.Call c.in-Call.index given) old h) c.as_slice-in-Call.ensures
    ∙ ap (λ (l : Layer). rest_of_statement script budget r at l old h) (sym is))

pub returns-in-Call-clause-sound : goal.returns-in-Call-clause-sound
returns-in-Call-clause-sound c = on_ok_then c.begin_call.result c.begin_call.ensures.sound (λ sound. sound c.requires.may.sound)

pub returns-in-Call-clause-whole : goal.returns-in-Call-clause-whole
returns-in-Call-clause-whole c = on_ok_anyhow c.begin_call.result (c.begin_call.ensures.quiet.whole c.args.script.now)

pub returns-in-Call-clause-room : goal.returns-in-Call-clause-room
returns-in-Call-clause-room c =
    on_ok_then c.begin_call.result c.begin_call.ensures.slots (λ slots.
    quiet_room c.begin_call.new.self.ending c.args.self.now.pieces.items c.begin_call.new.self.pieces.items c.args.state.now c.begin_call.new.state c.requires.may.free slots c.begin_call.ensures.quiet)

-- the body that a call names is there
pub begin_call_to-requires-clause-there : goal.begin_call_to-requires-clause-there
begin_call_to-requires-clause-there c =
    (own_call_to c.args.script.now (out-Statement c.args.statement.now) c.requires.own c.in-CallTo.target c.in-CallTo.index c.in-CallTo.arguments
    (ap out-Statement c.in-CallTo.is ∙ outs-CallTo c.in-CallTo.target c.in-CallTo.index c.in-CallTo.arguments)).1

pub returns-in-CallTo-clause-kept : goal.returns-in-CallTo-clause-kept
returns-in-CallTo-clause-kept c =
    on_ok_then c.begin_call_to.result c.begin_call_to.ensures.kept (λ kept r budget f.
    let script = c.args.script.now in
    let h = c.args.state.now in
    let old = c.args.self.now.pieces.items in
    let at = context_of c.args.at in
    let layer = out-Statement c.args.statement.now in
    let is : layer ≡ Statement-F.CallTo c.in-CallTo.target c.in-CallTo.index c.in-CallTo.arguments = ap out-Statement c.in-CallTo.is ∙ outs-CallTo c.in-CallTo.target c.in-CallTo.index c.in-CallTo.arguments in
    kept r budget (ap (λ (given : List Argument). first_refusal h (of_arguments given)) c.as_slice-in-CallTo.ensures ∙ sym (ap (operands_refusal h) is) ∙ c.requires.operands)
    ∙ ap (λ (given : List Argument). rest_of_statement script budget r at (Statement-F.CallTo c.in-CallTo.target c.in-CallTo.index given) old h) c.as_slice-in-CallTo.ensures
    ∙ ap (λ (l : Layer). rest_of_statement script budget r at l old h) (sym is))

pub returns-in-CallTo-clause-sound : goal.returns-in-CallTo-clause-sound
returns-in-CallTo-clause-sound c = on_ok_then c.begin_call_to.result c.begin_call_to.ensures.sound (λ sound. sound c.requires.may.sound)

pub returns-in-CallTo-clause-whole : goal.returns-in-CallTo-clause-whole
returns-in-CallTo-clause-whole c = on_ok_anyhow c.begin_call_to.result (c.begin_call_to.ensures.quiet.whole c.args.script.now)

pub returns-in-CallTo-clause-room : goal.returns-in-CallTo-clause-room
returns-in-CallTo-clause-room c =
    on_ok_then c.begin_call_to.result c.begin_call_to.ensures.slots (λ slots.
    quiet_room c.begin_call_to.new.self.ending c.args.self.now.pieces.items c.begin_call_to.new.self.pieces.items c.args.state.now c.begin_call_to.new.state c.requires.may.free slots c.begin_call_to.ensures.quiet)
