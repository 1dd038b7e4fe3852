use Rattle.std.proofs.Common.{◌≡◌, List, ℕ, Some, ap, ◌∙◌, sym}
use Rattle.wb_heap_model.specs.declared.heap.Panic.{Panic}
use Rattle.wb_heap_model.specs.declared.heap.Rule.{Rule}
use Rattle.wb_tree.specs.declared.script.Script.{Script}
use Rattle.wb_tree.specs.declared.script.Statement.TheOpen.{Statement-F}
use Rattle.wb_tree.specs.declared.script.Statement.TheViews.{out-Statement, outs-Leave, outs-LeaveIfError, outs-Return, outs-If, outs-IfElse, outs-Call, outs-CallTo, outs-Alloc, outs-Free}
use Rattle.wb_meaning.specs.Statements.{Context, Layer}
use Rattle.wb_machine.specs.declared.pieces.Ending.{Ending}
use Rattle.wb_machine.specs.declared.pieces.Ending.TheVariants.{Panics}
use Rattle.wb_machine.specs.declared.pieces.PendingPiece.{PendingPiece}
use Rattle.wb_machine.specs.Flow.{context_of, rest_from, rest_of_statement}
use Rattle.wb_machine.specs.PointerOperands.{operands_refusal}
use Rattle.wb_machine.specs.RunState.{RunState}
use Rattle.wb_machine.proofs.effects.LeaveEffects.{leave_kept, leave_if_error_kept, return_kept}
use Rattle.wb_machine.proofs.effects.Outcomes.{on_ok_anyhow}
use Rattle.wb_machine.proofs.effects.StatementEffects.{effect_of}
use Rattle.wb_machine.proofs.turns.Heads.{refused_rest}
use Rattle.wb_machine.proofs.turns.CarriedOut.{carried}
use Rattle.wb_machine.proofs.control.Control.begin_less_frequent.Goals as goal

-- what is left after a statement that was refused for an operand
refused : (h : RunState) (ending : Ending) (layer : Layer) (pieces : List PendingPiece) (script : Script) (at : Context) (old : List PendingPiece) (panic : Panic) (r : Rule) (budget : ℕ) →
    ending ≡ Panics panic → pieces ≡ old → operands_refusal h layer ≡ Some panic →
    rest_from script budget r ending pieces h ≡ rest_of_statement script budget r at layer old h
refused h ending layer pieces script at old panic r budget ends same is =
    ap (λ (e : Ending). rest_from script budget r e pieces h) ends
    ∙ ap (λ (ps : List PendingPiece). rest_from script budget r (Panics panic) ps h) same
    ∙ refused_rest script budget r at layer panic old h is

pub returns-in-Leave-clause-kept : goal.returns-in-Leave-clause-kept
returns-in-Leave-clause-kept c r budget f =
    let script = c.args.script.now in
    let h = c.args.state.now in
    let v = c.in-Leave.code in
    let is = ap out-Statement c.in-Leave.is ∙ outs-Leave v in
    carried h c.leave-self.new.self c.leave-self.result (out-Statement c.args.statement.now) script (context_of c.args.at) c.args.self.now.pieces.items r budget
    (effect_of script (ap (operands_refusal h) is) (Statement-F.Leave v) is c.leave-self.ensures (leave_kept script h v)) c.leave-self.ensures.keeps f

pub returns-in-LeaveIfError-clause-kept : goal.returns-in-LeaveIfError-clause-kept
returns-in-LeaveIfError-clause-kept c r budget f =
    let script = c.args.script.now in
    let h = c.args.state.now in
    let v = c.in-LeaveIfError.code in
    let is = ap out-Statement c.in-LeaveIfError.is ∙ outs-LeaveIfError v in
    carried h c.leave_if_error-self.new.self c.leave_if_error-self.result (out-Statement c.args.statement.now) script (context_of c.args.at) c.args.self.now.pieces.items r budget
    (effect_of script (ap (operands_refusal h) is) (Statement-F.LeaveIfError v) is c.leave_if_error-self.ensures (leave_if_error_kept script h v)) c.leave_if_error-self.ensures.keeps f

pub returns-in-Return-clause-kept : goal.returns-in-Return-clause-kept
returns-in-Return-clause-kept c r budget f =
    let script = c.args.script.now in
    let h = c.args.state.now in
    let is = ap out-Statement c.in-Return.is ∙ outs-Return in
    carried h c.end_body-self.new.self c.end_body-self.result (out-Statement c.args.statement.now) script (context_of c.args.at) c.args.self.now.pieces.items r budget
    (effect_of script (ap (operands_refusal h) is) Statement-F.Return is c.end_body-self.ensures (return_kept script h)) c.end_body-self.ensures.keeps f

pub returns-in-Some-clause-kept : goal.returns-in-Some-clause-kept
returns-in-Some-clause-kept c =
    let h = c.args.state.now in
    on_ok_anyhow c.refuse.result (λ r budget f.
    refused h c.refuse.new.self.ending (out-Statement c.args.statement.now) c.refuse.new.self.pieces.items c.args.script.now (context_of c.args.at) c.args.self.now.pieces.items c.in-Some.panic r budget
    c.refuse.ensures.ending (ap (λ v. v.items) c.refuse.ensures.pieces)
    (ap (operands_refusal h) (ap out-Statement c.in-If.is ∙ outs-If c.in-If.condition c.in-If.field-1) ∙ sym c.condition_refusal.ensures ∙ c.in-Some.is))

pub returns-in-Some-condition_refusal-clause-kept : goal.returns-in-Some-condition_refusal-clause-kept
returns-in-Some-condition_refusal-clause-kept c =
    let h = c.args.state.now in
    on_ok_anyhow c.refuse-in-Some-condition_refusal.result (λ r budget f.
    refused h c.refuse-in-Some-condition_refusal.new.self.ending (out-Statement c.args.statement.now) c.refuse-in-Some-condition_refusal.new.self.pieces.items c.args.script.now (context_of c.args.at) c.args.self.now.pieces.items c.in-Some-condition_refusal.panic r budget
    c.refuse-in-Some-condition_refusal.ensures.ending (ap (λ v. v.items) c.refuse-in-Some-condition_refusal.ensures.pieces)
    (ap (operands_refusal h) (ap out-Statement c.in-IfElse.is ∙ outs-IfElse c.in-IfElse.condition c.in-IfElse.field-1 c.in-IfElse.field-2) ∙ sym c.condition_refusal-in-IfElse.ensures ∙ c.in-Some-condition_refusal.is))

pub returns-in-Some-call_refusal-clause-kept : goal.returns-in-Some-call_refusal-clause-kept
returns-in-Some-call_refusal-clause-kept c =
    let h = c.args.state.now in
    on_ok_anyhow c.refuse-in-Some-call_refusal.result (λ r budget f.
    refused h c.refuse-in-Some-call_refusal.new.self.ending (out-Statement c.args.statement.now) c.refuse-in-Some-call_refusal.new.self.pieces.items c.args.script.now (context_of c.args.at) c.args.self.now.pieces.items c.in-Some-call_refusal.panic r budget
    c.refuse-in-Some-call_refusal.ensures.ending (ap (λ v. v.items) c.refuse-in-Some-call_refusal.ensures.pieces)
    (ap (operands_refusal h) (ap out-Statement c.in-Call.is ∙ outs-Call c.in-Call.field-0 c.in-Call.arguments) ∙ sym c.call_refusal.ensures ∙ c.in-Some-call_refusal.is))

pub returns-in-Some-call_refusal-2-clause-kept : goal.returns-in-Some-call_refusal-2-clause-kept
returns-in-Some-call_refusal-2-clause-kept c =
    let h = c.args.state.now in
    on_ok_anyhow c.refuse-in-Some-call_refusal-2.result (λ r budget f.
    refused h c.refuse-in-Some-call_refusal-2.new.self.ending (out-Statement c.args.statement.now) c.refuse-in-Some-call_refusal-2.new.self.pieces.items c.args.script.now (context_of c.args.at) c.args.self.now.pieces.items c.in-Some-call_refusal-2.panic r budget
    c.refuse-in-Some-call_refusal-2.ensures.ending (ap (λ v. v.items) c.refuse-in-Some-call_refusal-2.ensures.pieces)
    (ap (operands_refusal h) (ap out-Statement c.in-CallTo.is ∙ outs-CallTo c.in-CallTo.field-0 c.in-CallTo.field-1 c.in-CallTo.arguments) ∙ sym c.call_refusal-in-CallTo.ensures ∙ c.in-Some-call_refusal-2.is))

pub returns-in-Some-pointer_refusal-clause-kept : goal.returns-in-Some-pointer_refusal-clause-kept
returns-in-Some-pointer_refusal-clause-kept c =
    let h = c.args.state.now in
    on_ok_anyhow c.refuse-in-Some-pointer_refusal.result (λ r budget f.
    refused h c.refuse-in-Some-pointer_refusal.new.self.ending (out-Statement c.args.statement.now) c.refuse-in-Some-pointer_refusal.new.self.pieces.items c.args.script.now (context_of c.args.at) c.args.self.now.pieces.items c.in-Some-pointer_refusal.panic r budget
    c.refuse-in-Some-pointer_refusal.ensures.ending (ap (λ v. v.items) c.refuse-in-Some-pointer_refusal.ensures.pieces)
    (ap (operands_refusal h) (ap out-Statement c.in-Alloc.is ∙ outs-Alloc c.in-Alloc.target c.in-Alloc.field-1 c.in-Alloc.field-2) ∙ sym c.pointer_refusal.ensures.first ∙ c.in-Some-pointer_refusal.is))

pub returns-in-Some-pointer_refusal-2-clause-kept : goal.returns-in-Some-pointer_refusal-2-clause-kept
returns-in-Some-pointer_refusal-2-clause-kept c =
    let h = c.args.state.now in
    on_ok_anyhow c.refuse-in-Some-pointer_refusal-2.result (λ r budget f.
    refused h c.refuse-in-Some-pointer_refusal-2.new.self.ending (out-Statement c.args.statement.now) c.refuse-in-Some-pointer_refusal-2.new.self.pieces.items c.args.script.now (context_of c.args.at) c.args.self.now.pieces.items c.in-Some-pointer_refusal-2.panic r budget
    c.refuse-in-Some-pointer_refusal-2.ensures.ending (ap (λ v. v.items) c.refuse-in-Some-pointer_refusal-2.ensures.pieces)
    (ap (operands_refusal h) (ap out-Statement c.in-Free.is ∙ outs-Free c.in-Free.pointer) ∙ sym c.pointer_refusal-in-Free.ensures.first ∙ c.in-Some-pointer_refusal-2.is))
