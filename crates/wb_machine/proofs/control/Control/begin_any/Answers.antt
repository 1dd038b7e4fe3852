use Rattle.std.proofs.Common.{refl, ap, ◌∙◌}
use Rattle.wb_tree.specs.declared.script.Statement.TheOpen.{Statement-F}
use Rattle.wb_tree.specs.declared.script.Statement.TheViews.{out-Statement, outs-SetNumber, outs-Add}
use Rattle.wb_machine.specs.Flow.{context_of}
use Rattle.wb_machine.specs.PointerOperands.{operands_refusal}
use Rattle.wb_machine.proofs.effects.NumberEffects.{set_number_kept, add_kept}
use Rattle.wb_machine.proofs.effects.StatementEffects.{effect_of}
use Rattle.wb_machine.proofs.kept.SlotsKept.{effect_room}
use Rattle.wb_machine.proofs.kept.WholeCells.{effect_whole}
use Rattle.wb_machine.proofs.turns.CarriedOut.{carried}
use Rattle.wb_machine.proofs.control.Control.begin_any.Goals as goal

pub returns-in-SetNumber-clause-kept : goal.returns-in-SetNumber-clause-kept
returns-in-SetNumber-clause-kept c r budget f =
    let script = c.args.script.now in
    let h = c.args.state.now in
    let x = c.in-SetNumber.local in
    let v = c.in-SetNumber.value in
    let is = ap out-Statement c.in-SetNumber.is ∙ outs-SetNumber x v in
    carried h c.set_number-self.new.self c.set_number-self.result (out-Statement c.args.statement.now) script (context_of c.args.at) c.args.self.now.pieces.items r budget
    (effect_of script (ap (operands_refusal h) is) (Statement-F.SetNumber x v) is c.set_number-self.ensures (set_number_kept script h x v)) c.set_number-self.ensures.keeps f

pub returns-in-Add-clause-kept : goal.returns-in-Add-clause-kept
returns-in-Add-clause-kept c r budget f =
    let script = c.args.script.now in
    let h = c.args.state.now in
    let x = c.in-Add.local in
    let v = c.in-Add.value in
    let is = ap out-Statement c.in-Add.is ∙ outs-Add x v in
    carried h c.add-self.new.self c.add-self.result (out-Statement c.args.statement.now) script (context_of c.args.at) c.args.self.now.pieces.items r budget
    (effect_of script (ap (operands_refusal h) is) (Statement-F.Add x v) is c.add-self.ensures (add_kept script h x v)) c.add-self.ensures.keeps f

pub returns-in-Add-clause-whole : goal.returns-in-Add-clause-whole
returns-in-Add-clause-whole c =
    let script = c.args.script.now in
    let h = c.args.state.now in
    let x = c.in-Add.local in
    let v = c.in-Add.value in
    effect_whole script c.args.at.floor (Statement-F.Add x v) h c.add-self.new.self c.add-self.result
    (effect_of script refl (Statement-F.Add x v) refl c.add-self.ensures (add_kept script h x v))

pub returns-in-Add-clause-room : goal.returns-in-Add-clause-room
returns-in-Add-clause-room c =
    let script = c.args.script.now in
    let h = c.args.state.now in
    let x = c.in-Add.local in
    let v = c.in-Add.value in
    effect_room script c.args.at.floor (Statement-F.Add x v) c.args.self.now.pieces.items h c.add-self.new.self c.add-self.result
    (effect_of script refl (Statement-F.Add x v) refl c.add-self.ensures (add_kept script h x v)) c.requires.may.free
