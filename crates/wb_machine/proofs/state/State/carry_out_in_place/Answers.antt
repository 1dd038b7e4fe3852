use Rattle.std.proofs.Common.{ap, ◌∙◌, subst, rules, w32, FitsSigned}
use Rattle.std.proofs.lemmas.Int.{to_z-of_z}
use Rattle.wb_tree.specs.declared.script.Statement.TheOpen.{Statement-F}
use Rattle.wb_tree.specs.declared.script.Statement.TheViews.{out-Statement, outs-Free, outs-AllocLen, outs-Store, outs-Load, outs-Set, outs-SetNumber, outs-SetNull, outs-Add, outs-Leave, outs-LeaveIfError, outs-LeaveIfNull, outs-Return, outs-ReturnPointer, outs-Mark, outs-MarkEnd, outs-Check, outs-CheckAll, outs-FailNext, outs-FailEvery, outs-FailNone, outs-Pop, outs-PopCheck}
use Rattle.wb_machine.specs.Effects.{pointer_read, number_read, store_effect}
use Rattle.wb_machine.specs.Owed.{CarriesOut}
use Rattle.wb_machine.proofs.effects.StatementEffects.{effect_of, effect_over}
use Rattle.wb_machine.proofs.effects.CleanupEffectLemmas.{pop_check_kept, pop_kept}
use Rattle.wb_machine.proofs.effects.CellEffects.{free_kept}
use Rattle.wb_machine.proofs.effects.WordEffects.{store_kept, load_kept, usable_kept}
use Rattle.wb_machine.proofs.effects.NumberEffects.{set_kept, set_number_kept, null_kept, add_kept}
use Rattle.wb_machine.proofs.effects.LeaveEffects.{leave_kept, leave_if_error_kept, leave_if_null_kept, return_kept, return_pointer_kept}
use Rattle.wb_machine.proofs.effects.MarkEffects.{mark_kept, mark_end_kept, check_kept, check_all_kept, fail_next_kept, fail_every_kept, fail_none_kept}
use Rattle.wb_machine.proofs.state.State.carry_out_in_place.Goals as goal

pub returns-in-Free-clause-kept : goal.returns-in-Free-clause-kept
returns-in-Free-clause-kept c =
    let script = c.args.script.now in
    effect_of script c.requires.operands (Statement-F.Free c.in-Free.pointer) (ap out-Statement c.in-Free.is ∙ outs-Free c.in-Free.pointer) c.free.ensures
    (free_kept script c.args.self.now c.in-Free.pointer)

pub returns-in-AllocLen-clause-kept : goal.returns-in-AllocLen-clause-kept
returns-in-AllocLen-clause-kept c =
    let script = c.args.script.now in
    effect_of script c.requires.operands (Statement-F.AllocLen c.in-AllocLen.local c.in-AllocLen.pointer) (ap out-Statement c.in-AllocLen.is ∙ outs-AllocLen c.in-AllocLen.local c.in-AllocLen.pointer) c.alloc_len.ensures
    (usable_kept script c.args.self.now c.in-AllocLen.local c.in-AllocLen.pointer)

pub returns-in-Store-clause-kept : goal.returns-in-Store-clause-kept
returns-in-Store-clause-kept c =
    let script = c.args.script.now in
    let h = c.args.self.now in
    let p = c.in-Store.pointer in
    let v = c.in-Store.index in
    let w = c.in-Store.value in
    let fits : FitsSigned w32 c.number-value.result = search rules in
    let value = to_z-of_z w32 c.number-value.result fits ∙ c.number-value.ensures in
    effect_of script c.requires.operands (Statement-F.Store p v w) (ap out-Statement c.in-Store.is ∙ outs-Store p v w)
    (subst (λ z. CarriesOut h (store_effect h (pointer_read script h p) (number_read h v) z) c.store.result c.store.new.self) value c.store.ensures)
    (store_kept script h p v w (subst (λ z. FitsSigned w32 z) c.number-value.ensures fits))

pub returns-in-Load-clause-kept : goal.returns-in-Load-clause-kept
returns-in-Load-clause-kept c =
    let script = c.args.script.now in
    effect_of script c.requires.operands (Statement-F.Load c.in-Load.local c.in-Load.pointer c.in-Load.index) (ap out-Statement c.in-Load.is ∙ outs-Load c.in-Load.local c.in-Load.pointer c.in-Load.index) c.load.ensures
    (load_kept script c.args.self.now c.in-Load.local c.in-Load.pointer c.in-Load.index)

pub returns-in-Set-clause-kept : goal.returns-in-Set-clause-kept
returns-in-Set-clause-kept c =
    let script = c.args.script.now in
    effect_of script c.requires.operands (Statement-F.Set c.in-Set.target c.in-Set.source) (ap out-Statement c.in-Set.is ∙ outs-Set c.in-Set.target c.in-Set.source) c.copy_pointer.ensures
    (set_kept script c.args.self.now c.in-Set.target c.in-Set.source)

pub returns-in-SetNumber-clause-kept : goal.returns-in-SetNumber-clause-kept
returns-in-SetNumber-clause-kept c =
    let script = c.args.script.now in
    effect_of script c.requires.operands (Statement-F.SetNumber c.in-SetNumber.local c.in-SetNumber.value) (ap out-Statement c.in-SetNumber.is ∙ outs-SetNumber c.in-SetNumber.local c.in-SetNumber.value) c.set_number.ensures
    (set_number_kept script c.args.self.now c.in-SetNumber.local c.in-SetNumber.value)

pub returns-in-SetNull-clause-kept : goal.returns-in-SetNull-clause-kept
returns-in-SetNull-clause-kept c =
    let script = c.args.script.now in
    effect_of script c.requires.operands (Statement-F.SetNull c.in-SetNull.target) (ap out-Statement c.in-SetNull.is ∙ outs-SetNull c.in-SetNull.target) c.set_null.ensures
    (null_kept script c.args.self.now c.in-SetNull.target)

pub returns-in-Add-clause-kept : goal.returns-in-Add-clause-kept
returns-in-Add-clause-kept c =
    let script = c.args.script.now in
    effect_of script c.requires.operands (Statement-F.Add c.in-Add.local c.in-Add.value) (ap out-Statement c.in-Add.is ∙ outs-Add c.in-Add.local c.in-Add.value) c.add.ensures
    (add_kept script c.args.self.now c.in-Add.local c.in-Add.value)

pub returns-in-Mark-clause-kept : goal.returns-in-Mark-clause-kept
returns-in-Mark-clause-kept c =
    let script = c.args.script.now in
    effect_of script c.requires.operands Statement-F.Mark (ap out-Statement c.in-Mark.is ∙ outs-Mark) c.mark.ensures
    (mark_kept script c.args.self.now)

pub returns-in-MarkEnd-clause-kept : goal.returns-in-MarkEnd-clause-kept
returns-in-MarkEnd-clause-kept c =
    let script = c.args.script.now in
    effect_of script c.requires.operands (Statement-F.MarkEnd c.in-MarkEnd.count) (ap out-Statement c.in-MarkEnd.is ∙ outs-MarkEnd c.in-MarkEnd.count) c.mark_end.ensures
    (mark_end_kept script c.args.self.now c.in-MarkEnd.count)

pub returns-in-Check-clause-kept : goal.returns-in-Check-clause-kept
returns-in-Check-clause-kept c =
    let script = c.args.script.now in
    effect_of script c.requires.operands (Statement-F.Check c.in-Check.count) (ap out-Statement c.in-Check.is ∙ outs-Check c.in-Check.count) c.check.ensures
    (check_kept script c.args.self.now c.in-Check.count)

pub returns-in-CheckAll-clause-kept : goal.returns-in-CheckAll-clause-kept
returns-in-CheckAll-clause-kept c =
    let script = c.args.script.now in
    effect_of script c.requires.operands (Statement-F.CheckAll c.in-CheckAll.count) (ap out-Statement c.in-CheckAll.is ∙ outs-CheckAll c.in-CheckAll.count) c.check_all.ensures
    (check_all_kept script c.args.self.now c.in-CheckAll.count)

pub returns-in-FailNext-clause-kept : goal.returns-in-FailNext-clause-kept
returns-in-FailNext-clause-kept c =
    let script = c.args.script.now in
    effect_of script c.requires.operands (Statement-F.FailNext c.in-FailNext.rate) (ap out-Statement c.in-FailNext.is ∙ outs-FailNext c.in-FailNext.rate) c.fail_next.ensures
    (fail_next_kept script c.args.self.now c.in-FailNext.rate)

pub returns-in-FailEvery-clause-kept : goal.returns-in-FailEvery-clause-kept
returns-in-FailEvery-clause-kept c =
    let script = c.args.script.now in
    effect_of script c.requires.operands (Statement-F.FailEvery c.in-FailEvery.rate) (ap out-Statement c.in-FailEvery.is ∙ outs-FailEvery c.in-FailEvery.rate) c.fail_every.ensures
    (fail_every_kept script c.args.self.now c.in-FailEvery.rate)

pub returns-in-FailNone-clause-kept : goal.returns-in-FailNone-clause-kept
returns-in-FailNone-clause-kept c =
    let script = c.args.script.now in
    effect_of script c.requires.operands Statement-F.FailNone (ap out-Statement c.in-FailNone.is ∙ outs-FailNone) c.fail_none.ensures
    (fail_none_kept script c.args.self.now)

pub returns-in-Leave-clause-kept : goal.returns-in-Leave-clause-kept
returns-in-Leave-clause-kept c =
    let script = c.args.script.now in
    effect_of script c.requires.operands (Statement-F.Leave c.in-Leave.code) (ap out-Statement c.in-Leave.is ∙ outs-Leave c.in-Leave.code) c.leave.ensures
    (leave_kept script c.args.self.now c.in-Leave.code)

pub returns-in-LeaveIfError-clause-kept : goal.returns-in-LeaveIfError-clause-kept
returns-in-LeaveIfError-clause-kept c =
    let script = c.args.script.now in
    effect_of script c.requires.operands (Statement-F.LeaveIfError c.in-LeaveIfError.code) (ap out-Statement c.in-LeaveIfError.is ∙ outs-LeaveIfError c.in-LeaveIfError.code) c.leave_if_error.ensures
    (leave_if_error_kept script c.args.self.now c.in-LeaveIfError.code)

pub returns-in-LeaveIfNull-clause-kept : goal.returns-in-LeaveIfNull-clause-kept
returns-in-LeaveIfNull-clause-kept c =
    let script = c.args.script.now in
    effect_of script c.requires.operands (Statement-F.LeaveIfNull c.in-LeaveIfNull.pointer) (ap out-Statement c.in-LeaveIfNull.is ∙ outs-LeaveIfNull c.in-LeaveIfNull.pointer) c.leave_if_null.ensures
    (leave_if_null_kept script c.args.self.now c.in-LeaveIfNull.pointer)

pub returns-in-Return-clause-kept : goal.returns-in-Return-clause-kept
returns-in-Return-clause-kept c =
    let script = c.args.script.now in
    effect_of script c.requires.operands Statement-F.Return (ap out-Statement c.in-Return.is ∙ outs-Return) c.end_body.ensures
    (return_kept script c.args.self.now)

pub returns-in-ReturnPointer-clause-kept : goal.returns-in-ReturnPointer-clause-kept
returns-in-ReturnPointer-clause-kept c =
    let script = c.args.script.now in
    effect_of script c.requires.operands (Statement-F.ReturnPointer c.in-ReturnPointer.pointer) (ap out-Statement c.in-ReturnPointer.is ∙ outs-ReturnPointer c.in-ReturnPointer.pointer) c.end_body_with.ensures
    (return_pointer_kept script c.args.self.now c.in-ReturnPointer.pointer)

pub returns-in-Pop-clause-kept : goal.returns-in-Pop-clause-kept
returns-in-Pop-clause-kept c =
    let script = c.args.script.now in
    effect_over script c.requires.operands (Statement-F.Pop c.in-Pop.count) (ap out-Statement c.in-Pop.is ∙ outs-Pop c.in-Pop.count) c.pop.ensures
    (pop_kept script c.args.self.now c.args.floor c.in-Pop.count)

pub returns-in-PopCheck-clause-kept : goal.returns-in-PopCheck-clause-kept
returns-in-PopCheck-clause-kept c =
    let script = c.args.script.now in
    effect_over script c.requires.operands (Statement-F.PopCheck c.in-PopCheck.pointer) (ap out-Statement c.in-PopCheck.is ∙ outs-PopCheck c.in-PopCheck.pointer) c.pop_check.ensures
    (pop_check_kept script c.args.self.now c.args.floor c.in-PopCheck.pointer)
