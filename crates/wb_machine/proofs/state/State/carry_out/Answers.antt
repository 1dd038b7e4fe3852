use Rattle.std.proofs.Common.{ap, ◌∙◌, subst}
use Rattle.wb_tree.specs.declared.script.Statement.TheOpen.{Statement-F}
use Rattle.wb_tree.specs.declared.script.Statement.TheViews.{out-Statement, outs-Alloc, outs-Realloc, outs-PrintNumber, outs-NoteHeap, outs-NoteAvailable, outs-NoteCompress, outs-New, outs-Push, outs-PushObject, outs-PushOperation}
use Rattle.wb_machine.specs.RunState.{RunState}
use Rattle.wb_machine.specs.CleanupEffects.{IsStackThere}
use Rattle.wb_machine.proofs.effects.Outcomes.{if_ok_then}
use Rattle.wb_machine.proofs.effects.StatementEffects.{effect_of}
use Rattle.wb_machine.proofs.effects.CleanupEffectLemmas.{push_kept, push_operation_kept}
use Rattle.wb_machine.proofs.effects.CellEffects.{alloc_kept}
use Rattle.wb_machine.proofs.effects.ObjectEffectLemmas.{class_there, new_kept, push_object_kept}
use Rattle.wb_machine.proofs.effects.ReallocationEffects.{realloc_kept}
use Rattle.wb_machine.proofs.effects.LineEffects.{number_kept, heap_kept, available_kept, compress_kept}
use Rattle.wb_machine.proofs.state.State.carry_out.Goals as goal

pub returns-in-Alloc-clause-kept : goal.returns-in-Alloc-clause-kept
returns-in-Alloc-clause-kept c =
    let script = c.args.script.now in
    if_ok_then c.alloc.result _ _ c.alloc.ensures.effect (λ ending made.
    effect_of script c.requires.operands (Statement-F.Alloc c.in-Alloc.target c.in-Alloc.bytes c.in-Alloc.refusal) (ap out-Statement c.in-Alloc.is ∙ outs-Alloc c.in-Alloc.target c.in-Alloc.bytes c.in-Alloc.refusal) made
    (alloc_kept script c.args.self.now c.in-Alloc.target c.in-Alloc.bytes c.in-Alloc.refusal))

pub returns-in-Realloc-clause-kept : goal.returns-in-Realloc-clause-kept
returns-in-Realloc-clause-kept c =
    let script = c.args.script.now in
    if_ok_then c.realloc.result _ _ c.realloc.ensures.effect (λ ending made.
    effect_of script c.requires.operands (Statement-F.Realloc c.in-Realloc.target c.in-Realloc.source c.in-Realloc.bytes c.in-Realloc.refusal) (ap out-Statement c.in-Realloc.is ∙ outs-Realloc c.in-Realloc.target c.in-Realloc.source c.in-Realloc.bytes c.in-Realloc.refusal) made
    (realloc_kept script c.args.self.now c.in-Realloc.target c.in-Realloc.source c.in-Realloc.bytes c.in-Realloc.refusal))

pub returns-in-PrintNumber-clause-kept : goal.returns-in-PrintNumber-clause-kept
returns-in-PrintNumber-clause-kept c =
    let script = c.args.script.now in
    if_ok_then c.print_number.result _ _ c.print_number.ensures.effect (λ ending made.
    effect_of script c.requires.operands (Statement-F.PrintNumber c.in-PrintNumber.value) (ap out-Statement c.in-PrintNumber.is ∙ outs-PrintNumber c.in-PrintNumber.value) made
    (number_kept script c.args.self.now c.in-PrintNumber.value))

pub returns-in-NoteHeap-clause-kept : goal.returns-in-NoteHeap-clause-kept
returns-in-NoteHeap-clause-kept c =
    let script = c.args.script.now in
    if_ok_then c.note_heap.result _ _ c.note_heap.ensures.effect (λ ending made.
    effect_of script c.requires.operands Statement-F.NoteHeap (ap out-Statement c.in-NoteHeap.is ∙ outs-NoteHeap) made
    (heap_kept script c.args.self.now))

pub returns-in-NoteAvailable-clause-kept : goal.returns-in-NoteAvailable-clause-kept
returns-in-NoteAvailable-clause-kept c =
    let script = c.args.script.now in
    if_ok_then c.note_available.result _ _ c.note_available.ensures.effect (λ ending made.
    effect_of script c.requires.operands Statement-F.NoteAvailable (ap out-Statement c.in-NoteAvailable.is ∙ outs-NoteAvailable) made
    (available_kept script c.args.self.now))

pub returns-in-NoteCompress-clause-kept : goal.returns-in-NoteCompress-clause-kept
returns-in-NoteCompress-clause-kept c =
    let script = c.args.script.now in
    if_ok_then c.note_compress.result _ _ c.note_compress.ensures.effect (λ ending made.
    effect_of script c.requires.operands Statement-F.NoteCompress (ap out-Statement c.in-NoteCompress.is ∙ outs-NoteCompress) made
    (compress_kept script c.args.self.now))

pub returns-in-Push-clause-kept : goal.returns-in-Push-clause-kept
returns-in-Push-clause-kept c =
    let script = c.args.script.now in
    let h = c.args.self.now in
    if_ok_then c.push.result _ _ c.push.ensures.effect (λ ending made.
    effect_of script c.requires.operands (Statement-F.Push c.in-Push.pointer) (ap out-Statement c.in-Push.is ∙ outs-Push c.in-Push.pointer) made
    (push_kept script h c.in-Push.pointer _ c.push.ensures.there (subst (λ (x : RunState). IsStackThere x) made.becomes c.push.ensures.stands)))

pub returns-in-PushOperation-clause-kept : goal.returns-in-PushOperation-clause-kept
returns-in-PushOperation-clause-kept c =
    let script = c.args.script.now in
    let h = c.args.self.now in
    let p = c.in-PushOperation.pointer in
    let operation = c.in-PushOperation.operation in
    if_ok_then c.push_operation.result _ _ c.push_operation.ensures.effect (λ ending made.
    effect_of script c.requires.operands (Statement-F.PushOperation p operation) (ap out-Statement c.in-PushOperation.is ∙ outs-PushOperation p operation) made
    (push_operation_kept script h p operation _ c.push_operation.ensures.there (subst (λ (x : RunState). IsStackThere x) made.becomes c.push_operation.ensures.stands)))

pub new_object-requires-clause-class : goal.new_object-requires-clause-class
new_object-requires-clause-class c =
    class_there c.requires.statement c.in-New.target c.in-New.class c.in-New.refusal (ap out-Statement c.in-New.is ∙ outs-New c.in-New.target c.in-New.class c.in-New.refusal)

pub returns-in-New-clause-kept : goal.returns-in-New-clause-kept
returns-in-New-clause-kept c =
    let script = c.args.script.now in
    if_ok_then c.new_object.result _ _ c.new_object.ensures.effect (λ ending made.
    effect_of script c.requires.operands (Statement-F.New c.in-New.target c.in-New.class c.in-New.refusal) (ap out-Statement c.in-New.is ∙ outs-New c.in-New.target c.in-New.class c.in-New.refusal) made
    (new_kept script c.args.self.now c.in-New.target c.in-New.class c.in-New.refusal))

pub returns-in-PushObject-clause-kept : goal.returns-in-PushObject-clause-kept
returns-in-PushObject-clause-kept c =
    let script = c.args.script.now in
    let h = c.args.self.now in
    let p = c.in-PushObject.pointer in
    if_ok_then c.push_object.result _ _ c.push_object.ensures.effect (λ ending made.
    effect_of script c.requires.operands (Statement-F.PushObject p) (ap out-Statement c.in-PushObject.is ∙ outs-PushObject p) made
    (push_object_kept script h p _ c.push_object.ensures.there (subst (λ (x : RunState). IsStackThere x) made.becomes c.push_object.ensures.stands)))
