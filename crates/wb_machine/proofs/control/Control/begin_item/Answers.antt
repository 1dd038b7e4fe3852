use Rattle.std.proofs.Common.{List, IsTrue, ap, ◌∙◌, sym, subst}
use Rattle.std.specs.List.{list_all}
use Rattle.wb_tree.specs.declared.script.Local.{Local}
use Rattle.wb_machine.specs.LocalValues.{is_small}
use Rattle.wb_heap_model.specs.declared.heap.Item.{Item}
use Rattle.wb_meaning.specs.Statements.{release, destroyed_item}
use Rattle.wb_tree.specs.Bodies.{operation_at}
use Rattle.wb_meaning.specs.Meaning.{meaning_of}
use Rattle.wb_machine.specs.RunState.{state_of}
use Rattle.wb_machine.specs.Effects.{free_effect}
use Rattle.wb_machine.specs.Flow.{context_of, AreOwn, rest_after}
use Rattle.wb_machine.proofs.effects.Outcomes.{on_ok_then}
use Rattle.wb_machine.proofs.turns.Unwinding.{effect_rest}
use Rattle.wb_machine.proofs.turns.Heads.{free_destroyed, delete_destroyed, call_destroyed}
use Rattle.wb_machine.proofs.effects.CellEffects.{release_kept}
use Rattle.wb_machine.proofs.turns.Scripts.{operation_own}
use Rattle.wb_machine.proofs.kept.WholeCells.{released_quiet}
use Rattle.wb_machine.proofs.control.Control.begin_item.Goals as goal

pub returns-in-Free-clause-kept : goal.returns-in-Free-clause-kept
returns-in-Free-clause-kept c r budget =
    let script = c.args.script.now in
    let h = c.args.state.now in
    let old = c.args.self.now.pieces.items in
    let p = c.in-Free.ptr in
    effect_rest script budget r old (release p (state_of script h)) (free_effect h p) c.release-self.result h c.release-self.new.self c.release-self.ensures (release_kept r script h p)
    ∙ free_destroyed script budget r (context_of c.args.at) p old h
    ∙ sym (ap (λ (i : Item). rest_after script budget r (destroyed_item script (meaning_of script budget) (context_of c.args.at) i (state_of script h)) old h) c.in-Free.is)

pub returns-in-Delete-clause-kept : goal.returns-in-Delete-clause-kept
returns-in-Delete-clause-kept c =
    on_ok_then c.begin_delete.result c.begin_delete.ensures.kept (λ kept r budget.
    let script = c.args.script.now in
    let h = c.args.state.now in
    let old = c.args.self.now.pieces.items in
    kept script r budget h ∙ delete_destroyed script budget r (context_of c.args.at) c.in-Delete.ptr old h
    ∙ sym (ap (λ (i : Item). rest_after script budget r (destroyed_item script (meaning_of script budget) (context_of c.args.at) i (state_of script h)) old h) c.in-Delete.is))

pub returns-in-Delete-clause-sound : goal.returns-in-Delete-clause-sound
returns-in-Delete-clause-sound c = on_ok_then c.begin_delete.result c.begin_delete.ensures.sound (λ sound. sound c.args.script.now)

pub returns-in-Call-clause-kept : goal.returns-in-Call-clause-kept
returns-in-Call-clause-kept c =
    on_ok_then c.begin_body.result c.begin_body.ensures.kept (λ kept r budget.
    let script = c.args.script.now in
    let h = c.args.state.now in
    let old = c.args.self.now.pieces.items in
    kept r budget (operation_at script c.in-Call.operation) (record { locals = c.operation_at-body.ensures.locals; statements = c.operation_at-body.ensures.statements })
    ∙ call_destroyed script budget r (context_of c.args.at) c.in-Call.ptr c.in-Call.operation old h
    ∙ sym (ap (λ (i : Item). rest_after script budget r (destroyed_item script (meaning_of script budget) (context_of c.args.at) i (state_of script h)) old h) c.in-Call.is))

pub returns-in-Call-clause-sound : goal.returns-in-Call-clause-sound
returns-in-Call-clause-sound c =
    let script = c.args.script.now in
    on_ok_then c.begin_body.result c.begin_body.ensures.sound (λ sound below.
    sound script (subst (AreOwn script) (sym c.operation_at-body.ensures.statements) (operation_own script c.requires.script c.in-Call.operation).0) below)

pub begin_body-requires-clause-locals : goal.begin_body-requires-clause-locals
begin_body-requires-clause-locals c =
    subst (λ (locals : List Local). IsTrue (list_all is_small locals)) (sym c.operation_at-body.ensures.locals) (operation_own c.args.script.now c.requires.script c.in-Call.operation).1

pub returns-in-Free-clause-quiet : goal.returns-in-Free-clause-quiet
returns-in-Free-clause-quiet c = released_quiet c.args.state.now c.release-self.new.self c.in-Free.ptr c.release-self.result c.release-self.ensures
