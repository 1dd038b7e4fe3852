use Rattle.std.proofs.Common.{ap, ◌∙◌}
use Rattle.wb_heap_model.specs.declared.heap.Ptr.{Ptr}
use Rattle.wb_meaning.specs.Statements.{destroyed_object}
use Rattle.wb_heap_model.specs.Pointers.{is_null}
use Rattle.wb_meaning.specs.Meaning.{meaning_of}
use Rattle.wb_machine.specs.RunState.{state_of}
use Rattle.wb_machine.specs.Flow.{context_of, rest_after}
use Rattle.wb_machine.proofs.turns.Heads.{delete_asked}
use Rattle.wb_machine.proofs.effects.Outcomes.{on_ok_then}
use Rattle.wb_machine.proofs.kept.SlotsKept.{still_room}
use Rattle.wb_machine.proofs.control.Control.begin_delete_of.Goals as goal

pub returns-clause-kept : goal.returns-clause-kept
returns-clause-kept c =
    on_ok_then c.begin_delete.result c.begin_delete.ensures.kept (λ kept r budget ok.
    let script = c.args.script.now in
    let h = c.args.state.now in
    let old = c.args.self.now.pieces.items in
    let at = context_of c.args.at in
    kept script r budget h
    ∙ ap (λ (q : Ptr). rest_after script budget r (destroyed_object (is_null q) (meaning_of script budget) at q (state_of script h)) old h) c.pointer.ensures
    ∙ delete_asked script budget r at c.args.object.now old h ok)

pub returns-clause-sound : goal.returns-clause-sound
returns-clause-sound c = on_ok_then c.begin_delete.result c.begin_delete.ensures.sound (λ sound. sound c.args.script.now)

pub returns-clause-room : goal.returns-clause-room
returns-clause-room c =
    on_ok_then c.begin_delete.result c.begin_delete.ensures.slots (λ slots free.
    still_room c.begin_delete.new.self.ending c.args.self.now.pieces.items c.begin_delete.new.self.pieces.items c.args.state.now free slots)
