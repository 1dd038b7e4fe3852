use Rattle.wb_heap_model.specs.TextCells.{debug_edited}
use Rattle.wb_hbuf.specs.Sources.{cell_edited}
use Rattle.wb_machine.proofs.kept.StackBeside.{becomes, edit_called, memory_edited}
use Rattle.wb_machine.proofs.kept.TextInvariant.{text_seen_at}
use Rattle.wb_machine.proofs.state.State.edit_cell.Goals as goal

pub edit-requires-clause-text : goal.edit-requires-clause-text
edit-requires-clause-text c = text_seen_at c.args.ptr c.self.inside c.args.self.now c.self.view_is c.self.invariant.texts c.requires.text

pub invariant_of-self : goal.invariant_of-self
invariant_of-self c =
    let at = text_seen_at c.args.ptr c.self.inside c.args.self.now c.self.view_is c.self.invariant.texts c.requires.text in
    memory_edited c.self.inside.cleanup c.self.inside.heap c.edit.new.heap c.args.ptr _ c.self.invariant at c.edit.ensures.changed c.edit.ensures.text c.edit.ensures.sound

pub returns-clause-changed : goal.returns-clause-changed
returns-clause-changed c =
    let at = text_seen_at c.args.ptr c.self.inside c.args.self.now c.self.view_is c.self.invariant.texts c.requires.text in
    becomes c.self.inside c.args.self.now c.edit.new.heap (λ d. debug_edited d c.args.ptr (cell_edited d c.args.ptr c.args.change c.args.source)) c.self.view_is
    (edit_called c.self.inside.cleanup c.self.inside.heap c.edit.new.heap c.args.ptr _ c.self.invariant.stands at c.edit.ensures.changed) c.edit.ensures.changed
