use Rattle.wb_heap_model.specs.TextCells.{debug_edited, text_at}
use Rattle.wb_heap_model.specs.Texts.{delete_text}
use Rattle.wb_machine.proofs.kept.StackBeside.{becomes, edit_called, memory_edited}
use Rattle.wb_machine.proofs.kept.TextInvariant.{text_seen_at}
use Rattle.wb_machine.proofs.state.State.delete_in_cell.Goals as goal

pub delete-requires : goal.delete-requires
delete-requires c = text_seen_at c.args.ptr c.self.inside c.args.self.now c.self.view_is c.self.invariant.texts c.requires

pub invariant_of-self : goal.invariant_of-self
invariant_of-self c =
    let at = text_seen_at c.args.ptr c.self.inside c.args.self.now c.self.view_is c.self.invariant.texts c.requires in
    memory_edited c.self.inside.cleanup c.self.inside.heap c.delete.new.heap c.args.ptr _ c.self.invariant at c.delete.ensures.changed c.delete.ensures.text c.delete.ensures.sound

pub returns-clause-changed : goal.returns-clause-changed
returns-clause-changed c =
    let at = text_seen_at c.args.ptr c.self.inside c.args.self.now c.self.view_is c.self.invariant.texts c.requires in
    becomes c.self.inside c.args.self.now c.delete.new.heap (λ d. debug_edited d c.args.ptr (delete_text (text_at c.args.ptr d) c.args.position c.args.count)) c.self.view_is
    (edit_called c.self.inside.cleanup c.self.inside.heap c.delete.new.heap c.args.ptr _ c.self.invariant.stands at c.delete.ensures.changed) c.delete.ensures.changed
