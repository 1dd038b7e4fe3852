use Rattle.wb_heap_model.specs.TextCells.{debug_edited, max_at, text_at}
use Rattle.wb_heap_model.specs.Texts.{set_length_text}
use Rattle.wb_machine.proofs.kept.StackBeside.{becomes, edit_called, memory_edited}
use Rattle.wb_machine.proofs.kept.TextInvariant.{text_seen_at}
use Rattle.wb_machine.proofs.state.State.set_cell_length.Goals as goal

pub set_length-requires : goal.set_length-requires
set_length-requires c = text_seen_at c.args.ptr c.self.inside c.args.self.now c.self.view_is c.self.invariant.texts c.requires

pub invariant_of-self : goal.invariant_of-self
invariant_of-self c =
    let at = text_seen_at c.args.ptr c.self.inside c.args.self.now c.self.view_is c.self.invariant.texts c.requires in
    memory_edited c.self.inside.cleanup c.self.inside.heap c.set_length.new.heap c.args.ptr _ c.self.invariant at c.set_length.ensures.changed c.set_length.ensures.text c.set_length.ensures.sound

pub returns-clause-changed : goal.returns-clause-changed
returns-clause-changed c =
    let at = text_seen_at c.args.ptr c.self.inside c.args.self.now c.self.view_is c.self.invariant.texts c.requires in
    becomes c.self.inside c.args.self.now c.set_length.new.heap (λ d. debug_edited d c.args.ptr (set_length_text (max_at c.args.ptr d) (text_at c.args.ptr d) c.args.length)) c.self.view_is
    (edit_called c.self.inside.cleanup c.self.inside.heap c.set_length.new.heap c.args.ptr _ c.self.invariant.stands at c.set_length.ensures.changed) c.set_length.ensures.changed
