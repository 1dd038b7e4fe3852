use Rattle.wb_heap_model.specs.TextCells.{max_at, text_at}
use Rattle.wb_heap_model.specs.Texts.{set_length_text}
use Rattle.wb_object_tests.proofs.OtherTexts.{text-edited}
use Rattle.wb_object_tests.proofs.texts.set_length_beside.Goals as goal

pub returns-clause-other : goal.returns-clause-other
returns-clause-other c =
    text-edited c.args.ptr c.args.other c.args.heap.now c.set_length.new.heap (set_length_text (max_at c.args.ptr c.args.heap.now) (text_at c.args.ptr c.args.heap.now) c.args.n)
    c.requires.apart c.set_length.ensures.changed c.requires.other
