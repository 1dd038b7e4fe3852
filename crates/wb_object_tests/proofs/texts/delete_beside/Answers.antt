use Rattle.wb_heap_model.specs.TextCells.{text_at}
use Rattle.wb_heap_model.specs.Texts.{delete_text}
use Rattle.wb_object_tests.proofs.OtherTexts.{text-edited}
use Rattle.wb_object_tests.proofs.texts.delete_beside.Goals as goal

pub returns-clause-other : goal.returns-clause-other
returns-clause-other c =
    text-edited c.args.ptr c.args.other c.args.heap.now c.delete.new.heap (delete_text (text_at c.args.ptr c.args.heap.now) c.args.position c.args.count)
    c.requires.apart c.delete.ensures.changed c.requires.other
