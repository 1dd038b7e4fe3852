use Rattle.wb_hbuf.specs.Sources.{cell_edited}
use Rattle.wb_object_tests.proofs.OtherTexts.{text-edited}
use Rattle.wb_object_tests.proofs.texts.edit_beside.Goals as goal

pub returns-clause-other : goal.returns-clause-other
returns-clause-other c =
    text-edited c.args.ptr c.args.other c.args.heap.now c.edit.new.heap (cell_edited c.args.heap.now c.args.ptr c.args.change c.args.source)
    c.requires.apart c.edit.ensures.changed c.requires.other
