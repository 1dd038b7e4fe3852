use Rattle.std.proofs.Common.{take, slice_index}
use Rattle.wb_heap_model.specs.CellRow.{payload_of}
use Rattle.wb_heap_model.specs.TextCells.{units_after}
use Rattle.wb_heap_model.specs.Texts.{units_of_part}
use Rattle.wb_hbuf.specs.Drafts.{IsDraft, put}
use Rattle.wb_hbuf.proofs.writing.write_literal.Given as goal

abbrev pub invariant-loop-i : goal.invariant-loop-i
invariant-loop-i l =
    let d = l.fn.heap in
    let ws = payload_of l.ptr d.heap.row in
    IsDraft l.ptr d l.heap (slice_index ws 0) (put l.at (take l.i (units_of_part l.chars l.from l.count)) (units_after ws))
