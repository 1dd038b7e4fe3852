use Rattle.std.proofs.Common.{◌<◌, slice_index, arith}
use Rattle.wb_heap_model.specs.CellRow.{payload_of}
use Rattle.wb_hbuf.proofs.ReadUnits.{low-unit, high-unit}
use Rattle.wb_hbuf.proofs.reading.text_unit.Goals as goal

pub returns-then-at-eq0 : goal.returns-then-at-eq0
returns-then-at-eq0 c =
    let ws = payload_of c.args.ptr c.args.heap.now.heap.row in
    let within : c.args.at < slice_index ws 0 = omega (arith, c.payload.ensures, c.if-payload-at.false) in
    low-unit ws c.args.at c.payload-word.result within c.payload-word.ensures c.if-at-eq0.true

pub returns-else-at-eq0 : goal.returns-else-at-eq0
returns-else-at-eq0 c =
    let ws = payload_of c.args.ptr c.args.heap.now.heap.row in
    let within : c.args.at < slice_index ws 0 = omega (arith, c.payload.ensures, c.if-payload-at.false) in
    high-unit ws c.args.at c.payload-word.result within c.payload-word.ensures c.if-at-eq0.false
