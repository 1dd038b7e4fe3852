use Rattle.std.proofs.Common.{◌∙◌, ap, true, false, sym}
use Rattle.wb_heap_model.specs.Heap.{lowest}
use Rattle.wb_heap_model.specs.Row.{headers}
use Rattle.wb_heap_model.proofs.Onward.{onward_next, onward_fewer}
use Rattle.wb_debug.specs.Levels.{is_counted}
use Rattle.wb_debug.proofs.Counting.{onward-counted, onward-end, onward-one}
use Rattle.wb_debug.proofs.checks.lowest.Goals as goal

pub loop-cell-init : goal.loop-cell-init
loop-cell-init c = onward-counted (is_counted c.args.levels) c.args.from (headers c.args.heap.now.row) c.requires

pub loop-cell-smaller : goal.loop-cell-smaller
loop-cell-smaller c =
    let row = headers c.args.heap.now.row in
    let next = onward_next c.loop-cell.at 0 c.in-Some.cell row c.next_live.ensures.sound.row.spaced (sym c.in-Some.ensures.first) in
    rw c.end-at.ensures (onward_fewer row c.loop-cell.at c.in-Some.cell next)

pub loop-cell-preserved : goal.loop-cell-preserved
loop-cell-preserved c =
    let row = headers c.args.heap.now.row in
    let next = onward_next c.loop-cell.at 0 c.in-Some.cell row c.next_live.ensures.sound.row.spaced (sym c.in-Some.ensures.first) in
    rw c.end-at.ensures
    (sym (onward-one (is_counted c.args.levels) row c.loop-cell.at c.in-Some.cell false next (sym c.is_counted.ensures ∙ c.if-is_counted.false)) ∙ c.loop-cell.invariant)

pub returns-then-is_counted : goal.returns-then-is_counted
returns-then-is_counted c =
    let row = headers c.args.heap.now.row in
    let next = onward_next c.loop-cell.at 0 c.in-Some.cell row c.next_live.ensures.sound.row.spaced (sym c.in-Some.ensures.first) in
    ap lowest (sym (onward-one (is_counted c.args.levels) row c.loop-cell.at c.in-Some.cell true next (sym c.is_counted.ensures ∙ c.if-is_counted.true)) ∙ c.loop-cell.invariant)

pub returns : goal.returns
returns c =
    ap lowest (sym (onward-end (is_counted c.args.levels) (headers c.args.heap.now.row) c.loop-cell.at (sym c.next_live.ensures.first ∙ c.in_default.is)) ∙ c.loop-cell.invariant)
