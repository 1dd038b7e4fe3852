use Rattle.std.proofs.Common.{length}
use Rattle.wb_heap_model.specs.Row.{headers}
use Rattle.wb_heap_model.proofs.Onward.{onward}
use Rattle.wb_debug.proofs.Counting.{IsCounted}
use Rattle.wb_debug.proofs.checks.tally_of.Given as goal

abbrev pub invariant-loop-cell : goal.invariant-loop-cell
invariant-loop-cell l = IsCounted l.tally l.from (headers l.heap.row)

abbrev pub decreases-loop-cell : goal.decreases-loop-cell
decreases-loop-cell l = length (onward l.from (headers l.heap.row))
