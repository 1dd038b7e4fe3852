use Rattle.std.proofs.Common.{◌≡◌, filter, length}
use Rattle.wb_heap_model.specs.Row.{headers}
use Rattle.wb_heap_model.proofs.Onward.{onward}
use Rattle.wb_debug.specs.Levels.{is_counted}
use Rattle.wb_debug.proofs.checks.lowest.Given as goal

abbrev pub invariant-loop-cell : goal.invariant-loop-cell
invariant-loop-cell l = filter (is_counted l.levels) (onward l.at (headers l.heap.row)) ≡ filter (is_counted l.levels) (headers l.heap.row)

abbrev pub decreases-loop-cell : goal.decreases-loop-cell
decreases-loop-cell l = length (onward l.at (headers l.heap.row))
