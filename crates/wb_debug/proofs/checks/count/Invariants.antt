use Rattle.std.proofs.Common.{◌≡◌, ◌+◌, length}
use Rattle.wb_heap_model.specs.Row.{headers}
use Rattle.wb_heap_model.proofs.Onward.{onward}
use Rattle.wb_debug.specs.Levels.{is_counted}
use Rattle.wb_debug.specs.Tally.{number}
use Rattle.wb_debug.proofs.checks.count.Given as goal

abbrev pub invariant-loop-cell : goal.invariant-loop-cell
invariant-loop-cell l = l.found + number (is_counted l.levels) (onward l.from (headers l.heap.row)) ≡ number (is_counted l.levels) (headers l.heap.row)

abbrev pub decreases-loop-cell : goal.decreases-loop-cell
decreases-loop-cell l = length (onward l.from (headers l.heap.row))
