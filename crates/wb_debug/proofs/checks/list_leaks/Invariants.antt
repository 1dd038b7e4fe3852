use Rattle.std.proofs.Common.{◌≡◌, ◌++◌, length}
use Rattle.wb_heap_model.specs.Row.{headers}
use Rattle.wb_heap_model.proofs.Onward.{onward}
use Rattle.wb_debug.proofs.Leaks.{leaks_of}
use Rattle.wb_debug.proofs.checks.list_leaks.Given as goal

abbrev pub invariant-loop-cell : goal.invariant-loop-cell
invariant-loop-cell l = l.leaks ++ leaks_of (onward l.from (headers l.heap.row)) ≡ leaks_of (headers l.heap.row)

abbrev pub decreases-loop-cell : goal.decreases-loop-cell
decreases-loop-cell l = length (onward l.from (headers l.heap.row))
