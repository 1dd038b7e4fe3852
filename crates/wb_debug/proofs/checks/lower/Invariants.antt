use Rattle.std.proofs.Common.{◌≡◌, length}
use Rattle.wb_heap_model.specs.LimitedHeap.{IsSoundHeap}
use Rattle.wb_heap_model.specs.Row.{headers}
use Rattle.wb_heap_model.proofs.Onward.{onward}
use Rattle.wb_debug.specs.declared.checks.Levels.TheVariants.{One}
use Rattle.wb_debug.specs.Levels.{is_counted}
use Rattle.wb_debug.specs.Tally.{number}
use Rattle.wb_debug.proofs.Lowering.{IsLowered}
use Rattle.wb_debug.proofs.checks.lower.Given as goal

abbrev pub invariant-loop-left : goal.invariant-loop-left
invariant-loop-left l = record {
  sound : IsSoundHeap l.heap;
  lowered : IsLowered l.initial.heap l.level l.at l.heap;
  counts : number (is_counted (One l.level)) (onward l.at (headers l.heap.row)) ≡ l.left;
}

abbrev pub decreases-loop-left : goal.decreases-loop-left
decreases-loop-left l = length (onward l.at (headers l.heap.row))
