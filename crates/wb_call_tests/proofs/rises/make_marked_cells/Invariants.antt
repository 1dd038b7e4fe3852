use Rattle.std.proofs.Common.{◌≡◌, true}
use Rattle.wb_heap_model.specs.Debug.{keeps_rises}
use Rattle.wb_call_tests.proofs.rises.make_marked_cells.Given as goal

-- the rises are kept
abbrev pub invariant-loop : goal.invariant-loop
invariant-loop l = keeps_rises l.heap ≡ true
