use Rattle.std.proofs.Common.{◌≡◌, true}
use Rattle.wb_heap_model.specs.Debug.{keeps_rises}
use Rattle.wb_call_tests.proofs.rises.make_calls.Given as goal

-- the rises are kept
abbrev pub invariant-loop-call : goal.invariant-loop-call
invariant-loop-call l = keeps_rises l.heap ≡ true
