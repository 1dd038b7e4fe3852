use Rattle.std.proofs.Common.{◌≡◌, ◌≤◌, ◌+◌, false}
use Rattle.wb_fork_tests.specs.declared.results.TheConstants.{MOST_TURNS}
use Rattle.wb_heap_model.specs.declared.heap.Rule.TheVariants as rules
use Rattle.wb_fork_tests.proofs.pairs.other_after.Given as goal

-- the first attempt is made, and a turn makes at most one more
abbrev pub invariant-loop : goal.invariant-loop
invariant-loop l =
    record {
      rule : l.fork.rule ≡ rules.Number l.fn.first;
      failed : l.fn.first ≤ l.fork.attempts;
      few : l.fork.attempts ≤ MOST_TURNS + 1 + l.counter;
      lines : l.fork.keeps_rises ≡ false;
    }
