use Rattle.std.proofs.Common.{◌≡◌, ◌≤◌, false}
use Rattle.wb_heap_model.specs.declared.heap.Rule.TheVariants as rules
use Rattle.wb_fork_tests.proofs.meetings.compare_meetings.Given as goal

-- the run goes on without failure, and a turn makes at most one attempt
abbrev pub invariant-loop : goal.invariant-loop
invariant-loop l =
    record {
      rule : l.lead.rule ≡ rules.Number 0;
      few : l.lead.attempts ≤ l.counter;
      lines : l.lead.keeps_rises ≡ false;
    }
