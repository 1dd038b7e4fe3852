use Rattle.std.proofs.Common.{◌≡◌, ◌≤◌, false}
use Rattle.wb_runs.specs.Sweeps.{rule_of}
use Rattle.wb_fork_tests.proofs.forks.walk.Given as goal

-- the run goes on without failure, and a turn makes at most one attempt
abbrev pub invariant-loop : goal.invariant-loop
invariant-loop l =
    record {
      rule : l.lead.rule ≡ rule_of l.fn.failures 0;
      few : l.lead.attempts ≤ l.counter;
      lines : l.lead.keeps_rises ≡ false;
    }
