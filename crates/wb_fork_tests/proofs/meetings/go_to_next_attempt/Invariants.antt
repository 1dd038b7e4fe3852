use Rattle.wb_machine.specs.Turns.{IsSameRun}
use Rattle.wb_fork_tests.proofs.meetings.go_to_next_attempt.Given as goal

-- the machine goes along the same run
abbrev pub invariant-loop : goal.invariant-loop
invariant-loop l = IsSameRun l.fn.ahead l.ahead
