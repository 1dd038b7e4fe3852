use Rattle.std.proofs.Common.{◌≡◌}
use Rattle.wb_fork_tests.proofs.meetings.meets_along.Given as goal

-- the other run goes along one of the same script
abbrev pub invariant-loop : goal.invariant-loop
invariant-loop l = l.ahead.script ≡ l.fn.lead.script
