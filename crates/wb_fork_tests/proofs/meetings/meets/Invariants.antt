use Rattle.std.proofs.Common.{◌≡◌}
use Rattle.wb_fork_tests.proofs.meetings.meets.Given as goal

-- the fork goes along a run of the same script
abbrev pub invariant-loop : goal.invariant-loop
invariant-loop l = l.fork.script ≡ l.fn.fork.script
