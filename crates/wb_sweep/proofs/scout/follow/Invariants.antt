-- Loop of follow.
use Rattle.wb_machine.specs.Turns.{IsSameRun}
use Rattle.wb_sweep.proofs.scout.follow.Given as goal

-- the fork goes along the same run
abbrev pub invariant-loop : goal.invariant-loop
invariant-loop l = IsSameRun l.fn.fork l.fork
