-- It is still the same run.
use Rattle.wb_machine.specs.Turns.{IsSameRun}
use Rattle.wb_watch.proofs.watch.watch.Given as goal

abbrev pub invariant-loop : goal.invariant-loop
invariant-loop l = IsSameRun l.initial.machine l.machine
