-- Proof: finish_within_steps. The turns go on in the same run.
use Rattle.wb_machine.specs.Turns.{IsSameRun}
use Rattle.wb_lengths.proofs.heap_runs.finish_within_steps.Given as goal

abbrev pub invariant-loop-turn : goal.invariant-loop-turn
invariant-loop-turn l = IsSameRun l.fn.machine l.machine
