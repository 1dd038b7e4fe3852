-- Invariants: go_to_attempt. No attempt is made; each turn that goes on counts a step.
use Rattle.std.proofs.Common.{◌≡◌, ◌≤◌, false, true, ◌+◌, ◌-◌}
use Rattle.wb_machine.specs.Turns.{IsSameRun}
use Rattle.wb_states.proofs.turns.go_to_attempt.Given as goal

abbrev pub invariant-loop-machine : goal.invariant-loop-machine
invariant-loop-machine l =
    IsSameRun l.initial.machine l.machine × (l.machine.begun ≡ true) × (l.machine.failed ≡ false) × (l.machine.steps ≤ l.machine.budget)
    × (l.machine.attempts ≡ l.initial.machine.attempts) × (l.initial.machine.steps ≤ l.machine.steps)

abbrev pub decreases-loop-machine : goal.decreases-loop-machine
decreases-loop-machine l = l.machine.budget + 1 - l.machine.steps
