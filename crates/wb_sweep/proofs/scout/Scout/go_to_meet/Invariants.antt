-- Loop of Scout::go_to_meet.
use Rattle.std.proofs.Common.{◌≡◌}
use Rattle.wb_machine.specs.Turns.{IsSameRun}
use Rattle.wb_sweep.proofs.scout.Scout.go_to_meet.Given as goal

-- fork and scout go along the same runs
abbrev pub invariant-loop : goal.invariant-loop
invariant-loop l =
    record {
      fork : IsSameRun l.fn.fork l.fork;
      machine : IsSameRun l.fn.self.machine l.self.machine;
      steps : l.self.steps ≡ l.fn.self.steps;
      budget : l.self.budget ≡ l.fn.self.budget;
    }
