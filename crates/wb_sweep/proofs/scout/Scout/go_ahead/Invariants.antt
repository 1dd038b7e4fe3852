-- Loop of Scout::go_ahead.
use Rattle.std.proofs.Common.{◌≡◌}
use Rattle.wb_machine.specs.Turns.{IsSameRun}
use Rattle.wb_sweep.proofs.scout.Scout.go_ahead.Given as goal

-- the machine goes along the same run
abbrev pub invariant-loop : goal.invariant-loop
invariant-loop l =
    record {
      same : IsSameRun l.fn.self.machine l.self.machine;
      steps : l.self.steps ≡ l.fn.self.steps;
      budget : l.self.budget ≡ l.fn.self.budget;
    }
