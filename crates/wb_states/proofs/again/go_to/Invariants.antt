-- It is still about to make an attempt.
use Rattle.std.proofs.Common.{◌≡◌, ◌≤◌, false, true}
use Rattle.wb_machine.specs.Turns.{IsSameRun}
use Rattle.wb_states.proofs.again.go_to.Given as goal

abbrev pub invariant-loop : goal.invariant-loop
invariant-loop l = record {
  same : IsSameRun l.initial.machine l.machine;
  begun : 1 ≤ l.machine.attempts → l.machine.begun ≡ true;
  asks : l.machine.asks ≡ true;
  going : l.machine.over ≡ false;
  well : l.machine.failed ≡ false;
  within : l.machine.steps ≤ l.machine.budget;
}
