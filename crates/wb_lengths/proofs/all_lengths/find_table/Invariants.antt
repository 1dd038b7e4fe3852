-- Proof: find_table. The table is right from a length on, and the lengths below are to come.
use Rattle.std.proofs.Common.{◌≡◌, ◌+◌, ◌≤◌, None}
use Rattle.wb_basics.specs.declared.limits.TheConstants.{CEILING}
use Rattle.wb_lengths.specs.Forks.{AreOf}
use Rattle.wb_lengths.specs.Walk.{IsRightFrom}
use Rattle.wb_lengths.proofs.all_lengths.find_table.Given as goal

abbrev pub invariant-loop-next : goal.invariant-loop-next
invariant-loop-next g l = record {
  within : l.next ≤ CEILING + 1;
  right : IsRightFrom l.script l.conditions.budget l.conditions.shape l.next l.table;
  forks : AreOf l.script l.conditions.budget l.conditions.shape l.runs.forks;
  unbounded : l.fn.runs.steps_left ≡ None → l.runs.steps_left ≡ None;
}

abbrev pub decreases-loop-next : goal.decreases-loop-next
decreases-loop-next g l = l.next
