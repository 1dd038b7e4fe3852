use Rattle.std.proofs.Common.{◌≤◌}
use Rattle.wb_runs.specs.SetParts.{AreSetsFineIn}
use Rattle.wb_sweep.proofs.set_walk.walk_sets.Given as goal

-- the sets with so many numbers are fine
abbrev pub invariant-loop-fewer : goal.invariant-loop-fewer
invariant-loop-fewer g l =
    record {
      some : l.fn.fine ≤ l.fewer;
      most : l.fewer ≤ l.fn.most;
      fine : AreSetsFineIn l.fn.part l.fewer l.fn.script l.fn.conditions.budget l.fn.conditions.shape;
    }
