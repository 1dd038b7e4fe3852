use Rattle.std.proofs.Common.{◌≡◌, ◌+◌, ◌-◌, ◌≤◌, false, cond, IfSome}
use Rattle.wb_runs.specs.Sweeps.{rule_of}
use Rattle.wb_sweep.specs.Beside.{runs_beside}
use Rattle.wb_sweep.specs.Meetings.{IsScout}
use Rattle.wb_sweep.specs.Stretches.{AreFineFrom}
use Rattle.wb_sweep.proofs.walk.find_among.Given as goal

-- the run is the same, without failure, the failures up to the number of attempts made so far are fine, and the scout is of that run
abbrev pub invariant-loop-failures : goal.invariant-loop-failures
invariant-loop-failures g l =
    record {
      script : l.lead.script ≡ l.fn.lead.script;
      rule : l.lead.rule ≡ rule_of l.fn.failures 0;
      budget : l.lead.budget ≡ l.fn.lead.budget;
      shape : l.lead.shape ≡ l.fn.lead.shape;
      within : l.lead.steps ≤ l.fn.lead.budget;
      first : l.lead.begun ≡ false → l.lead.steps ≡ 0;
      well : l.lead.failed ≡ false;
      fine : AreFineFrom (runs_beside l.fn.failures l.fn.lead) l.fn.from (l.lead.attempts + 1);
      scout : IfSome l.scout (IsScout l.fn.failures l.fn.lead.script l.fn.lead.budget l.fn.lead.shape);
    }

-- the steps that are left, the first turn, and the end
abbrev pub decreases-loop-failures : goal.decreases-loop-failures
decreases-loop-failures g l = cond l.lead.over 0 1 + (cond l.lead.begun 0 1 + (l.fn.lead.budget - l.lead.steps))
