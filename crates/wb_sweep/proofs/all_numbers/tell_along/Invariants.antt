use Rattle.std.proofs.Common.{◌≡◌, ◌+◌, ◌-◌, ◌≤◌, false, true, cond, IfSome}
use Rattle.wb_runs.specs.Sweeps.{rule_of, runs_of}
use Rattle.wb_sweep.specs.Meetings.{IsAhead}
use Rattle.wb_sweep.specs.AllOfAPart.{listed_numbers}
use Rattle.wb_sweep.proofs.all_numbers.tell_along.Given as goal

-- the run is the same, without failure, and what is told is of the numbers up to the attempts that were made
abbrev pub invariant-loop-made : goal.invariant-loop-made
invariant-loop-made g l =
    record {
      script : l.lead.script ≡ l.fn.lead.script;
      rule : l.lead.rule ≡ rule_of l.fn.failures 0;
      budget : l.lead.budget ≡ l.fn.lead.budget;
      shape : l.lead.shape ≡ l.fn.lead.shape;
      within : l.lead.steps ≤ l.fn.lead.budget;
      first : l.lead.begun ≡ false → l.lead.steps ≡ 0;
      well : l.lead.failed ≡ false;
      made : l.made ≡ l.lead.attempts;
      most : l.made ≤ l.fn.last;
      ended : l.lead.over ≡ true → l.fn.last ≤ l.made;
      told : l.ends ≡ listed_numbers l.fn.listing (runs_of l.fn.failures l.fn.lead.script l.fn.lead.budget l.fn.lead.shape) l.fn.from (l.made + 1 - l.fn.from);
      scout : IfSome l.scout (IsAhead l.fn.failures l.fn.lead.script l.fn.lead.budget l.fn.lead.shape);
    }

-- the steps that are left, the first turn, and the end
abbrev pub decreases-loop-made : goal.decreases-loop-made
decreases-loop-made g l = cond l.lead.over 0 1 + (cond l.lead.begun 0 1 + (l.fn.lead.budget - l.lead.steps))
