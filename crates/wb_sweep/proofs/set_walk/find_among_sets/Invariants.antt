use Rattle.std.proofs.Common.{◌≡◌, ◌+◌, ◌-◌, ◌≤◌, [], false, cond}
use Rattle.wb_heap_model.specs.declared.heap.Rule.TheVariants as rules
use Rattle.wb_runs.specs.Sets.{set_run}
use Rattle.wb_sweep.proofs.SetSearchLemmas.{AreFineUpTo}
use Rattle.wb_sweep.proofs.set_walk.find_among_sets.Given as goal

-- the run is the same, without failure, and the sets of the part are fine whose first attempt was made so far
abbrev pub invariant-loop-lead : goal.invariant-loop-lead
invariant-loop-lead g l =
    record {
      script : l.lead.script ≡ l.fn.lead.script;
      rule : l.lead.rule ≡ rules.Set [];
      budget : l.lead.budget ≡ l.fn.lead.budget;
      shape : l.lead.shape ≡ l.fn.lead.shape;
      within : l.lead.steps ≤ l.fn.lead.budget;
      first : l.lead.begun ≡ false → l.lead.steps ≡ 0;
      well : l.lead.failed ≡ false;
      fine : AreFineUpTo (set_run l.fn.lead.script l.fn.lead.budget l.fn.lead.shape) [] (l.fn.part.from - 1) l.lead.attempts (l.fn.fewer + 1);
    }

-- the steps that are left, the first turn, and the end
abbrev pub decreases-loop-lead : goal.decreases-loop-lead
decreases-loop-lead g l = cond l.lead.over 0 1 + (cond l.lead.begun 0 1 + (l.fn.lead.budget - l.lead.steps))
