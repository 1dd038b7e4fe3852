use Rattle.std.proofs.Common.{◌≡◌, ◌+◌, ◌-◌, ◌*◌, ◌≤◌, false, cond}
use Rattle.wb_heap_model.specs.declared.heap.Rule.TheVariants as rules
use Rattle.wb_runs.specs.Sets.{set_run}
use Rattle.wb_sweep.proofs.SetSearchLemmas.{AreFineUpTo}
use Rattle.wb_sweep.proofs.sets.+sets.Given as goal

-- the run is the same, in which the attempts of the set fail, and the sets whose next attempt was made so far are fine
abbrev pub invariant-find_along-loop-lead : goal.invariant-find_along-loop-lead
invariant-find_along-loop-lead g l =
    record {
      script : l.lead.script ≡ l.fn.lead.script;
      rule : l.lead.rule ≡ rules.Set l.fn.set;
      budget : l.lead.budget ≡ l.fn.lead.budget;
      shape : l.lead.shape ≡ l.fn.lead.shape;
      within : l.lead.steps ≤ l.fn.lead.budget;
      first : l.lead.begun ≡ false → l.lead.steps ≡ 0;
      well : l.lead.failed ≡ false;
      fine : AreFineUpTo (set_run l.fn.lead.script l.fn.lead.budget l.fn.lead.shape) l.fn.set l.fn.past l.lead.attempts l.fn.more;
    }

-- the steps that are left, the first turn, and the end
abbrev pub decreases-find_along-loop-lead : goal.decreases-find_along-loop-lead
decreases-find_along-loop-lead g l = cond l.lead.over 0 1 + (cond l.lead.begun 0 1 + (l.fn.lead.budget - l.lead.steps))

-- the numbers that are still to come, and where the call is among the three
abbrev pub decreases-find_along : goal.decreases-find_along
decreases-find_along g l = 3 * l.more + 2

abbrev pub decreases-find_next : goal.decreases-find_next
decreases-find_next g l = 3 * l.more + 1

abbrev pub decreases-find_with : goal.decreases-find_with
decreases-find_with g l = 3 * l.more
