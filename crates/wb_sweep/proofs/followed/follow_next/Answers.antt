-- Proof: follow_next. The fork's rule refuses of the attempts made so far what the lead's does.
use Rattle.std.proofs.Common.{◌+◌, ap, ◌∙◌, sym, subst}
use Rattle.wb_heap_model.specs.declared.heap.Rule.{Rule}
use Rattle.wb_heap_model.specs.SameRules.{SameSoFar}
use Rattle.wb_runs.specs.Sweeps.{failing_at, rule_for, rule_of}
use Rattle.wb_runs.proofs.FailureRules.{failures-fit}
use Rattle.wb_sweep.proofs.followed.follow_next.Goals as goal

pub fork_under-requires-clause-same : goal.fork_under-requires-clause-same
fork_under-requires-clause-same c =
    let failures = c.args.failures in
    let lead = c.args.lead.now in
    let e = c.rule.ensures ∙ ap rule_for (c.at.ensures ∙ ap (failing_at failures) c.requires.number) in
    subst (λ (q : Rule). SameSoFar q lead.rule lead.attempts) (sym e)
    (subst (λ (q : Rule). SameSoFar (rule_of failures (lead.attempts + 1)) q lead.attempts) (sym c.requires.rule) (failures-fit failures lead.attempts))
