use Rattle.std.proofs.Common.{◌+◌, ap, ◌∙◌, sym, subst}
use Rattle.wb_heap_model.specs.declared.heap.Rule.{Rule}
use Rattle.wb_heap_model.specs.SameRules.{SameSoFar}
use Rattle.wb_runs.specs.Sweeps.{failing_at, rule_for, rule_of}
use Rattle.wb_runs.proofs.FailureRules.{failures-fit}
use Rattle.wb_fork_tests.proofs.forks.is_fork_as_run.Goals as goal

pub result_under-requires-clause-same : goal.result_under-requires-clause-same
result_under-requires-clause-same c =
    let failures = c.args.failures in
    let attempts = c.args.lead.now.attempts in
    let e = c.rule.ensures ∙ ap rule_for (c.at.ensures ∙ ap (failing_at failures) c.requires.next) in
    subst (λ (q : Rule). SameSoFar q c.args.lead.now.rule attempts) (sym e)
    (subst (λ (q : Rule). SameSoFar (rule_of failures (attempts + 1)) q attempts) (sym c.requires.rule) (failures-fit failures attempts))
