-- Proof: check_report. The run without a limit is the run without failure, unless the ceiling cuts it.
use Rattle.std.proofs.Common.{◌≡◌, ◌≢◌, ◌++◌, arith, inl, refl, sym, ap, ◌∙◌, ℕ, List, length}
use Rattle.wb_runs.specs.declared.failures.Failures.{Failures}
use Rattle.wb_heap_model.specs.declared.heap.Rule.TheVariants.{Unlimited}
use Rattle.wb_heap_model.specs.declared.heap.Shape.{Shape}
use Rattle.wb_meaning.specs.declared.run.Outcome.TheVariants.{Cut}
use Rattle.wb_meaning.specs.declared.run.RunResult.{RunResult}
use Rattle.wb_meaning.specs.declared.run.Why.TheVariants.{Ceiling}
use Rattle.wb_tree.specs.declared.script.Script.{Script}
use Rattle.wb_meaning.specs.Agreement.{RefusesNoGrant}
use Rattle.wb_meaning.specs.Run.{run}
use Rattle.wb_runs.specs.Sweeps.{rule_of, runs_of}
use Rattle.wb_heap_model.specs.Reported.{end_of_attempt}
use Rattle.wb_runs.proofs.FailureRules.{failures-no_limit, zero-refuses_none}
use Rattle.wb_runs.proofs.SameRuns.{same_run}
use Rattle.wb_runs.proofs.SizeLemmas.{unlimited_least}
use Rattle.wb_meaning.proofs.TraceLemmas.{run-numbered}
use Rattle.workbench.specs.TwoNumbers.{IsSized}
use Rattle.workbench.proofs.searches.check_report.Goals as goal

same_first : (failures : Failures) (script : Script) (budget : ℕ) (shape : Shape) → (run script Unlimited budget shape).outcome ≢ Cut Ceiling →
    runs_of failures script budget shape 0 ≡ run script Unlimited budget shape
same_first failures script budget shape uncut =
    (same_run script budget shape Unlimited (rule_of failures 0) refl (unlimited_least (rule_of failures 0)) uncut no_grant).notes_too refl (failures-no_limit failures 0)
  where
    no_grant : RefusesNoGrant (rule_of failures 0) (run script Unlimited budget shape).trace
    no_grant k t there granted =
        let numbered = run-numbered script budget shape Unlimited k t there in
        zero-refuses_none failures t.number (end_of_attempt t) (omega (arith, numbered))

pub search_after_size-requires-clause-outcome : goal.search_after_size-requires-clause-outcome
search_after_size-requires-clause-outcome g c failures =
    let same = same_first failures c.args.script.now c.args.conditions.budget c.args.conditions.shape (c.in-Ok.ensures.sizing.uncut Ceiling) in
    c.in-Ok.ensures.ran.outcome ∙ ap (λ (r : RunResult). r.outcome) (sym same)

pub search_after_size-requires-clause-attempts : goal.search_after_size-requires-clause-attempts
search_after_size-requires-clause-attempts g c failures =
    let same = same_first failures c.args.script.now c.args.conditions.budget c.args.conditions.shape (c.in-Ok.ensures.sizing.uncut Ceiling) in
    c.in-Ok.ensures.ran.attempts ∙ ap (λ (r : RunResult). length r.trace) (sym same)

pub search_after_size-requires-clause-steps : goal.search_after_size-requires-clause-steps
search_after_size-requires-clause-steps g c failures =
    let same = same_first failures c.args.script.now c.args.conditions.budget c.args.conditions.shape (c.in-Ok.ensures.sizing.uncut Ceiling) in
    c.in-Ok.ensures.ran.steps ∙ ap (λ (r : RunResult). r.steps) (sym same)

pub returns : goal.returns
returns g c =
    let report = c.in_ok-report.report in
    let found = c.in_ok-found.found in
    let sizing = c.in-Ok.ensures.sizing in
    let size : IsSized c.args.script.now c.args.conditions.budget c.args.conditions.shape report.text.items report.values = record {
      required = c.in-Ok.sized.sizing.required;
      rises = c.in-Ok.sized.sizing.rises;
      uncut = sizing.uncut;
      needed = sizing.needed;
      rises_are = sizing.rises;
      text_is = c.in_ok-report.ensures.0;
      values_are = c.in_ok-report.ensures.1;
    } in
    inl (record {
      first = report.text.items;
      second = found.text.items;
      size = report.values;
      sweep = found.values;
      sized = size;
      searched = c.in_ok-found.ensures;
      text_is = c.in_ok-extend_from_slice.ensures.items ∙ ap (λ (more : List ℕ). report.text.items ++ more) c.as_slice.ensures.value;
      values_are = c.of_both.ensures;
    })
