-- Proof: try_last. The copy comes to the outcome of the run in which the set's attempts and this one fail, and this run is then judged.
use Rattle.std.proofs.Common.{◌≡◌, ℕ, List, [], ◌∷◌, ◌++◌, not, ◌&&◌, refl, ◌∙◌, ap, subst, sym}
use Rattle.wb_heap_model.specs.declared.heap.Rule.{Rule}
use Rattle.wb_heap_model.specs.declared.heap.Rule.TheVariants.{Set}
use Rattle.wb_heap_model.specs.declared.heap.Shape.{Shape}
use Rattle.wb_meaning.specs.declared.run.RunResult.{RunResult}
use Rattle.wb_meaning.specs.declared.run.Outcome.{Outcome}
use Rattle.wb_meaning.specs.declared.run.Outcome.TheVariants as outcomes
use Rattle.wb_tree.specs.declared.script.Script.{Script}
use Rattle.wb_meaning.specs.Run.{is_bad_outcome, run}
use Rattle.wb_runs.specs.Sets.{set_run}
use Rattle.wb_runs.specs.Sweeps.{is_cut_outcome, is_fine}
use Rattle.wb_sweep.specs.declared.fault.Unswept.TheVariants.{Cut}
use Rattle.wb_runs.specs.declared.failures.Failing.TheVariants as failings
use Rattle.wb_sweep.specs.Sweeping.{IsBadAt}
use Rattle.wb_sweep.proofs.AnswerLemmas.{map_ok, map_some}
use Rattle.wb_sweep.proofs.Errors.{of_err}
use Rattle.wb_sweep.proofs.SetSearchLemmas.{cut-alone, fine-alone, found-alone}
use Rattle.wb_sweep.proofs.sets.try_last.Goals as goal

-- a run under the rule of a set with one number more is that set's run
of-set : (script : Script) (budget : ℕ) (shape : Shape) (rule : Rule) (set numbers : List ℕ) (number : ℕ) → rule ≡ Set numbers → numbers ≡ set ++ number ∷ [] →
    run script rule budget shape ≡ set_run script budget shape (set ++ number ∷ [])
of-set script budget shape rule set numbers number e f = ap (λ (r : Rule). run script r budget shape) (e ∙ ap Set f)

pub returns-in-Cut-clause-cut : goal.returns-in-Cut-clause-cut
returns-in-Cut-clause-cut g c at why e =
    let lead = c.args.lead.now in
    let set = c.args.set.now in
    let number = c.args.number in
    let runs : List ℕ → RunResult = set_run lead.script lead.budget lead.shape in
    let ran = of-set lead.script lead.budget lead.shape c.in_ok-rule.rule set c.in_ok-numbers.numbers number c.in_ok-rule.ensures c.in_ok-numbers.ensures in
    let ended : c.in_ok-outcome.outcome ≡ (runs (set ++ number ∷ [])).outcome = c.in_ok-outcome.ensures ∙ ap (λ (r : RunResult). r.outcome) ran in
    let same : at ≡ failings.Set c.in_ok-numbers.numbers = cc in
    let whys : c.in-Cut.why ≡ why = cc in
    cut-alone runs set number (runs (set ++ number ∷ [])) at why (same ∙ ap failings.Set c.in_ok-numbers.ensures) (sym ended ∙ c.in-Cut.is ∙ ap outcomes.Cut whys) refl

pub returns-then-is_fine-clause-fine : goal.returns-then-is_fine-clause-fine
returns-then-is_fine-clause-fine g c none =
    let lead = c.args.lead.now in
    let set = c.args.set.now in
    let number = c.args.number in
    let runs : List ℕ → RunResult = set_run lead.script lead.budget lead.shape in
    let ran = of-set lead.script lead.budget lead.shape c.in_ok-rule.rule set c.in_ok-numbers.numbers number c.in_ok-rule.ensures c.in_ok-numbers.ensures in
    let ended : c.in_ok-outcome.outcome ≡ (runs (set ++ number ∷ [])).outcome = c.in_ok-outcome.ensures ∙ ap (λ (r : RunResult). r.outcome) ran in
    fine-alone runs set number
    (ap (λ (o : Outcome). not (is_bad_outcome o) && not (is_cut_outcome o)) (sym ended) ∙ sym c.is_fine.ensures ∙ c.if-is_fine.true)

pub returns-clause-fine : goal.returns-clause-fine
returns-clause-fine g c =
    let lead = c.args.lead.now in
    let set = c.args.set.now in
    let number = c.args.number in
    let runs : List ℕ → RunResult = set_run lead.script lead.budget lead.shape in
    let ran = c.in_ok-run_result.ensures
    ∙ of-set lead.script lead.budget lead.shape c.in_ok-same_rule.same_rule set c.in_ok-numbers.numbers number c.in_ok-same_rule.ensures c.in_ok-numbers.ensures in
    map_ok c.judge_run.result (λ found fine none. fine-alone runs set number (ap is_fine (sym ran) ∙ fine none)) c.judge_run.ensures.fine

pub returns-clause-found : goal.returns-clause-found
returns-clause-found g c =
    let lead = c.args.lead.now in
    let set = c.args.set.now in
    let number = c.args.number in
    let runs : List ℕ → RunResult = set_run lead.script lead.budget lead.shape in
    let told = c.in_ok-run_result.run_result in
    let ran = c.in_ok-run_result.ensures
    ∙ of-set lead.script lead.budget lead.shape c.in_ok-same_rule.same_rule set c.in_ok-numbers.numbers number c.in_ok-same_rule.ensures c.in_ok-numbers.ensures in
    map_ok c.judge_run.result (λ found. map_some found (λ bad is.
    found-alone runs set number told bad (subst (λ (xs : List ℕ). IsBadAt (failings.Set xs) told bad) c.in_ok-numbers.ensures is) ran)) c.judge_run.ensures.bad

pub returns-clause-cut : goal.returns-clause-cut
returns-clause-cut g c at why e =
    let lead = c.args.lead.now in
    let set = c.args.set.now in
    let number = c.args.number in
    let runs : List ℕ → RunResult = set_run lead.script lead.budget lead.shape in
    let told = c.in_ok-run_result.run_result in
    let ran = c.in_ok-run_result.ensures
    ∙ of-set lead.script lead.budget lead.shape c.in_ok-same_rule.same_rule set c.in_ok-numbers.numbers number c.in_ok-same_rule.ensures c.in_ok-numbers.ensures in
    let (because, named, cut) = of_err _ c.judge_run.result (Cut at why) e c.judge_run.ensures.cut in
    let same : at ≡ failings.Set c.in_ok-numbers.numbers = cc in
    let whys : because ≡ why = cc in
    cut-alone runs set number told at why (same ∙ ap failings.Set c.in_ok-numbers.ensures) (subst (λ w. told.outcome ≡ outcomes.Cut w) whys cut) ran
