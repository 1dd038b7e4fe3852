use Rattle.std.proofs.Common.{rules, ◌≡◌, ◌+◌, ◌≤◌, Option, Result, Err, IfErr, inl, inr, true, length, subst, sym, ap, ◌∙◌, ℕ}
use Rattle.wb_runs.specs.declared.failures.Failures.{Failures}
use Rattle.wb_heap_model.specs.declared.heap.Rule.{Rule}
use Rattle.wb_heap_model.specs.declared.heap.Shape.{Shape}
use Rattle.wb_meaning.specs.declared.run.Outcome.TheVariants as outcomes
use Rattle.wb_meaning.specs.declared.run.RunResult.{RunResult}
use Rattle.wb_meaning.specs.declared.run.Why.{Why}
use Rattle.wb_tree.specs.declared.script.Script.{Script}
use Rattle.wb_runs.specs.Parts.{last_attempt, IsFoundIn}
use Rattle.wb_meaning.specs.Run.{run, is_bad}
use Rattle.wb_runs.specs.Sweeps.{failing_at, rule_for, rule_of, runs_of}
use Rattle.wb_meaning.proofs.TraceLemmas.{run-numbered}
use Rattle.wb_sweep.specs.declared.fault.Unswept.{Unswept}
use Rattle.wb_sweep.specs.declared.fault.Unswept.TheVariants.{Cut}
use Rattle.wb_sweep.specs.declared.found.Found.{Found}
use Rattle.wb_sweep.specs.Sweeping.{IsBadAt, IsNumbered}
use Rattle.wb_sweep.proofs.PartFound.{first-found}
use Rattle.wb_sweep.proofs.sweeping.find_least.Goals as goal

-- the first run is the one without failure
few-attempts : (failures : Failures) (script : Script) (budget : ℕ) (shape : Shape) (rule : Rule) (first : RunResult) → rule ≡ rule_of failures 0 →
    first ≡ run script rule budget shape → length first.trace ≤ budget + 1 → last_attempt failures script budget shape ≤ budget + 1
few-attempts failures script budget shape rule first same ran few =
    subst (λ (r : RunResult). length r.trace ≤ budget + 1) (ran ∙ ap (λ (r : Rule). run script r budget shape) same) few

pub attempts_in-attempts-requires : goal.attempts_in-attempts-requires
attempts_in-attempts-requires g c =
    let e = c.as_slice.ensures ∙ ap (λ r. r.trace) c.in_ok-first.ensures.ran in
    subst IsNumbered (sym e) (run-numbered c.args.script.now c.args.conditions.budget c.args.conditions.shape c.rule.result)

pub returns-in-Some-clause-swept : goal.returns-in-Some-clause-swept
returns-in-Some-clause-swept g c =
    let script = c.args.script.now in
    let failures = c.args.failures in
    let found = c.in-Some.found in
    let rule : c.rule.result ≡ rule_of failures 0 = c.rule.ensures ∙ ap rule_for c.at.ensures in
    let ran : c.in_ok-first.first ≡ runs_of failures script c.args.conditions.budget c.args.conditions.shape 0 =
    c.in_ok-first.ensures.ran ∙ ap (λ (r : Rule). run script r c.args.conditions.budget c.args.conditions.shape) rule in
    let is : (c.args.part.from ≡ 0) × IsBadAt c.at-none.result c.in_ok-first.first found = search rules in
    let bad : is_bad (runs_of failures script c.args.conditions.budget c.args.conditions.shape 0) ≡ true = ap is_bad (sym ran) ∙ is.1.bad in
    let least = first-found failures c.args.part script c.args.conditions.budget c.args.conditions.shape is.0 bad in
    record {
      attempts = c.attempts_in-attempts.ensures ∙ ap length (c.as_slice.ensures ∙ ap (λ r. r.trace) ran);
      found = subst (λ f. IsFoundIn failures c.args.part script c.args.conditions.budget c.args.conditions.shape f found.result) (sym (is.1.failing ∙ c.at-none.ensures))
          (subst (λ r. IsFoundIn failures c.args.part script c.args.conditions.budget c.args.conditions.shape (failing_at failures 0) r) (sym (is.1.result ∙ ran)) least);
      none = λ e. cc;
    }

pub returns-in-Ok-clause-swept : goal.returns-in-Ok-clause-swept
returns-in-Ok-clause-swept g c =
    let script = c.args.script.now in
    let failures = c.args.failures in
    let rule : c.rule.result ≡ rule_of failures 0 = c.rule.ensures ∙ ap rule_for c.at.ensures in
    let ran = c.in_ok-first.ensures.ran ∙ ap (λ (r : Rule). run script r c.args.conditions.budget c.args.conditions.shape) rule in
    let traced = c.as_slice.ensures ∙ ap (λ r. r.trace) ran in
    let attempts : c.attempts_in-attempts.result ≡ last_attempt failures script c.args.conditions.budget c.args.conditions.shape = c.attempts_in-attempts.ensures ∙ ap length traced in
    record { attempts = attempts; found = c.in-Ok.ensures.found; none = c.in-Ok.ensures.none }

pub returns-in-Err-clause-cut : goal.returns-in-Err-clause-cut
returns-in-Err-clause-cut g c at why e =
    let cut : c.in-Err.fault ≡ Cut at why = cc in
    inr (c.find_later.ensures.cut at why (c.in-Err.is ∙ ap Err cut))

-- what is cut is the run without failure
pub returns-in_err-found-clause-cut : goal.returns-in_err-found-clause-cut
returns-in_err-found-clause-cut g c at why e =
    let script = c.args.script.now in
    let failures = c.args.failures in
    let first = c.in_ok-first.first in
    let is : c.judge_first.result ≡ Err (Cut at why) = search rules in
    let told : (met : Why) × (Cut at why ≡ Cut c.at-none.result met) × (first.outcome ≡ outcomes.Cut met) =
    subst (λ (r : Result (Option Found) Unswept). IfErr r (λ fault. (met : Why) × (fault ≡ Cut c.at-none.result met) × (first.outcome ≡ outcomes.Cut met))) is c.judge_first.ensures.cut in
    let fault = told.1 in
    let failing : at ≡ c.at-none.result = cc in
    let same : why ≡ told.0 = cc in
    let rule : c.rule.result ≡ rule_of failures 0 = c.rule.ensures ∙ ap rule_for c.at.ensures in
    let ran : first ≡ runs_of failures script c.args.conditions.budget c.args.conditions.shape 0 =
    c.in_ok-first.ensures.ran ∙ ap (λ (r : Rule). run script r c.args.conditions.budget c.args.conditions.shape) rule in
    inl (record { failing = failing ∙ c.at-none.ensures; cut = ap (λ (r : RunResult). r.outcome) (sym ran) ∙ told.2 ∙ ap outcomes.Cut (sym same) })

pub returns-in-Some-clause-few : goal.returns-in-Some-clause-few
returns-in-Some-clause-few g c =
    let rule : c.rule.result ≡ rule_of c.args.failures 0 = c.rule.ensures ∙ ap rule_for c.at.ensures in
    few-attempts c.args.failures c.args.script.now c.args.conditions.budget c.args.conditions.shape c.rule.result c.in_ok-first.first rule c.in_ok-first.ensures.ran c.in_ok-first.ensures.few

pub returns-in-Ok-clause-few : goal.returns-in-Ok-clause-few
returns-in-Ok-clause-few g c =
    let rule : c.rule.result ≡ rule_of c.args.failures 0 = c.rule.ensures ∙ ap rule_for c.at.ensures in
    few-attempts c.args.failures c.args.script.now c.args.conditions.budget c.args.conditions.shape c.rule.result c.in_ok-first.first rule c.in_ok-first.ensures.ran c.in_ok-first.ensures.few

pub returns-in-Err-clause-few_cut : goal.returns-in-Err-clause-few_cut
returns-in-Err-clause-few_cut g c at why e =
    let rule : c.rule.result ≡ rule_of c.args.failures 0 = c.rule.ensures ∙ ap rule_for c.at.ensures in
    few-attempts c.args.failures c.args.script.now c.args.conditions.budget c.args.conditions.shape c.rule.result c.in_ok-first.first rule c.in_ok-first.ensures.ran c.in_ok-first.ensures.few

pub returns-in_err-found-clause-few_cut : goal.returns-in_err-found-clause-few_cut
returns-in_err-found-clause-few_cut g c at why e =
    let rule : c.rule.result ≡ rule_of c.args.failures 0 = c.rule.ensures ∙ ap rule_for c.at.ensures in
    few-attempts c.args.failures c.args.script.now c.args.conditions.budget c.args.conditions.shape c.rule.result c.in_ok-first.first rule c.in_ok-first.ensures.ran c.in_ok-first.ensures.few
