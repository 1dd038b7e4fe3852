-- Proof: try_numbers. The lead is the run without failure at its start.
use Rattle.std.proofs.Common.{rules, ◌≡◌, true, Err, None, Some, IfOk, IfSome, ap, ◌∙◌, sym, subst}
use Rattle.wb_heap_model.specs.Rules.{limit_of}
use Rattle.wb_machine.specs.Seen.{Seen}
use Rattle.wb_runs.specs.declared.failures.Failing.{Failing}
use Rattle.wb_meaning.specs.declared.run.Why.{Why}
use Rattle.wb_runs.specs.Parts.{last_attempt, IsFoundIn, IsLeastCutIn}
use Rattle.wb_runs.specs.Sweeps.{is_fine, rule_for, rule_of, runs_of}
use Rattle.wb_runs.proofs.FailureRules.{failures-no_limit}
use Rattle.wb_sweep.specs.declared.fault.Unswept.TheVariants.{Cut}
use Rattle.wb_sweep.specs.Meetings.{IsFineRun, IsScout}
use Rattle.wb_sweep.specs.Stretches.{AreNumbersFine}
use Rattle.wb_sweep.proofs.AnswerLemmas.{map_some}
use Rattle.wb_sweep.proofs.sweeping.try_numbers.Goals as goal

-- number 0 is no limit
pub lead_under-requires-clause-rule : goal.lead_under-requires-clause-rule
lead_under-requires-clause-rule g c = ap limit_of (c.rule.ensures ∙ ap rule_for c.at.ensures) ∙ failures-no_limit c.args.failures 0

pub try_in_order-requires-clause-scout : goal.try_in_order-requires-clause-scout
try_in_order-requires-clause-scout g c =
    let failures = c.args.failures in
    let rule : c.rule.result ≡ rule_of failures 0 = c.rule.ensures ∙ ap rule_for c.at.ensures in
    let is : IfSome c.in_ok-scout.scout (λ s. (c.args.steps ≡ Some s.steps) × (s.machine ≡ c.in_ok-lead.lead) × (s.budget ≡ c.args.conditions.budget)) = search rules in
    map_some c.in_ok-scout.scout (λ s made.
    let start = made.1 ∙ c.in_ok-lead.ensures in
    subst (λ (m : Seen). IsScout failures m.script m.budget m.shape s) (sym c.in_ok-lead.ensures)
    (record {
      rule = ap (λ (m : Seen). m.rule) start ∙ rule;
      same_script = ap (λ (m : Seen). m.script) start;
      same_budget = ap (λ (m : Seen). m.budget) start;
      same_shape = ap (λ (m : Seen). m.shape) start;
      allowed = made.2;
      run_is = subst (λ k. IfSome k (IsFineRun (runs_of failures c.args.script.now c.args.conditions.budget c.args.conditions.shape 0))) made.0 c.requires.steps;
    })) is

pub try_in_order-requires-clause-fine : goal.try_in_order-requires-clause-fine
try_in_order-requires-clause-fine g c first =
    subst (λ (s : Seen). is_fine (runs_of c.args.failures s.script s.budget s.shape 0) ≡ true) (sym c.in_ok-lead.ensures) (c.requires.fine first)

pub returns-clause-fine : goal.returns-clause-fine
returns-clause-fine g c =
    subst (λ (s : Seen). IfOk c.try_in_order.result (λ found. found ≡ None →
    AreNumbersFine (runs_of c.args.failures s.script s.budget s.shape) c.args.part (last_attempt c.args.failures s.script s.budget s.shape)))
    c.in_ok-lead.ensures c.try_in_order.ensures.fine

pub returns-clause-found : goal.returns-clause-found
returns-clause-found g c =
    subst (λ (s : Seen). IfOk c.try_in_order.result (λ found. IfSome found (λ bad.
    IsFoundIn c.args.failures c.args.part s.script s.budget s.shape bad.at bad.result)))
    c.in_ok-lead.ensures c.try_in_order.ensures.found

pub returns-clause-cut : goal.returns-clause-cut
returns-clause-cut g c =
    subst (λ (s : Seen). (at : Failing) (why : Why) → c.try_in_order.result ≡ Err (Cut at why) → IsLeastCutIn c.args.failures c.args.part s.script s.budget s.shape at why)
    c.in_ok-lead.ensures c.try_in_order.ensures.cut
