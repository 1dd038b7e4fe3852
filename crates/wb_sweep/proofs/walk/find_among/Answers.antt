-- Proof: find_among. What is found as the lead goes on is the least, since those before are fine.
use Rattle.std.proofs.Common.{rules, ◌≡◌, ◌⊎◌, ◌+◌, ◌≤◌, ℕ, Result, Option, Err, IfErr, IfSome, inl, inr, arith, sym, ◌∙◌, ap, subst}
use Rattle.wb_heap_model.specs.declared.heap.Shape.{Shape}
use Rattle.wb_meaning.specs.declared.run.Outcome.TheVariants as outcomes
use Rattle.wb_meaning.specs.declared.run.RunResult.{RunResult}
use Rattle.wb_meaning.specs.declared.run.Why.{Why}
use Rattle.wb_tree.specs.declared.script.Script.{Script}
use Rattle.wb_meaning.specs.Run.{is_bad}
use Rattle.wb_sweep.specs.declared.fault.Unswept.{Unswept}
use Rattle.wb_sweep.specs.declared.fault.Unswept.TheVariants.{Cut, NoMemory}
use Rattle.wb_sweep.specs.declared.found.Found.{Found}
use Rattle.wb_sweep.specs.Meetings.{IsScout}
use Rattle.wb_sweep.specs.Beside.{next_failing, next_run}
use Rattle.wb_sweep.proofs.AnswerLemmas.{map_some, nothing}
use Rattle.wb_sweep.proofs.Further.{IsOfSameRun, fine-further, of-same, same-runs, to-same}
use Rattle.wb_sweep.proofs.walk.find_among.Goals as goal

pub loop-failures-preserved : goal.loop-failures-preserved
loop-failures-preserved g c =
    let before = c.loop-failures.invariant in
    let after = c.in_ok-step.ensures in
    let made = c.attempts-number.ensures.so_far in
    let same : IsOfSameRun c.args.lead.now c.loop-failures.lead = record { script = before.script; budget = before.budget; shape = before.shape } in
    let none = nothing c.in_ok-found.found (sym c.is_some.ensures ∙ c.if-is_some.false) in
    record {
      script = after.same.script ∙ before.script;
      rule = after.same.rule ∙ before.rule;
      budget = after.same.budget ∙ before.budget;
      shape = after.same.shape ∙ before.shape;
      within = omega (arith, after.turned.within, after.same.budget, before.budget);
      first = λ e. let begun = after.turned.begun in cc;
      well = after.turned.well;
      fine = fine-further c.args.failures c.args.lead.now c.loop-failures.lead c.step.new.self c.args.from same before.fine after.more after.turned.made.unasked
          (λ asked begun. c.in_ok-found.ensures.fine none asked (omega (arith, begun, made)));
      scout = of-same c.args.lead.now c.loop-failures.lead same (λ (s : Script) (b : ℕ) (h : Shape). IfSome c.try_next.new.scout (IsScout c.args.failures s b h))
          (c.in_ok-found.ensures.scout none);
    }

pub try_next-requires-clause-scout : goal.try_next-requires-clause-scout
try_next-requires-clause-scout g c =
    let before = c.loop-failures.invariant in
    let same : IsOfSameRun c.args.lead.now c.loop-failures.lead = record { script = before.script; budget = before.budget; shape = before.shape } in
    to-same c.args.lead.now c.loop-failures.lead same (λ (s : Script) (b : ℕ) (h : Shape). IfSome c.loop-failures.scout (IsScout c.args.failures s b h)) before.scout

pub returns-then-is_some-clause-found : goal.returns-then-is_some-clause-found
returns-then-is_some-clause-found g c =
    let old = c.args.lead.now in
    let lead = c.loop-failures.lead in
    let before = c.loop-failures.invariant in
    let made = c.attempts-number.ensures.so_far in
    let same : IsOfSameRun old lead = record { script = before.script; budget = before.budget; shape = before.shape } in
    let ran = same-runs c.args.failures old lead (lead.attempts + 1) same in
    map_some c.in_ok-found.found (λ bad is. (
      lead.attempts + 1,
      is.1.failing,
      record {
        begun = omega (arith, is.0, made);
        made = omega (arith, c.loop-failures-test.true, c.attempts.ensures.so_far);
        bad = ap is_bad (sym ran) ∙ is.1.bad;
        least = before.fine;
        run_is = is.1.result ∙ ran;
      },
    )) c.in_ok-found.ensures.bad

pub returns-in_err-found-clause-cut : goal.returns-in_err-found-clause-cut
returns-in_err-found-clause-cut g c at why e =
    let old = c.args.lead.now in
    let lead = c.loop-failures.lead in
    let before = c.loop-failures.invariant in
    let made = c.attempts-number.ensures.so_far in
    let same : IsOfSameRun old lead = record { script = before.script; budget = before.budget; shape = before.shape } in
    let ran = same-runs c.args.failures old lead (lead.attempts + 1) same in
    let is : c.try_next.result ≡ Err (Cut at why) = search rules in
    let told : (Cut at why ≡ NoMemory) ⊎ ((met : Why) × (c.args.from ≤ c.attempts-number.result + 1) × (Cut at why ≡ Cut (next_failing c.args.failures lead) met)
    × ((next_run c.args.failures lead).outcome ≡ outcomes.Cut met)) =
    subst (λ (r : Result (Option Found) Unswept). IfErr r (λ fault. (fault ≡ NoMemory) ⊎ ((met : Why) × (c.args.from ≤ c.attempts-number.result + 1)
    × (fault ≡ Cut (next_failing c.args.failures lead) met) × ((next_run c.args.failures lead).outcome ≡ outcomes.Cut met)))) is c.try_next.ensures.cut in
    elim told [
      | inl none ↦ cc
      | inr w ↦
          let fault = w.2 in
          let failing : at ≡ next_failing c.args.failures lead = cc in
          let same_why : w.0 ≡ why = cc in (
            lead.attempts + 1,
            failing,
            record {
              begun = omega (arith, w.1, made);
              made = omega (arith, c.loop-failures-test.true, c.attempts.ensures.so_far);
              cut = ap (λ (r : RunResult). r.outcome) (sym ran) ∙ w.3 ∙ ap outcomes.Cut same_why;
              least = before.fine;
            },
          )
    ]
