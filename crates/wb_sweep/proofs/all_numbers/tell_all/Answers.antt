-- Proof: tell_all. What is told is of the numbers of the part, and what is found is the least bad one.
use Rattle.std.proofs.Common.{rules, ◌≡◌, ◌≢◌, ◌++◌, false, Err, length, ap, ◌∙◌, sym, subst}
use Rattle.std.proofs.lemmas.Bool.{true≢false}
use Rattle.wb_heap_model.specs.declared.heap.Rule.{Rule}
use Rattle.wb_meaning.specs.declared.run.Outcome.TheVariants as outcomes
use Rattle.wb_meaning.specs.declared.run.RunResult.{RunResult}
use Rattle.wb_meaning.specs.declared.run.Why.TheVariants.{Ceiling}
use Rattle.wb_meaning.specs.Run.{run}
use Rattle.wb_runs.specs.RunEnds.{end_of}
use Rattle.wb_runs.specs.Sweeps.{is_cut_outcome, rule_for, rule_of, runs_of}
use Rattle.wb_runs.proofs.SameRuns.{past_the_last}
use Rattle.wb_meaning.proofs.TraceLemmas.{run-numbered}
use Rattle.wb_sweep.specs.declared.fault.Unswept.TheVariants.{Cut}
use Rattle.wb_sweep.specs.AllOfAPart.{line_of}
use Rattle.wb_sweep.specs.Sweeping.{IsNumbered}
use Rattle.wb_sweep.proofs.TellLemmas.{first-lines, found-first-bad, none-is-bad}
use Rattle.wb_sweep.proofs.all_numbers.tell_all.Goals as goal

pub attempts_in-attempts-requires : goal.attempts_in-attempts-requires
attempts_in-attempts-requires g c =
    let e = c.as_slice.ensures ∙ ap (λ r. r.trace) c.in_ok-first.ensures.ran in
    subst IsNumbered (sym e) (run-numbered c.args.script.now c.args.conditions.budget c.args.conditions.shape c.rule.result)

pub tell_later-requires-clause-last : goal.tell_later-requires-clause-last
tell_later-requires-clause-last g c =
    let rule : c.rule.result ≡ rule_of c.args.failures 0 = c.rule.ensures ∙ ap rule_for c.at.ensures in
    let ran = c.in_ok-first.ensures.ran ∙ ap (λ (r : Rule). run c.args.script.now r c.args.conditions.budget c.args.conditions.shape) rule in
    c.attempts_in-attempts.ensures ∙ ap length (c.as_slice.ensures ∙ ap (λ r. r.trace) ran)

pub tell_later-requires-clause-told : goal.tell_later-requires-clause-told
tell_later-requires-clause-told g c =
    let runs = runs_of c.args.failures c.args.script.now c.args.conditions.budget c.args.conditions.shape in
    let rule : c.rule.result ≡ rule_of c.args.failures 0 = c.rule.ensures ∙ ap rule_for c.at.ensures in
    let ran : c.in_ok-first.first ≡ runs 0 = c.in_ok-first.ensures.ran ∙ ap (λ (r : Rule). run c.args.script.now r c.args.conditions.budget c.args.conditions.shape) rule in
    let first = c.in_ok-tell_first.ensures in
    first-lines c.args.listing runs c.args.part.from c.tell_first.new.ends
    (λ start. first.told start ∙ ap (λ ends. ends ++ line_of c.args.listing 0 c.in_ok-first.first) c.new-ends.ensures ∙ ap (line_of c.args.listing 0) ran)
    (λ later. first.later later ∙ c.new-ends.ensures)

pub tell_later-requires-clause-uncut : goal.tell_later-requires-clause-uncut
tell_later-requires-clause-uncut g c =
    let rule : c.rule.result ≡ rule_of c.args.failures 0 = c.rule.ensures ∙ ap rule_for c.at.ensures in
    let ran = c.in_ok-first.ensures.ran ∙ ap (λ (r : Rule). run c.args.script.now r c.args.conditions.budget c.args.conditions.shape) rule in
    ap (λ (r : RunResult). is_cut_outcome r.outcome) (sym ran) ∙ c.in_ok-tell_first.ensures.uncut

pub tell_later-requires-clause-end : goal.tell_later-requires-clause-end
tell_later-requires-clause-end g c =
    let rule : c.rule.result ≡ rule_of c.args.failures 0 = c.rule.ensures ∙ ap rule_for c.at.ensures in
    let ran = c.in_ok-first.ensures.ran ∙ ap (λ (r : Rule). run c.args.script.now r c.args.conditions.budget c.args.conditions.shape) rule in
    c.of-end.ensures ∙ ap (λ (r : RunResult). end_of r.outcome) ran

pub tell_later-requires-clause-steps : goal.tell_later-requires-clause-steps
tell_later-requires-clause-steps g c =
    let rule : c.rule.result ≡ rule_of c.args.failures 0 = c.rule.ensures ∙ ap rule_for c.at.ensures in
    let ran = c.in_ok-first.ensures.ran ∙ ap (λ (r : Rule). run c.args.script.now r c.args.conditions.budget c.args.conditions.shape) rule in
    ap (λ (r : RunResult). r.steps) ran

uncut-of : (result : RunResult) → is_cut_outcome result.outcome ≡ false → result.outcome ≢ outcomes.Cut Ceiling
uncut-of result uncut e = true≢false (sym (ap is_cut_outcome e) ∙ uncut)

pub returns-clause-told : goal.returns-clause-told
returns-clause-told g c =
    let failures = c.args.failures in
    let part = c.args.part in
    let script = c.args.script.now in
    let budget = c.args.conditions.budget in
    let shape = c.args.conditions.shape in
    let rule : c.rule.result ≡ rule_of failures 0 = c.rule.ensures ∙ ap rule_for c.at.ensures in
    let ran : c.in_ok-first.first ≡ runs_of failures script budget shape 0 = c.in_ok-first.ensures.ran ∙ ap (λ (r : Rule). run script r budget shape) rule in
    let ends = c.tell_later.new.ends in
    let told = c.in_ok-tell_later.ensures in
    let found = c.in_ok-found.found in
    let is = c.in_ok-found.ensures in
    record {
      uncut = ap (λ (r : RunResult). is_cut_outcome r.outcome) (sym ran) ∙ c.in_ok-tell_first.ensures.uncut;
      attempts = c.attempts_in-attempts.ensures ∙ ap length (c.as_slice.ensures ∙ ap (λ r. r.trace) ran);
      ends = told;
      bad = c.bad_count.ensures;
      found = found-first-bad c.args.listing failures part script budget shape ends told found is;
      none = none-is-bad c.args.listing failures part script budget shape ends told found is;
      later = λ n later. past_the_last failures script budget shape n (uncut-of (runs_of failures script budget shape 0)
          (ap (λ (r : RunResult). is_cut_outcome r.outcome) (sym ran) ∙ c.in_ok-tell_first.ensures.uncut)) later;
    }

-- what is cut is the run without failure
pub returns-in_err-tell_first-clause-cut : goal.returns-in_err-tell_first-clause-cut
returns-in_err-tell_first-clause-cut g c at why e =
    let failures = c.args.failures in
    let script = c.args.script.now in
    let budget = c.args.conditions.budget in
    let shape = c.args.conditions.shape in
    let rule : c.rule.result ≡ rule_of failures 0 = c.rule.ensures ∙ ap rule_for c.at.ensures in
    let ran : c.in_ok-first.first ≡ runs_of failures script budget shape 0 = c.in_ok-first.ensures.ran ∙ ap (λ (r : Rule). run script r budget shape) rule in
    let is : c.tell_first.result ≡ Err (Cut at why) = search rules in
    let (failing, cut) = c.tell_first.ensures.cut at why is in
    record { failing = failing ∙ c.at-none.ensures; cut = ap (λ (r : RunResult). r.outcome) (sym ran) ∙ cut }
