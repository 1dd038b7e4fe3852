-- Proof: find_among_sets. What is found with one first number is the least set of the part, since those with a lesser one are fine.
use Rattle.std.proofs.Common.{rules, ◌≡◌, ◌+◌, ◌-◌, ◌≤◌, ℕ, List, [], Err, arith, false, length, min, sym, subst, true, ap, ◌∙◌}
use Rattle.wb_runs.specs.declared.failures.Failures.TheVariants.{Single}
use Rattle.std.proofs.Math.Nat.{min-le_right}
use Rattle.wb_heap_model.specs.declared.heap.Rule.{Rule}
use Rattle.wb_heap_model.specs.declared.heap.Shape.{Shape}
use Rattle.wb_meaning.specs.declared.run.RunResult.{RunResult}
use Rattle.wb_tree.specs.declared.script.Script.{Script}
use Rattle.wb_runs.specs.Parts.{last_attempt, IsNumberOf}
use Rattle.wb_meaning.specs.Run.{run}
use Rattle.wb_runs.specs.Sets.{set_run}
use Rattle.wb_runs.proofs.SetLemmas.{none-fails}
use Rattle.wb_sweep.specs.declared.fault.Unswept.TheVariants.{Cut}
use Rattle.wb_sweep.specs.SetSearch.{AreFewerFineWith, AreFineWith, IsCutWith, IsFoundWith}
use Rattle.wb_sweep.proofs.AnswerLemmas.{map_some, nothing}
use Rattle.wb_sweep.proofs.Further.{IsOfSameRun, of-same, to-same}
use Rattle.wb_sweep.proofs.PartFound.{within-number}
use Rattle.wb_sweep.proofs.SetPartLemmas.{fewer-of, not-over, set-cut, set-found, sets-fine}
use Rattle.wb_sweep.proofs.SetSearchLemmas.{sets-further}
use Rattle.wb_sweep.proofs.set_walk.find_among_sets.Goals as goal

pub returns-in_err-found-clause-cut : goal.returns-in_err-found-clause-cut
returns-in_err-found-clause-cut g c at why e =
    let old = c.args.lead.now in
    let lead = c.loop-lead.lead in
    let part = c.args.part in
    let before = c.loop-lead.invariant in
    let number = c.attempts-number.result + 1 in
    let made = c.attempts-number.ensures.so_far in
    let end = c.min-end.ensures ∙ ap (min part.to) c.requires.last in
    let same : IsOfSameRun old lead = record { script = before.script; budget = before.budget; shape = before.shape } in
    let is : c.find_next.result ≡ Err (Cut at why) = search rules in
    let (later, told) = c.find_next.ensures.cut at why is in
    let cut = subst (λ (xs : List ℕ). IsCutWith (set_run old.script old.budget old.shape) xs number (c.args.fewer + 1) at why) c.requires.none
    (of-same old lead same (λ (s : Script) (b : ℕ) (h : Shape). IsCutWith (set_run s b h) c.args.none.now number (c.args.fewer + 1) at why) told) in
    set-cut part old.script old.budget old.shape c.args.fewer lead.attempts number (omega (arith, made)) (omega (arith, later, c.saturating_sub-past.ensures))
    (omega (arith, end, made, c.attempts.ensures.so_far, c.loop-lead-test.true)) c.requires.uncut c.requires.fine before.fine at why cut

pub returns-then-is_some-clause-found : goal.returns-then-is_some-clause-found
returns-then-is_some-clause-found g c =
    let old = c.args.lead.now in
    let lead = c.loop-lead.lead in
    let part = c.args.part in
    let before = c.loop-lead.invariant in
    let number = c.attempts-number.result + 1 in
    let made = c.attempts-number.ensures.so_far in
    let end = c.min-end.ensures ∙ ap (min part.to) c.requires.last in
    let same : IsOfSameRun old lead = record { script = before.script; budget = before.budget; shape = before.shape } in
    map_some c.in_ok-found.found (λ bad is.
    set-found part old.script old.budget old.shape c.args.fewer lead.attempts number (omega (arith, made)) (omega (arith, is.0, c.saturating_sub-past.ensures))
    (omega (arith, end, made, c.attempts.ensures.so_far, c.loop-lead-test.true)) c.requires.uncut c.requires.fine before.fine bad
    (subst (λ (xs : List ℕ). IsFoundWith (set_run old.script old.budget old.shape) xs number (c.args.fewer + 1) bad) c.requires.none
    (of-same old lead same (λ (s : Script) (b : ℕ) (h : Shape). IsFoundWith (set_run s b h) c.args.none.now number (c.args.fewer + 1) bad) is.1)))
    c.in_ok-found.ensures.found

pub find_next-requires-clause-fewer : goal.find_next-requires-clause-fewer
find_next-requires-clause-fewer g c later =
    let old = c.args.lead.now in
    let lead = c.loop-lead.lead in
    let part = c.args.part in
    let last = last_attempt Single old.script old.budget old.shape in
    let before = c.loop-lead.invariant in
    let number = c.attempts-number.result + 1 in
    let made = c.attempts-number.ensures.so_far in
    let end = c.min-end.ensures ∙ ap (min part.to) c.requires.last in
    let same : IsOfSameRun old lead = record { script = before.script; budget = before.budget; shape = before.shape } in
    let of : IsNumberOf part last number =
    within-number part last number (omega (arith, later, c.saturating_sub-past.ensures)) (omega (arith, end, made, c.attempts.ensures.so_far, c.loop-lead-test.true)) in
    to-same old lead same (λ (s : Script) (b : ℕ) (h : Shape). AreFewerFineWith (set_run s b h) c.args.none.now number (c.args.fewer + 1))
    (subst (λ (xs : List ℕ). AreFewerFineWith (set_run old.script old.budget old.shape) xs number (c.args.fewer + 1)) (sym c.requires.none)
    (fewer-of part old.script old.budget old.shape c.args.fewer number c.requires.fine of (omega arith)))

pub loop-lead-preserved : goal.loop-lead-preserved
loop-lead-preserved g c =
    let old = c.args.lead.now in
    let lead = c.loop-lead.lead in
    let before = c.loop-lead.invariant in
    let after = c.in_ok-step.ensures in
    let number = c.attempts-number.result + 1 in
    let made = c.attempts-number.ensures.so_far in
    let same : IsOfSameRun old lead = record { script = before.script; budget = before.budget; shape = before.shape } in
    let none = nothing c.in_ok-found.found (sym c.is_some.ensures ∙ c.if-is_some.false) in
    let runs : List ℕ → RunResult = set_run old.script old.budget old.shape in
    record {
      script = after.same.script ∙ before.script;
      rule = after.same.rule ∙ before.rule;
      budget = after.same.budget ∙ before.budget;
      shape = after.same.shape ∙ before.shape;
      within = omega (arith, after.turned.within, after.same.budget, before.budget);
      first = λ e. let begun = after.turned.begun in cc;
      well = after.turned.well;
      fine = sets-further runs [] lead c.step.new.self (c.args.part.from - 1) (c.args.fewer + 1) before.fine after.more after.turned.made.unasked (λ asked begun.
          subst (λ n. AreFineWith runs [] (n + 1) (c.args.fewer + 1)) made
          (subst (λ (xs : List ℕ). AreFineWith runs xs number (c.args.fewer + 1)) c.requires.none
          (of-same old lead same (λ (s : Script) (b : ℕ) (h : Shape). AreFineWith (set_run s b h) c.args.none.now number (c.args.fewer + 1))
          (c.in_ok-found.ensures.fine none asked (omega (arith, begun, made, c.saturating_sub-past.ensures))))));
    }

pub returns-clause-none : goal.returns-clause-none
returns-clause-none g c e =
    let old = c.args.lead.now in
    let part = c.args.part in
    let end = c.min-end.ensures ∙ ap (min part.to) c.requires.last in
    sets-fine part old.script old.budget old.shape c.args.fewer c.loop-lead.lead.attempts c.requires.fine c.loop-lead.invariant.fine
    (omega (arith, end, c.loop-lead-test.false, c.attempts.ensures.so_far))

-- the run in which no attempt fails is over once it has made its attempts
pub loop-lead-smaller : goal.loop-lead-smaller
loop-lead-smaller g c =
    let old = c.args.lead.now in
    let lead = c.loop-lead.lead in
    let part = c.args.part in
    let last = last_attempt Single old.script old.budget old.shape in
    let before = c.loop-lead.invariant in
    let end = c.min-end.ensures ∙ ap (min part.to) c.requires.last in
    let ends : lead.over ≡ true → c.attempts.result ≡ last = λ over.
    c.attempts.ensures.all over before.well
    ∙ ap (λ (s : Script). length (run s lead.rule lead.budget lead.shape).trace) before.script
    ∙ ap (λ (r : Rule). length (run old.script r lead.budget lead.shape).trace) before.rule
    ∙ ap (λ (b : ℕ). length (set_run old.script b lead.shape []).trace) before.budget
    ∙ ap (λ (h : Shape). length (set_run old.script old.budget h []).trace) before.shape
    ∙ ap (λ (r : RunResult). length r.trace) (none-fails old.script old.budget old.shape) in
    let within : min part.to last ≤ last = min-le_right part.to last in
    let going : lead.over ≡ false = not-over lead.over c.attempts.result last ends (omega (arith, end, within, c.loop-lead-test.true)) in
    search rules
