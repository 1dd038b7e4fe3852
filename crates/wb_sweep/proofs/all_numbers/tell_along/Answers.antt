-- Proof: tell_along. What is told as the lead goes on is of the numbers up to the attempts that it has made.
use Rattle.std.proofs.Common.{◌≡◌, ◌+◌, ◌-◌, ◌≤◌, ◌++◌, ℕ, true, arith, length, sym, ap, ◌∙◌, IfSome}
use Rattle.wb_heap_model.specs.declared.heap.Rule.{Rule}
use Rattle.wb_heap_model.specs.declared.heap.Shape.{Shape}
use Rattle.wb_meaning.specs.declared.run.RunResult.{RunResult}
use Rattle.wb_tree.specs.declared.script.Script.{Script}
use Rattle.wb_meaning.specs.Run.{run}
use Rattle.wb_runs.specs.RunEnds.{end_of}
use Rattle.wb_runs.specs.Sweeps.{rule_of, runs_of}
use Rattle.wb_sweep.specs.AllOfAPart.{line_of, listed_numbers}
use Rattle.wb_sweep.specs.Meetings.{IsAhead}
use Rattle.wb_sweep.proofs.Further.{IsOfSameRun, of-same, same-runs, to-same}
use Rattle.wb_sweep.proofs.TellLemmas.{lines-further, made-further}
use Rattle.wb_sweep.proofs.all_numbers.tell_along.Goals as goal

pub loop-made-preserved : goal.loop-made-preserved
loop-made-preserved g c =
    let failures = c.args.failures in
    let old = c.args.lead.now in
    let lead = c.loop-made.lead in
    let new = c.step.new.self in
    let last = c.args.last in
    let made = c.loop-made.made in
    let next = c.attempts-made-in-loop-made.result in
    let before = c.loop-made.invariant in
    let after = c.in_ok-step.ensures in
    let runs = runs_of failures old.script old.budget old.shape in
    let same : IsOfSameRun old lead = record { script = before.script; budget = before.budget; shape = before.shape } in
    let script : new.script ≡ old.script = after.same.script ∙ before.script in
    let rule : new.rule ≡ rule_of failures 0 = after.same.rule ∙ before.rule in
    let budget : new.budget ≡ old.budget = after.same.budget ∙ before.budget in
    let shape : new.shape ≡ old.shape = after.same.shape ∙ before.shape in
    let so_far : next ≡ new.attempts = c.attempts-made-in-loop-made.ensures.so_far in
    let whole : run new.script new.rule new.budget new.shape ≡ runs 0 =
    ap (λ (s : Script). run s new.rule new.budget new.shape) script ∙ ap (λ (r : Rule). run old.script r new.budget new.shape) rule
    ∙ ap (λ (b : ℕ). run old.script (rule_of failures 0) b new.shape) budget ∙ ap (λ (h : Shape). run old.script (rule_of failures 0) old.budget h) shape in
    let ended = λ (e : new.over ≡ true).
    let all : next ≡ length (runs 0).trace = c.attempts-made-in-loop-made.ensures.all e after.turned.well ∙ ap (λ (r : RunResult). length r.trace) whole in
    let le : last ≤ next = omega (arith, all, c.requires.last) in le in
    let more : next ≤ made + 1 = omega (arith, so_far, after.more, before.made) in
    let here : made + 1 ≡ lead.attempts + 1 = ap (λ n. n + 1) before.made in
    let line : line_of c.args.listing (made + 1) (runs_of failures lead.script lead.budget lead.shape (made + 1)) ≡ line_of c.args.listing (made + 1) (runs (made + 1)) =
    ap (line_of c.args.listing (made + 1)) (same-runs failures old lead (made + 1) same) in
    record {
      script = script;
      rule = rule;
      budget = budget;
      shape = shape;
      within = omega (arith, after.turned.within, budget);
      first = λ e. let begun = after.turned.begun in cc;
      well = after.turned.well;
      made = so_far;
      most = omega (arith, more, c.loop-made-test.true);
      ended = ended;
      told = lines-further c.args.listing runs c.args.from made next lead.asks c.loop-made.ends c.tell_next.new.ends before.told
          (λ e. so_far ∙ after.turned.made.unasked e ∙ sym before.made)
          (λ e. made-further new.met_ceiling new.over made next last (λ met. so_far ∙ after.turned.made.asked e met ∙ sym here) after.turned.ceiling ended c.loop-made-test.true more)
          (λ e begun. c.in_ok-tell_next.ensures.told e begun ∙ ap (λ more. c.loop-made.ends ++ more) line)
          c.in_ok-tell_next.ensures.unasked c.in_ok-tell_next.ensures.before;
      scout = of-same old lead same (λ (s : Script) (b : ℕ) (h : Shape). IfSome c.tell_next.new.scout (IsAhead failures s b h)) c.in_ok-tell_next.ensures.scout;
    }

pub tell_next-requires-clause-scout : goal.tell_next-requires-clause-scout
tell_next-requires-clause-scout g c =
    let before = c.loop-made.invariant in
    let same : IsOfSameRun c.args.lead.now c.loop-made.lead = record { script = before.script; budget = before.budget; shape = before.shape } in
    to-same c.args.lead.now c.loop-made.lead same (λ (s : Script) (b : ℕ) (h : Shape). IfSome c.loop-made.scout (IsAhead c.args.failures s b h)) before.scout

pub tell_next-requires-clause-end : goal.tell_next-requires-clause-end
tell_next-requires-clause-end g c =
    let before = c.loop-made.invariant in
    let same : IsOfSameRun c.args.lead.now c.loop-made.lead = record { script = before.script; budget = before.budget; shape = before.shape } in
    to-same c.args.lead.now c.loop-made.lead same (λ (s : Script) (b : ℕ) (h : Shape). c.args.first ≡ end_of (runs_of c.args.failures s b h 0).outcome) c.requires.end

pub returns : goal.returns
returns g c =
    let old = c.args.lead.now in
    let before = c.loop-made.invariant in
    let made : c.loop-made.made ≡ c.args.last = omega (arith, before.most, c.loop-made-test.false) in
    before.told ∙ ap (λ (n : ℕ). listed_numbers c.args.listing (runs_of c.args.failures old.script old.budget old.shape) c.args.from (n + 1 - c.args.from)) made
