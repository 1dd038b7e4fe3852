-- Proof: judge. The run is that of its set.
use Rattle.std.proofs.Common.{rules, ◌≡◌, ℕ, arith, List, true, false, length, sym, ◌∙◌, ap}
use Rattle.wb_meaning.specs.declared.run.RunResult.{RunResult}
use Rattle.wb_states.specs.Ground.{run_of, Ground}
use Rattle.wb_states.specs.States.{ground_of}
use Rattle.wb_states.proofs.EndLemmas.{judged-by, none-goes-on, run-again, shown-grown}
use Rattle.wb_states.proofs.search.Search.judge.Goals as goal

pub returns-then-is_fine-clause-goes : goal.returns-then-is_fine-clause-goes
returns-then-is_fine-clause-goes c turns attempts made =
    let g : Ground = ground_of c.args.self.now in
    let m = c.args.fork.now in
    let ran = run-again g c.args.numbers m m.rule c.requires.run c.requires.run.rule in
    let fine : c.is_fine.result ≡ true = search rules in
    let all = c.requires.made in
    record {
      fine = judged-by c.in_ok-ended.ended.outcome (run_of g c.args.numbers) c.is_fine.result (c.in_ok-ended.ensures.outcome ∙ ap (λ (r : RunResult). r.outcome) ran) c.is_fine.ensures ∙ fine;
      steps_are = sym (c.in_ok-ended.ensures.steps ∙ ap (λ (r : RunResult). r.steps) ran);
      made = omega (arith, all, made);
    }

pub returns-then-not-tries-clause-goes : goal.returns-then-not-tries-clause-goes
returns-then-not-tries-clause-goes c turns attempts made =
    let g : Ground = ground_of c.args.self.now in
    let untried : c.tries.result ≡ false = search rules in
    let all = c.requires.made in
    let last = c.requires.sound.last_made in
    none-goes-on g c.args.numbers attempts c.requires.run.tried (c.tries.ensures.untried untried)
    (λ empty. let same = ap (λ (ns : List ℕ). length (run_of g ns).trace) empty in omega (arith, all, made, last, same))

pub show-requires-clause-tried : goal.show-requires-clause-tried
show-requires-clause-tried c =
    let tried : c.tries.result ≡ true = search rules in
    c.tries.ensures.tried tried

pub show-requires-clause-shows : goal.show-requires-clause-shows
show-requires-clause-shows c =
    let g : Ground = ground_of c.args.self.now in
    let m = c.args.fork.now in
    let ran = run-again g c.args.numbers m m.rule c.requires.run c.requires.run.rule in
    let shows : c.is_fine.result ≡ false = search rules in
    judged-by c.in_ok-ended.ended.outcome (run_of g c.args.numbers) c.is_fine.result (c.in_ok-ended.ensures.outcome ∙ ap (λ (r : RunResult). r.outcome) ran) c.is_fine.ensures ∙ shows

pub returns-clause-grown : goal.returns-clause-grown
returns-clause-grown c = shown-grown c.args.self.now c.show.new.self c.show.ensures.same
