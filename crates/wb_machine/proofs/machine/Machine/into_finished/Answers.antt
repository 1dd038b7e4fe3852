use Rattle.std.proofs.Common.{◌≡◌, ◌↔◌, ap, ◌∙◌, sym, subst, refl, Bool, true, List}
use Rattle.wb_heap_model.specs.declared.reported.Leak.{Leak}
use Rattle.wb_meaning.specs.declared.run.Outcome.TheVariants as outcomes
use Rattle.wb_meaning.specs.declared.run.RunResult.{RunResult}
use Rattle.wb_meaning.specs.declared.run.Why.TheVariants.{Budget, Ceiling}
use Rattle.wb_meaning.specs.Run.{WholeRun}
use Rattle.wb_machine.specs.declared.pieces.Ending.{Ending}
use Rattle.wb_machine.specs.declared.pieces.Ending.TheVariants.{GoesOn, Returns, Leaves, Panics, Cut, NoCleanup}
use Rattle.wb_machine.specs.Flow.{has_met_ceiling}
use Rattle.wb_machine.specs.Seen.{Seen}
use Rattle.wb_machine.specs.Results.{outcome_by, run_result_by}
use Rattle.wb_machine.proofs.whole_runs.OverRuns.{few_attempts, run_over}
use Rattle.wb_machine.proofs.machine.Machine.into_finished.Goals as goal

pub returns-clause-run_result : goal.returns-clause-run_result
returns-clause-run_result c =
    let m = c.self.inside in
    c.finish.ensures ∙ ap (λ e. run_result_by e m.leaks m.state) c.ending.ensures
    ∙ ap (λ (x : WholeRun). x.result) (run_over m c.args.self c.self.view_is c.self.invariant c.requires.over c.requires.well)

pub returns-clause-attempts : goal.returns-clause-attempts
returns-clause-attempts c =
    let s = c.args.self in
    sym (ap (λ (x : WholeRun). x.attempts) (run_over c.self.inside s c.self.view_is c.self.invariant c.requires.over c.requires.well))
    ∙ ap (λ (x : Seen). x.attempts) c.self.view_is

pub returns-clause-few : goal.returns-clause-few
returns-clause-few c = few_attempts c.self.inside c.args.self c.self.view_is c.self.invariant c.requires.well

-- how it ended is what is reported
tells_ceiling : (ending : Ending) (leaks : List Leak) → (has_met_ceiling ending ≡ true) ↔ (outcome_by ending leaks ≡ outcomes.Cut Ceiling)
tells_ceiling GoesOn leaks = (λ e. cc, λ e. cc)
tells_ceiling (Returns p) leaks = (λ e. cc, λ e. cc)
tells_ceiling (Leaves code) leaks = (λ e. cc, λ e. cc)
tells_ceiling (Panics p) leaks = (λ e. cc, λ e. cc)
tells_ceiling (Cut Budget) leaks = (λ e. cc, λ e. cc)
tells_ceiling (Cut Ceiling) leaks = (λ e. refl, λ e. refl)
tells_ceiling NoCleanup leaks = (λ e. cc, λ e. cc)

pub returns-clause-ceiling : goal.returns-clause-ceiling
returns-clause-ceiling c =
    let ending = c.self.inside.control.ending in
    let is : (has_met_ceiling ending ≡ true) ↔ (c.finish.result.result.outcome ≡ outcomes.Cut Ceiling) =
    subst (λ (x : RunResult). (has_met_ceiling ending ≡ true) ↔ (x.outcome ≡ outcomes.Cut Ceiling)) (sym (c.finish.ensures ∙ ap (λ e. run_result_by e c.self.inside.leaks c.self.inside.state) c.ending.ensures))
    (tells_ceiling ending c.self.inside.leaks) in
    subst (λ (b : Bool). (b ≡ true) ↔ (c.finish.result.result.outcome ≡ outcomes.Cut Ceiling)) (ap (λ (s : Seen). s.met_ceiling) c.self.view_is) is
