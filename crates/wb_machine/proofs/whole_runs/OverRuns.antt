-- A run that is over has come to what the definitions say of the whole run.
use Rattle.std.proofs.Common.{◌≡◌, ◌≤◌, ◌+◌, Bool, true, false, Some, ap, ◌∙◌, sym, subst, refl, inl, arith}
use Rattle.wb_meaning.specs.declared.run.RisesResult.{RisesResult}
use Rattle.wb_meaning.specs.Run.{WholeRun, rises_result_of, run, run_with_rises, whole_run}
use Rattle.wb_heap_model.specs.Rises.{rises_above}
use Rattle.wb_meaning.proofs.AccountLemmas.{whole-with_rises}
use Rattle.wb_machine.specs.Flow.{is_over, rest_at}
use Rattle.wb_machine.specs.Seen.{Seen, whole_run_of}
use Rattle.wb_machine.specs.Results.{leaks_at_end, outcome_by, run_result_by, whole_by}
use Rattle.wb_machine.specs.Whole.{has_ended, seen, IsMachine, has_failed}
use Rattle.wb_machine.specs.declared.machine.Machine.TheInside.{Inside}
use Rattle.wb_machine.proofs.whole_runs.Ends.{run_results_alike, rest_over}
use Rattle.wb_machine.proofs.turns.Scripts.{and_left, and_right}

pub run_over : (m : Inside) (s : Seen) → seen m ≡ s → IsMachine m → s.over ≡ true → s.failed ≡ false →
    record (whole_by m.control.ending (leaks_at_end m.state) m.state) { result = run_result_by m.control.ending m.leaks m.state } ≡ whole_run s.keeps_rises s.script s.rule s.budget s.shape
run_over m s is machine over well =
    let ended : has_ended m ≡ true = ap (λ (s : Seen). s.over) is ∙ over in
    let fine : has_failed m ≡ false = ap (λ (s : Seen). s.failed) is ∙ well in
    let begun = and_left m.begun (is_over m.control.ending m.control.pieces.items) ended in
    let done = and_right m.begun (is_over m.control.ending m.control.pieces.items) ended in
    let script = m.script.now in
    ap (λ run_result. record (whole_by m.control.ending (leaks_at_end m.state) m.state) { result = run_result }) (run_results_alike m.control.ending m.leaks m.state ((machine.sound fine).leaks ended))
    ∙ rest_over script m.budget m.state.debug.rule m.control.ending m.control.pieces.items m.state done
    ∙ sym (ap (λ b. rest_at script m.budget m.state.debug.rule b m.control.ending m.control.pieces.items m.state) begun)
    ∙ machine.keeps fine m.state.debug.rule (inl refl)
    ∙ ap (λ (s : Seen). whole_run s.keeps_rises s.script s.rule s.budget s.shape) is

-- each attempt took a step, but for the first
pub few_attempts : (m : Inside) (s : Seen) → seen m ≡ s → IsMachine m → s.failed ≡ false → s.attempts ≤ s.budget + 1
few_attempts m s is machine well =
    let fine : has_failed m ≡ false = ap (λ (s : Seen). s.failed) is ∙ well in
    let between = (machine.sound fine).between in
    subst (λ (s : Seen). s.attempts ≤ s.budget + 1) is (omega (arith, between.counted, between.within))

-- what is reported of a machine that kept the rises
pub rises_over : (m : Inside) (s : Seen) → seen m ≡ s → IsMachine m → s.over ≡ true → s.failed ≡ false → s.keeps_rises ≡ true → (run_result : RisesResult) →
    run_result.outcome ≡ outcome_by m.control.ending m.leaks → Some run_result.rises ≡ m.state.debug.rises → run_result.steps ≡ m.state.steps →
    run_result ≡ rises_result_of (run s.script s.rule s.budget s.shape)
rises_over m s is machine over well measuring run_result outcome kept steps =
    let ran = run s.script s.rule s.budget s.shape in
    let whole : record (whole_by m.control.ending (leaks_at_end m.state) m.state) { result = run_result_by m.control.ending m.leaks m.state } ≡ run_with_rises ran =
    run_over m s is machine over well ∙ ap (λ b. whole_run b s.script s.rule s.budget s.shape) measuring ∙ whole-with_rises s.script s.rule s.budget s.shape in
    let some : Some run_result.rises ≡ Some (rises_above 0 ran.trace) = kept ∙ ap (λ (x : WholeRun). x.rises) whole in
    let rises : run_result.rises ≡ rises_above 0 ran.trace = cc in
    ap (λ o. record run_result { outcome = o }) (outcome ∙ ap (λ (x : WholeRun). x.result.outcome) whole)
    ∙ ap (λ rs. record { outcome = ran.outcome; rises = rs; steps = run_result.steps }) rises
    ∙ ap (λ n. record { outcome = ran.outcome; rises = rises_above 0 ran.trace; steps = n }) (steps ∙ ap (λ (x : WholeRun). x.result.steps) whole)

-- the outcome and the steps are the same, whatever a run keeps
pub outcome_of_whole : (s : Seen) → (whole_run_of s).result.outcome ≡ (run s.script s.rule s.budget s.shape).outcome
outcome_of_whole s = by s.keeps_rises
  where
    by : (keeps : Bool) → (whole_run keeps s.script s.rule s.budget s.shape).result.outcome ≡ (run s.script s.rule s.budget s.shape).outcome
    by false = refl
    by true = ap (λ (x : WholeRun). x.result.outcome) (whole-with_rises s.script s.rule s.budget s.shape)

pub steps_of_whole : (s : Seen) → (whole_run_of s).result.steps ≡ (run s.script s.rule s.budget s.shape).steps
steps_of_whole s = by s.keeps_rises
  where
    by : (keeps : Bool) → (whole_run keeps s.script s.rule s.budget s.shape).result.steps ≡ (run s.script s.rule s.budget s.shape).steps
    by false = refl
    by true = ap (λ (x : WholeRun). x.result.steps) (whole-with_rises s.script s.rule s.budget s.shape)
