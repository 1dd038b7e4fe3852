-- What follows for a fork that goes on like the scout.
use Rattle.std.proofs.Common.{◌≡◌, ◌≢◌, ℕ, ◌+◌, ◌<◌, ◌≤◌, Bool, not, ◌&&◌, false, Some, refl, sym, ap, ◌∙◌, arith, inl}
use Rattle.std.proofs.lemmas.Bool.{true≢false}
use Rattle.wb_machine.specs.Alike.{reached_by, whole_run_under}
use Rattle.wb_machine.specs.Seen.{Seen}
use Rattle.wb_runs.specs.declared.failures.Failures.{Failures}
use Rattle.wb_runs.specs.declared.failures.Failures.TheVariants.{Single, Every, Pairs, Persistent}
use Rattle.wb_heap_model.specs.declared.heap.Rule.{Rule}
use Rattle.wb_heap_model.specs.declared.heap.Shape.{Shape}
use Rattle.wb_meaning.specs.declared.run.Outcome.{Outcome}
use Rattle.wb_meaning.specs.declared.run.Outcome.TheVariants.{Cut}
use Rattle.wb_meaning.specs.declared.run.RunResult.{RunResult}
use Rattle.wb_meaning.specs.declared.run.Why.TheVariants.{Budget}
use Rattle.wb_tree.specs.declared.script.Script.{Script}
use Rattle.wb_renaming.specs.Follows.{ComesToTheSame, Reached, RefusesAlike, RestsAgree}
use Rattle.wb_meaning.specs.Run.{is_bad_outcome, run, WholeRun}
use Rattle.wb_runs.specs.RunEnds.{end_of}
use Rattle.wb_runs.specs.Sweeps.{is_cut_outcome, rule_of}
use Rattle.wb_renaming.proofs.FollowEither.{numbers-alike}
use Rattle.wb_machine.proofs.whole_runs.OverRuns.{outcome_of_whole, steps_of_whole}
use Rattle.wb_runs.proofs.SameJudged.{end-same, judged-same}
use Rattle.wb_sweep.specs.declared.scout.Scout.{Scout}
use Rattle.wb_sweep.specs.Beside.{runs_beside}
use Rattle.wb_sweep.specs.Meetings.{EndsAlike, HasMet, IsAhead, last_failing}

-- the numbers that fail under two failures are behind both runs, so their rules say the same of later attempts
pub lies-behind : (failures : Failures) (n first last : ℕ) (here there : Reached) → last_failing failures 0 ≡ Some first → last_failing failures n ≡ Some last →
    first ≤ here.attempts → last ≤ there.attempts → RefusesAlike (rule_of failures 0) (rule_of failures n) here there
lies-behind Single n first last here there e f le more =
    let same : n ≡ last = cc in numbers-alike here there 0 n (omega arith) (omega (arith, same, more))
lies-behind Pairs n first last here there e f le more =
    let same : n ≡ last = cc in numbers-alike here there 0 n (omega arith) (omega (arith, same, more))
lies-behind Every n first last here there e f le more = cc
lies-behind Persistent n first last here there e f le more = cc

run-of : (m : Seen) (rule : Rule) (script : Script) (budget : ℕ) (shape : Shape) → m.script ≡ script → m.budget ≡ budget → m.shape ≡ shape →
    run m.script rule m.budget m.shape ≡ run script rule budget shape
run-of m rule script budget shape f g h =
    ap (λ (s : Script). run s rule m.budget m.shape) f
    ∙ ap (λ (b : ℕ). run script rule b m.shape) g
    ∙ ap (λ (s : Shape). run script rule budget s) h

-- a machine's run under a rule ends as the run of its script, that rule, its budget and its shape does, whatever the machine keeps
pub outcome-under : (m : Seen) (rule : Rule) (script : Script) (budget : ℕ) (shape : Shape) → m.script ≡ script → m.budget ≡ budget → m.shape ≡ shape →
    (whole_run_under rule m).result.outcome ≡ (run script rule budget shape).outcome
outcome-under m rule script budget shape f g h =
    outcome_of_whole (record m { rule = rule }) ∙ ap (λ (r : RunResult). r.outcome) (run-of m rule script budget shape f g h)

-- and takes as many steps
pub steps-under : (m : Seen) (rule : Rule) (script : Script) (budget : ℕ) (shape : Shape) → m.script ≡ script → m.budget ≡ budget → m.shape ≡ shape →
    (whole_run_under rule m).result.steps ≡ (run script rule budget shape).steps
steps-under m rule script budget shape f g h =
    steps_of_whole (record m { rule = rule }) ∙ ap (λ (r : RunResult). r.steps) (run-of m rule script budget shape f g h)

-- whether a run is fine, by how it ended
abbrev is_fine_outcome : Outcome → Bool
is_fine_outcome outcome = not (is_bad_outcome outcome) && not (is_cut_outcome outcome)

-- a run that isn't cut isn't cut by the budget
uncut-by : (result : RunResult) → is_cut_outcome result.outcome ≡ false → result.outcome ≢ Cut Budget
uncut-by result uncut e = true≢false (sym (ap is_cut_outcome e) ∙ uncut)

module _ (failures : Failures) (fork : Seen) (scout : Scout) (n : ℕ) (is : IsAhead failures fork.script fork.budget fork.shape scout) (rule : fork.rule ≡ rule_of failures n)
    (met : HasMet failures n fork scout.machine) where
  abbrev first : RunResult
  first = runs_beside failures fork 0

  abbrev ahead : WholeRun
  ahead = whole_run_under (rule_of failures 0) scout.machine

  abbrev along : WholeRun
  along = whole_run_under (rule_of failures n) fork

  ran : ahead.result.outcome ≡ first.outcome
  ran = outcome-under scout.machine (rule_of failures 0) fork.script fork.budget fork.shape is.same_script is.same_budget is.same_shape

  forked : along.result.outcome ≡ (runs_beside failures fork n).outcome
  forked = outcome-under fork (rule_of failures n) fork.script fork.budget fork.shape refl refl refl

  uncut : ahead.result.outcome ≢ Cut Budget
  uncut e = uncut-by first is.uncut (sym ran ∙ e)

  behind : RefusesAlike (rule_of failures 0) (rule_of failures n) (reached_by scout.machine) (reached_by fork)
  behind =
      lies-behind failures n met.machine_past.0 met.fork_past.0 (reached_by scout.machine) (reached_by fork) met.machine_past.1 met.fork_past.1 met.machine_past.2 met.fork_past.2

  agree : RestsAgree fork.budget (reached_by scout.machine) (reached_by fork) ahead along
  agree = met.goes (rule_of failures 0) (rule_of failures n) (inl (sym is.rule)) (inl (sym rule)) uncut behind

  -- its steps
  took : scout.steps ≡ ahead.result.steps
  took = is.taken ∙ sym (steps-under scout.machine (rule_of failures 0) fork.script fork.budget fork.shape is.same_script is.same_budget is.same_shape)

  same : scout.steps + fork.steps ≤ scout.budget + scout.machine.steps → ComesToTheSame (reached_by scout.machine) (reached_by fork) ahead along
  same within = agree.alike (omega (arith, within, took, is.allowed))

  pub met-alike : scout.steps + fork.steps ≤ scout.budget + scout.machine.steps → EndsAlike (runs_beside failures fork 0) (runs_beside failures fork n)
  met-alike within = record {
    end = ap end_of (sym forked) ∙ end-same (same within).outcome ∙ ap end_of ran;
    fine = ap is_fine_outcome (sym forked) ∙ (judged-same ahead.result along.result (same within).outcome).1 ∙ ap is_fine_outcome ran;
  }

  pub met-cut : scout.budget + scout.machine.steps < scout.steps + fork.steps → (runs_beside failures fork n).outcome ≡ Cut Budget
  met-cut past = sym forked ∙ agree.cut (omega (arith, past, took, is.allowed))
