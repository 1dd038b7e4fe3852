-- Runs that forks may meet, and what follows of a fork's run where it does.
use Rattle.std.specs.Prelude.{◌≡◌, ℕ, ◌≤◌, Bool, true, false, Option, None, Some}
use Rattle.wb_machine.specs.Alike.{GoesOnLike}
use Rattle.wb_machine.specs.Seen.{Seen}
use Rattle.wb_runs.specs.declared.failures.Failures.{Failures}
use Rattle.wb_runs.specs.declared.failures.Failures.TheVariants.{Single, Every, Pairs, Persistent}
use Rattle.wb_heap_model.specs.declared.heap.Shape.{Shape}
use Rattle.wb_meaning.specs.declared.run.Outcome.TheVariants.{Cut}
use Rattle.wb_meaning.specs.declared.run.RunResult.{RunResult}
use Rattle.wb_meaning.specs.declared.run.Why.TheVariants.{Budget}
use Rattle.wb_tree.specs.declared.script.Script.{Script}
use Rattle.wb_runs.specs.RunEnds.{end_of}
use Rattle.wb_runs.specs.Sweeps.{is_cut_outcome, is_fine, rule_of, runs_of}
use Rattle.wb_sweep.specs.declared.followed.Forked.{Forked}
use Rattle.wb_sweep.specs.declared.followed.Forked.TheVariants.{Met, Ran}
use Rattle.wb_sweep.specs.declared.scout.Meeting.{Meeting}
use Rattle.wb_sweep.specs.declared.scout.Meeting.TheVariants.{Alike, PastBudget}
use Rattle.wb_sweep.specs.declared.scout.Scout.{Scout}

-- the last attempt that fails under the failure that is tried as n; under a rate there is always a later one, and so there is where all
-- fail from one on
abbrev pub last_failing : Failures → ℕ → Option ℕ
last_failing Single n = Some n
last_failing Pairs n = Some n
last_failing Every n = None
last_failing Persistent n = None

-- a run that has made so many attempts is past the last one that fails under the failure that is tried as n
abbrev pub IsPastFailure : Failures → ℕ → ℕ → Type 0
IsPastFailure failures n attempts = (last : ℕ) × (last_failing failures n ≡ Some last) × (last ≤ attempts)

-- a fork under the failure that is tried as n has come to the same as a scout's machine, but for numbers, and nothing fails any more in either
pub record HasMet (failures : Failures) (n : ℕ) (fork machine : Seen) : Type 0 where
  pub goes : GoesOnLike fork machine
  pub fork_going : fork.over ≡ false
  pub machine_going : machine.over ≡ false
  pub fork_past : IsPastFailure failures n fork.attempts
  pub machine_past : IsPastFailure failures 0 machine.attempts

-- a run is fine, and takes so many steps
pub record IsFineRun (result : RunResult) (steps : ℕ) : Type 0 where
  pub fine : is_fine result ≡ true
  pub taken : steps ≡ result.steps

-- a scout's run is the one without failure, and isn't cut
pub record IsAhead (failures : Failures) (script : Script) (budget : ℕ) (shape : Shape) (scout : Scout) : Type 0 where
  pub rule : scout.machine.rule ≡ rule_of failures 0
  pub same_script : scout.machine.script ≡ script
  pub same_budget : scout.machine.budget ≡ budget
  pub same_shape : scout.machine.shape ≡ shape
  pub allowed : scout.budget ≡ budget
  pub uncut : is_cut_outcome (runs_of failures script budget shape 0).outcome ≡ false
  pub taken : scout.steps ≡ (runs_of failures script budget shape 0).steps

-- likewise, and it is fine
pub record IsScout (failures : Failures) (script : Script) (budget : ℕ) (shape : Shape) (scout : Scout) : Type 0 where
  pub rule : scout.machine.rule ≡ rule_of failures 0
  pub same_script : scout.machine.script ≡ script
  pub same_budget : scout.machine.budget ≡ budget
  pub same_shape : scout.machine.shape ≡ shape
  pub allowed : scout.budget ≡ budget
  pub run_is : IsFineRun (runs_of failures script budget shape 0) scout.steps

-- two runs end alike, and both are fine or neither is
pub record EndsAlike (first result : RunResult) : Type 0 where
  pub end : end_of result.outcome ≡ end_of first.outcome
  pub fine : is_fine result ≡ is_fine first

-- what a meeting says of the fork's run beside the scout's
abbrev pub MeetingSays : Meeting → RunResult → RunResult → Type 0
MeetingSays Alike first result = EndsAlike first result
MeetingSays PastBudget first result = result.outcome ≡ Cut Budget

-- and what is known of the run of a fork that was followed
abbrev pub ForkedSays : Forked → RunResult → RunResult → Type 0
ForkedSays (Met meeting) first result = MeetingSays meeting first result
ForkedSays (Ran known) first result = known ≡ result.outcome

-- the same beside a run that is fine: then that of a fork that met the scout is, too
abbrev pub FineSays : Forked → RunResult → Type 0
FineSays (Met Alike) result = is_fine result ≡ true
FineSays (Met PastBudget) result = result.outcome ≡ Cut Budget
FineSays (Ran known) result = known ≡ result.outcome

-- whether a fork has met the scout
abbrev pub is_met : Forked → Bool
is_met (Met meeting) = true
is_met (Ran known) = false
