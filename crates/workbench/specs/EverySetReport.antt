-- What `--sets` says, as lines and as values, and what that means of runs: the least set of attempts, however many, whose simulated failure
-- in one run leaks or panics, of all sets (`wb_runs`, `specs/Sets.antt`) or of those of a part (`EverySet.antt`). A set is spoken of as
-- `--failures` does. Where more states were met than were allowed, it is said of which sets the runs are known.
use Rattle.std.specs.Prelude.{◌≡◌, ◌⊎◌, ◌+◌, ◌≤◌, ℕ, List, ◌++◌, Bool, false, true, codes}
use Rattle.wb_runs.specs.declared.failures.Failures.TheVariants.{Single}
use Rattle.wb_heap_model.specs.declared.heap.Shape.{Shape}
use Rattle.wb_runs.specs.declared.part.Part.{Part}
use Rattle.wb_meaning.specs.declared.run.RunResult.{RunResult}
use Rattle.wb_meaning.specs.declared.run.Why.{Why}
use Rattle.wb_tree.specs.declared.script.Script.{Script}
use Rattle.wb_runs.specs.EverySet.{IsLeastSetCutIn, IsLeastSetFoundIn, IsNoSetOfAnySizeIn}
use Rattle.wb_runs.specs.Sets.{AreAllSetsFine, IsLeastBadSet, IsLeastCutSet}
use Rattle.wb_runs.specs.Sweeps.{failing_set}
use Rattle.wb_runs.specs.Met.{AreManyStatesIn}
use Rattle.wb_command_line.specs.declared.command.Search.{Search}
use Rattle.wb_command_line.specs.declared.command.Search.TheVariants.{EverySet}
use Rattle.wb_command_line.specs.declared.command.Task.{Task}
use Rattle.wb_command_line.specs.declared.command.Task.TheVariants as T
use Rattle.workbench.specs.declared.report_values.FailingNumber.TheVariants.{At, Never}
use Rattle.workbench.specs.declared.report_values.ReportValues.{ReportValues}
use Rattle.workbench.specs.PartReport.{is_whole}
use Rattle.workbench.specs.ReportValues.{cut_values, many_states_values, sweep_values}
use Rattle.workbench.specs.RunText.{line}
use Rattle.workbench.specs.SetsReport.{IsNoSetOver, no_set_line}
use Rattle.workbench.specs.TwoNumbers.{attempts_line, attempts_of, cut_at_line, found_text}

-- ---- the lines

-- no set is found, however many attempts it has
abbrev pub no_set_at_all_line : List ℕ
no_set_at_all_line = line (codes "set none")

-- more states were met than were allowed
abbrev pub cut_states_line : List ℕ
cut_states_line = line (codes "cut states")

-- no set of at most so many attempts is found, and of others nothing is said
abbrev pub many_states_text : ℕ → ℕ → List ℕ
many_states_text attempts fine = attempts_line attempts ++ no_set_line fine ++ cut_states_line

-- ---- what they mean

-- Each of these three is told whether the part is the whole, as it is where a command names none. Then all sets are spoken of, else those of
-- the part.

-- the least set whose run leaks or panics, and that run; no lesser one's is cut
abbrev pub IsLeastSetFoundOver : Bool → Part → Script → ℕ → Shape → List ℕ → RunResult → Type 0
IsLeastSetFoundOver true part script budget shape numbers result = IsLeastBadSet script budget shape numbers result
IsLeastSetFoundOver false part script budget shape numbers result = IsLeastSetFoundIn part script budget shape numbers result

-- the least set whose run is cut, and why; no lesser one's leaks or panics
abbrev pub IsLeastSetCutOver : Bool → Part → Script → ℕ → Shape → List ℕ → Why → Type 0
IsLeastSetCutOver true part script budget shape numbers why = IsLeastCutSet script budget shape numbers why
IsLeastSetCutOver false part script budget shape numbers why = IsLeastSetCutIn part script budget shape numbers why

-- the run of no set leaks, panics or is cut, however many attempts it has
abbrev pub IsNoSetOfAnySizeOver : Bool → Part → Script → ℕ → Shape → Type 0
IsNoSetOfAnySizeOver true part script budget shape = AreAllSetsFine script budget shape
IsNoSetOfAnySizeOver false part script budget shape = IsNoSetOfAnySizeIn part script budget shape

-- A set is printed, and the run in which its attempts fail. It is the least whose run leaks or panics (`IsLeastSetFoundOver`).
pub record IsLeastFailingSet (part : Part) (script : Script) (budget : ℕ) (shape : Shape) (text : List ℕ) (values : ReportValues) : Type 0 where
  pub numbers : List ℕ
  pub result : RunResult
  pub found : IsLeastSetFoundOver (is_whole part) part script budget shape numbers result
  pub text_is : text ≡ attempts_line (attempts_of Single script budget shape) ++ found_text (failing_set numbers) result
  pub values_are : values ≡ sweep_values (attempts_of Single script budget shape) (At (failing_set numbers))

-- the run leaks or panics under no set, and is cut under none, however many attempts it has
pub record IsNoFailingSetAtAll (part : Part) (script : Script) (budget : ℕ) (shape : Shape) (text : List ℕ) (values : ReportValues) : Type 0 where
  pub none : IsNoSetOfAnySizeOver (is_whole part) part script budget shape
  pub text_is : text ≡ attempts_line (attempts_of Single script budget shape) ++ no_set_at_all_line
  pub values_are : values ≡ sweep_values (attempts_of Single script budget shape) Never

-- there is no answer: the run of a set is cut, and no lesser one's leaks, panics or is cut (`IsLeastSetCutOver`). Where the run without
-- failure is cut, the set is the empty one, whatever the part is
pub record IsUnsweptEverySet (part : Part) (script : Script) (budget : ℕ) (shape : Shape) (text : List ℕ) (values : ReportValues) : Type 0 where
  pub numbers : List ℕ
  pub why : Why
  pub cut : IsLeastSetCutOver (is_whole part) part script budget shape numbers why
  pub text_is : text ≡ cut_at_line (failing_set numbers) why
  pub values_are : values ≡ cut_values (failing_set numbers)

-- There is none: more states were met than were allowed (`wb_states`, `Met.antt`). The run leaks, panics or is cut under no set of at most
-- so many attempts, which is at least one; the states are those under sets of one attempt more. It isn't said that this number is the greatest.
pub record IsCutByStates (part : Part) (states : ℕ) (script : Script) (budget : ℕ) (shape : Shape) (text : List ℕ) (values : ReportValues) : Type 0 where
  pub fine : ℕ
  pub some : 1 ≤ fine
  pub none : IsNoSetOver (is_whole part) part fine script budget shape
  pub many : AreManyStatesIn part (fine + 1) states script budget shape
  pub text_is : text ≡ many_states_text (attempts_of Single script budget shape) fine
  pub values_are : values ≡ many_states_values fine

-- the report of `sweep --sets`, in which so many states may be met
abbrev pub IsEverySetReport : Part → ℕ → Script → ℕ → Shape → List ℕ → ReportValues → ℕ → Type 0
IsEverySetReport part states script budget shape text values status =
    (IsLeastFailingSet part script budget shape text values × (status ≡ 1))
    ⊎ ((IsNoFailingSetAtAll part script budget shape text values × (status ≡ 0))
    ⊎ ((IsUnsweptEverySet part script budget shape text values × (status ≡ 3))
    ⊎ (IsCutByStates part states script budget shape text values × (status ≡ 3))))

-- the search is among all sets, so that its report may be that of one with too many states
abbrev pub is_of_every_set : Search → Bool
is_of_every_set (EverySet states) = true
is_of_every_set _ = false

-- so is that of a task
abbrev pub tries_every_set : Task → Bool
tries_every_set (T.Sweep search part) = is_of_every_set search
tries_every_set (T.Check search) = is_of_every_set search
tries_every_set _ = false
