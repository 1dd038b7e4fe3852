-- What `--failures K` says, as lines and as values, and what that means of runs: the least set of at most K attempts whose simulated
-- failure in one run leaks or panics, of all sets (`wb_runs`, `specs/Sets.antt`) or of those of a part (`SetParts.antt`). A set of no
-- more than one attempt is spoken of as the single number of a sweep, and the empty one as number 0.
use Rattle.std.specs.Prelude.{◌≡◌, ◌⊎◌, ◌≤◌, ℕ, Bool, true, false, List, ◌++◌, codes, length}
use Rattle.std.specs.Fmt.{decimal}
use Rattle.wb_runs.specs.declared.failures.Failures.TheVariants.{Single}
use Rattle.wb_heap_model.specs.declared.heap.Shape.{Shape}
use Rattle.wb_runs.specs.declared.part.Part.{Part}
use Rattle.wb_meaning.specs.declared.run.RunResult.{RunResult}
use Rattle.wb_meaning.specs.declared.run.Why.{Why}
use Rattle.wb_tree.specs.declared.script.Script.{Script}
use Rattle.wb_runs.specs.SetParts.{IsNoSetIn, IsSetCutIn, IsSetFoundIn}
use Rattle.wb_runs.specs.Sets.{AreSetsFine, IsLeastBadSet, IsLeastCutSet}
use Rattle.wb_runs.specs.Sweeps.{failing_set}
use Rattle.workbench.specs.declared.report_values.FailingNumber.TheVariants.{At, Never}
use Rattle.workbench.specs.declared.report_values.ReportValues.{ReportValues}
use Rattle.workbench.specs.PartReport.{is_whole}
use Rattle.workbench.specs.ReportValues.{cut_values, sweep_values}
use Rattle.workbench.specs.RunText.{line}
use Rattle.workbench.specs.TwoNumbers.{attempts_line, attempts_of, cut_at_line, found_text}

-- no set of at most so many attempts is found
abbrev pub no_set_line : ℕ → List ℕ
no_set_line most = line (codes "set none to " ++ decimal most)

-- ---- what they mean

-- Each of these three is told whether the part is the whole, as it is where a command names none. Then all sets of at most so many attempts are
-- spoken of, else those of the part.

-- the least set whose run leaks or panics, and that run; no lesser one's is cut
abbrev pub IsSetFoundOver : Bool → Part → ℕ → Script → ℕ → Shape → List ℕ → RunResult → Type 0
IsSetFoundOver true part most script budget shape numbers result = IsLeastBadSet script budget shape numbers result × (length numbers ≤ most)
IsSetFoundOver false part most script budget shape numbers result = IsSetFoundIn part most script budget shape numbers result

-- the least set whose run is cut, and why; no lesser one's leaks or panics
abbrev pub IsSetCutOver : Bool → Part → ℕ → Script → ℕ → Shape → List ℕ → Why → Type 0
IsSetCutOver true part most script budget shape numbers why = IsLeastCutSet script budget shape numbers why × (length numbers ≤ most)
IsSetCutOver false part most script budget shape numbers why = IsSetCutIn part most script budget shape numbers why

-- the run of no set leaks, panics or is cut
abbrev pub IsNoSetOver : Bool → Part → ℕ → Script → ℕ → Shape → Type 0
IsNoSetOver true part most script budget shape = AreSetsFine script budget shape most
IsNoSetOver false part most script budget shape = IsNoSetIn part most script budget shape

-- A set is printed, and the run in which its attempts fail. It is the least whose run leaks or panics (`IsSetFoundOver`).
pub record IsFailingSet (part : Part) (most : ℕ) (script : Script) (budget : ℕ) (shape : Shape)
    (text : List ℕ) (values : ReportValues) : Type 0 where
  pub numbers : List ℕ
  pub result : RunResult
  pub found : IsSetFoundOver (is_whole part) part most script budget shape numbers result
  pub text_is : text ≡ attempts_line (attempts_of Single script budget shape) ++ found_text (failing_set numbers) result
  pub values_are : values ≡ sweep_values (attempts_of Single script budget shape) (At (failing_set numbers))

-- the run leaks or panics under no set of at most so many attempts, and is cut under none of them
pub record IsNoFailingSet (part : Part) (most : ℕ) (script : Script) (budget : ℕ) (shape : Shape)
    (text : List ℕ) (values : ReportValues) : Type 0 where
  pub none : IsNoSetOver (is_whole part) part most script budget shape
  pub text_is : text ≡ attempts_line (attempts_of Single script budget shape) ++ no_set_line most
  pub values_are : values ≡ sweep_values (attempts_of Single script budget shape) Never

-- there is no answer: the run of a set is cut, and no lesser one's leaks, panics or is cut (`IsSetCutOver`). Where the run without failure
-- is cut, the set is the empty one, whatever the part is
pub record IsUnsweptSet (part : Part) (most : ℕ) (script : Script) (budget : ℕ) (shape : Shape)
    (text : List ℕ) (values : ReportValues) : Type 0 where
  pub numbers : List ℕ
  pub why : Why
  pub cut : IsSetCutOver (is_whole part) part most script budget shape numbers why
  pub text_is : text ≡ cut_at_line (failing_set numbers) why
  pub values_are : values ≡ cut_values (failing_set numbers)

-- the report of `sweep --failures`
abbrev pub IsSetsReport : Part → ℕ → Script → ℕ → Shape → List ℕ → ReportValues → ℕ → Type 0
IsSetsReport part most script budget shape text values status =
    (IsFailingSet part most script budget shape text values × (status ≡ 1))
    ⊎ ((IsNoFailingSet part most script budget shape text values × (status ≡ 0))
    ⊎ (IsUnsweptSet part most script budget shape text values × (status ≡ 3)))
