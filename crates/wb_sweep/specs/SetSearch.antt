-- What a search finds among the sets that begin with the same numbers.
use Rattle.std.specs.Prelude.{◌≡◌, ℕ, ◌+◌, ◌<◌, ◌≤◌, List, ◌∷◌, ◌++◌, true, false, length}
use Rattle.wb_machine.specs.Seen.{Seen}
use Rattle.wb_heap_model.specs.declared.heap.Rule.TheVariants.{Set}
use Rattle.wb_meaning.specs.declared.run.Outcome.TheVariants.{Cut}
use Rattle.wb_meaning.specs.declared.run.RunResult.{RunResult}
use Rattle.wb_meaning.specs.declared.run.Why.{Why}
use Rattle.wb_meaning.specs.Run.{is_bad}
use Rattle.wb_runs.specs.declared.failures.Failing.{Failing}
use Rattle.wb_runs.specs.declared.failures.Failing.TheVariants as failings
use Rattle.wb_heap_model.specs.declared.heap.Shape.{Shape}
use Rattle.wb_runs.specs.declared.part.Part.{Part}
use Rattle.wb_tree.specs.declared.script.Script.{Script}
use Rattle.wb_runs.specs.SetParts.{IsLeastCutSetIn, IsSetFoundIn}
use Rattle.wb_runs.specs.Sets.{AscendsPast, has_lesser_number}
use Rattle.wb_runs.specs.Sweeps.{is_fine, set_of}
use Rattle.wb_sweep.specs.declared.found.Found.{Found}

-- a machine goes along the run in which these attempts fail, in another's script, budget and shape, and has made no attempt past one
pub record IsForkTo (lead : Seen) (numbers : List ℕ) (number : ℕ) (fork : Seen) : Type 0 where
  pub script : fork.script ≡ lead.script
  pub budget : fork.budget ≡ lead.budget
  pub shape : fork.shape ≡ lead.shape
  pub rule : fork.rule ≡ Set numbers
  pub begun : fork.begun ≡ true
  pub within : fork.steps ≤ fork.budget
  pub well : fork.failed ≡ false
  pub start : fork.attempts ≤ number

-- so many further numbers, ascending past one
pub record IsRest (past more : ℕ) (rest : List ℕ) : Type 0 where
  pub ascends : AscendsPast past rest
  pub many : length rest ≡ more

-- the runs of the sets that begin with these numbers and have so many more, past one, are neither bad nor cut
abbrev pub AreFine : (List ℕ → RunResult) → List ℕ → ℕ → ℕ → Type 0
AreFine runs set past more = (rest : List ℕ) → IsRest past more rest → is_fine (runs (set ++ rest)) ≡ true

-- so are those of the sets that have fewer more
abbrev pub AreFewerFine : (List ℕ → RunResult) → List ℕ → ℕ → ℕ → Type 0
AreFewerFine runs set past more = (rest : List ℕ) → AscendsPast past rest → length rest < more → is_fine (runs (set ++ rest)) ≡ true

-- the least set of those that begin with these numbers and have so many more, past one, whose run leaks or panics, and that run; the run of no
-- lesser one of them is cut
pub record IsLeastBadRest (runs : List ℕ → RunResult) (set : List ℕ) (past more : ℕ) (rest : List ℕ) (result : RunResult) : Type 0 where
  pub further : IsRest past more rest
  pub bad : is_bad (runs (set ++ rest)) ≡ true
  pub least : (other : List ℕ) → IsRest past more other → has_lesser_number other rest ≡ true → is_fine (runs (set ++ other)) ≡ true
  pub run_is : result ≡ runs (set ++ rest)

-- the least of them whose run is cut, and why; the run of no lesser one leaks or panics
pub record IsLeastCutRest (runs : List ℕ → RunResult) (set : List ℕ) (past more : ℕ) (rest : List ℕ) (why : Why) : Type 0 where
  pub further : IsRest past more rest
  pub cut : (runs (set ++ rest)).outcome ≡ Cut why
  pub least : (other : List ℕ) → IsRest past more other → has_lesser_number other rest ≡ true → is_fine (runs (set ++ other)) ≡ true

abbrev pub IsFoundAfter : (List ℕ → RunResult) → List ℕ → ℕ → ℕ → Found → Type 0
IsFoundAfter runs set past more found = (rest : List ℕ) × (found.at ≡ failings.Set (set ++ rest)) × IsLeastBadRest runs set past more rest found.result

abbrev pub IsCutAfter : (List ℕ → RunResult) → List ℕ → ℕ → ℕ → Failing → Why → Type 0
IsCutAfter runs set past more at why = (rest : List ℕ) × (at ≡ failings.Set (set ++ rest)) × IsLeastCutRest runs set past more rest why

-- ---- the same, where the first of the further numbers is given

-- so many further numbers, of which this is the first
pub record IsRestWith (number more : ℕ) (rest : List ℕ) : Type 0 where
  pub ascends : AscendsPast number rest
  pub many : length rest + 1 ≡ more

abbrev pub AreFineWith : (List ℕ → RunResult) → List ℕ → ℕ → ℕ → Type 0
AreFineWith runs set number more = (rest : List ℕ) → IsRestWith number more rest → is_fine (runs (set ++ number ∷ rest)) ≡ true

-- those with fewer more
abbrev pub AreFewerFineWith : (List ℕ → RunResult) → List ℕ → ℕ → ℕ → Type 0
AreFewerFineWith runs set number more =
    (rest : List ℕ) → AscendsPast number rest → length rest + 1 < more → is_fine (runs (set ++ number ∷ rest)) ≡ true

pub record IsLeastBadWith (runs : List ℕ → RunResult) (set : List ℕ) (number more : ℕ) (rest : List ℕ) (result : RunResult) : Type 0 where
  pub further : IsRestWith number more rest
  pub bad : is_bad (runs (set ++ number ∷ rest)) ≡ true
  pub least : (other : List ℕ) → IsRestWith number more other → has_lesser_number other rest ≡ true → is_fine (runs (set ++ number ∷ other)) ≡ true
  pub run_is : result ≡ runs (set ++ number ∷ rest)

pub record IsLeastCutWith (runs : List ℕ → RunResult) (set : List ℕ) (number more : ℕ) (rest : List ℕ) (why : Why) : Type 0 where
  pub further : IsRestWith number more rest
  pub cut : (runs (set ++ number ∷ rest)).outcome ≡ Cut why
  pub least : (other : List ℕ) → IsRestWith number more other → has_lesser_number other rest ≡ true → is_fine (runs (set ++ number ∷ other)) ≡ true

abbrev pub IsFoundWith : (List ℕ → RunResult) → List ℕ → ℕ → ℕ → Found → Type 0
IsFoundWith runs set number more found =
    (rest : List ℕ) × (found.at ≡ failings.Set (set ++ number ∷ rest)) × IsLeastBadWith runs set number more rest found.result

abbrev pub IsCutWith : (List ℕ → RunResult) → List ℕ → ℕ → ℕ → Failing → Why → Type 0
IsCutWith runs set number more at why =
    (rest : List ℕ) × (at ≡ failings.Set (set ++ number ∷ rest)) × IsLeastCutWith runs set number more rest why

-- ---- of a part

-- the failure is a set, which is the least of the part whose run leaks or panics
abbrev pub IsFoundAsSet : Part → ℕ → Script → ℕ → Shape → Failing → RunResult → Type 0
IsFoundAsSet part most script budget shape at result =
    (at ≡ failings.Set (set_of at)) × IsSetFoundIn part most script budget shape (set_of at) result

-- the failure is a set, which is the least of the part whose run is cut
abbrev pub IsCutAsSet : Part → ℕ → Script → ℕ → Shape → Failing → Why → Type 0
IsCutAsSet part most script budget shape at why =
    (at ≡ failings.Set (set_of at)) × IsLeastCutSetIn part most script budget shape (set_of at) why
