-- That a search has an answer: of each kind of sweep, over a part and over all, and of each search among the lengths of the heap.
use Rattle.std.specs.Prelude.{◌≡◌, ℕ, ◌≤◌, ◌⊎◌, List, length, false, true}
use Rattle.wb_runs.specs.declared.failures.Failing.{Failing}
use Rattle.wb_runs.specs.declared.failures.Failures.{Failures}
use Rattle.wb_heap_model.specs.declared.heap.Shape.{Shape}
use Rattle.wb_runs.specs.declared.lengths.LengthRange.{LengthRange}
use Rattle.wb_basics.specs.declared.limits.TheConstants.{CEILING}
use Rattle.wb_runs.specs.declared.part.Part.{Part}
use Rattle.wb_meaning.specs.declared.run.RunResult.{RunResult}
use Rattle.wb_meaning.specs.declared.run.Why.{Why}
use Rattle.wb_tree.specs.declared.script.Script.{Script}
use Rattle.wb_runs.specs.AllNumbers.{IsLeastBadOf, IsNoBadOf}
use Rattle.wb_runs.specs.EverySet.{IsEverySetAnswerIn}
use Rattle.wb_runs.specs.Lengths.{run_in, IsLeastBadLength, IsLengthTable, IsNoBadLength}
use Rattle.wb_runs.specs.Parts.{Answer, IsAnswerIn}
use Rattle.wb_runs.specs.SetAnswers.{SetAnswer, IsSetAnswerIn}
use Rattle.wb_runs.specs.Sets.{AreAllSetsFine, AreSetsFine, IsLeastBadSet, IsLeastCutSet}
use Rattle.wb_runs.specs.SweepAnswers.{IsCutShort, IsFound, IsNoneFound}
use Rattle.wb_runs.specs.Sweeps.{is_cut_outcome}

-- ---- sweeps over failures

abbrev pub HasAnswerIn : Failures → Part → Script → ℕ → Shape → Type 0
HasAnswerIn failures part script budget shape = (answer : Answer) × IsAnswerIn failures part script budget shape answer

abbrev pub AnyFound : Failures → Script → ℕ → Shape → Type 0
AnyFound failures script budget shape = (at : Failing) × (result : RunResult) × IsFound failures script budget shape at result

abbrev pub AnyCutShort : Failures → Script → ℕ → Shape → Type 0
AnyCutShort failures script budget shape = (at : Failing) × (why : Why) × IsCutShort failures script budget shape at why

abbrev pub HasAnswer : Failures → Script → ℕ → Shape → Type 0
HasAnswer failures script budget shape =
    AnyFound failures script budget shape ⊎ (AnyCutShort failures script budget shape ⊎ IsNoneFound failures script budget shape)

-- ---- sweeps over sets

abbrev pub HasSetAnswerIn : Part → ℕ → Script → ℕ → Shape → Type 0
HasSetAnswerIn part most script budget shape = (answer : SetAnswer) × IsSetAnswerIn part most script budget shape answer

abbrev pub HasEverySetAnswerIn : Part → Script → ℕ → Shape → Type 0
HasEverySetAnswerIn part script budget shape = (answer : SetAnswer) × IsEverySetAnswerIn part script budget shape answer

abbrev pub AnyBadSet : ℕ → Script → ℕ → Shape → Type 0
AnyBadSet most script budget shape =
    (numbers : List ℕ) × (result : RunResult) × IsLeastBadSet script budget shape numbers result × (length numbers ≤ most)

abbrev pub AnyCutSet : ℕ → Script → ℕ → Shape → Type 0
AnyCutSet most script budget shape = (numbers : List ℕ) × (why : Why) × IsLeastCutSet script budget shape numbers why × (length numbers ≤ most)

abbrev pub HasSetAnswer : ℕ → Script → ℕ → Shape → Type 0
HasSetAnswer most script budget shape =
    AnyBadSet most script budget shape ⊎ (AnyCutSet most script budget shape ⊎ AreSetsFine script budget shape most)

abbrev pub HasEverySetAnswer : Script → ℕ → Shape → Type 0
HasEverySetAnswer script budget shape =
    ((numbers : List ℕ) × (result : RunResult) × IsLeastBadSet script budget shape numbers result)
    ⊎ (((numbers : List ℕ) × (why : Why) × IsLeastCutSet script budget shape numbers why) ⊎ AreAllSetsFine script budget shape)

-- ---- lists of numbers

abbrev pub HasLeastBadOf : (ℕ → RunResult) → Part → Type 0
HasLeastBadOf runs part = ((number : ℕ) × IsLeastBadOf runs part number (runs number)) ⊎ IsNoBadOf runs part

-- ---- lengths of the heap

abbrev pub HasLengthTable : Script → ℕ → Shape → Type 0
HasLengthTable script budget shape = (table : List LengthRange) × IsLengthTable script budget shape table

abbrev pub HasLeastBadLength : Script → ℕ → Shape → Type 0
HasLeastBadLength script budget shape =
    ((length : ℕ) × (result : RunResult) × IsLeastBadLength script budget shape length result) ⊎ IsNoBadLength script budget shape

-- a length whose run is cut, or none
abbrev pub AnyCutOrNone : Script → ℕ → Shape → Type 0
AnyCutOrNone script budget shape =
    ((length : ℕ) × (length ≤ CEILING) × (is_cut_outcome (run_in script budget shape length).outcome ≡ true))
    ⊎ ((length : ℕ) → length ≤ CEILING → is_cut_outcome (run_in script budget shape length).outcome ≡ false)
