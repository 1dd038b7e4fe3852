-- Pairs of failures, which a sweep over them looks among once no single failure shows anything. The attempts of a pair count from 1, and its
-- second comes after its first; pairs are in order of their first attempts, and those with the same one in order of their second.
use Rattle.std.specs.Prelude.{◌≡◌, ℕ, zero, suc, ◌+◌, ◌-◌, ◌<◌, ◌≤◌, ◌⊎◌, true, nat_le, if◌then◌else◌, length, Option, Some, None}
use Rattle.wb_runs.specs.declared.failures.Failing.{Failing}
use Rattle.wb_runs.specs.declared.failures.Failing.TheVariants.{Number, Pair}
use Rattle.wb_runs.specs.declared.failures.Failures.TheVariants.{Single}
use Rattle.wb_heap_model.specs.declared.heap.Rule.TheVariants as rules
use Rattle.wb_heap_model.specs.declared.heap.Shape.{Shape}
use Rattle.wb_meaning.specs.declared.run.Outcome.TheVariants.{Cut}
use Rattle.wb_meaning.specs.declared.run.RunResult.{RunResult}
use Rattle.wb_meaning.specs.declared.run.Why.{Why}
use Rattle.wb_tree.specs.declared.script.Script.{Script}
use Rattle.wb_meaning.specs.Run.{run, is_bad}
use Rattle.wb_runs.specs.Sweeps.{is_fine, or_else, runs_of, AreAllFine}

-- the run in which the attempts i and j fail
abbrev pub pair_run : Script → ℕ → Shape → ℕ → ℕ → RunResult
pair_run script budget shape i j = run script (rules.Pair i j) budget shape

-- the failures in which attempt i fails, by the second attempt that does; where that isn't past i, attempt i fails alone
abbrev pub failing_with : ℕ → ℕ → Failing
failing_with i n = if nat_le n i then Number i else Pair i n

-- the pair of a and b comes before that of i and j
abbrev pub ComesBefore : ℕ → ℕ → ℕ → ℕ → Type 0
ComesBefore a b i j = (a < i) ⊎ ((a ≡ i) × (b < j))

-- the run of each pair that comes before this one is neither bad nor cut
abbrev pub ArePairsFineBefore : (ℕ → ℕ → RunResult) → ℕ → ℕ → Type 0
ArePairsFineBefore runs i j = (a b : ℕ) → 1 ≤ a → a < b → ComesBefore a b i j → is_fine (runs a b) ≡ true

-- the run of each pair whose first attempt is this one is neither bad nor cut
abbrev pub ArePairsFineWith : (ℕ → ℕ → RunResult) → ℕ → Type 0
ArePairsFineWith runs i = (j : ℕ) → i < j → is_fine (runs i j) ≡ true

-- the run of each pair is neither bad nor cut
abbrev pub AreAllPairsFine : (ℕ → ℕ → RunResult) → Type 0
AreAllPairsFine runs = (i j : ℕ) → 1 ≤ i → i < j → is_fine (runs i j) ≡ true

-- the first of `more` numbers from `from` on whose run isn't fine
abbrev pub least_from : (ℕ → RunResult) → ℕ → ℕ → Option ℕ
least_from runs from zero = None
least_from runs from (suc more) = or_else (if is_fine (runs from) then None else Some from) (least_from runs (from + 1) more)

abbrev pub pair_or : ℕ → Option ℕ → Option (ℕ × ℕ) → Option (ℕ × ℕ)
pair_or i (Some j) rest = Some (i, j)
pair_or i None rest = rest

-- the first pair whose run isn't fine, of those whose first attempt is one of `more` numbers from i on, and whose second is at most `last` of it
abbrev pub least_pair_from : (ℕ → ℕ → RunResult) → (ℕ → ℕ) → ℕ → ℕ → Option (ℕ × ℕ)
least_pair_from runs last i zero = None
least_pair_from runs last i (suc more) = pair_or i (least_from (runs i) (i + 1) (last i - i)) (least_pair_from runs last (i + 1) more)

-- what is found among the pairs whose attempts are made; `pairs_end` among the laws says that it is the least of all pairs
abbrev pub least_bad_or_cut_pair : Script → ℕ → Shape → Option (ℕ × ℕ)
least_bad_or_cut_pair script budget shape =
    least_pair_from (pair_run script budget shape) (λ i. length (runs_of Single script budget shape i).trace) 1 (length (runs_of Single script budget shape 0).trace)

-- The least pair whose run leaks or panics, and that run. No run of a pair before it is cut, and the run of no single number is bad or cut.
pub record IsLeastBadPair (script : Script) (budget : ℕ) (shape : Shape) (i j : ℕ) (result : RunResult) : Type 0 where
  pub counted : 1 ≤ i
  pub later : i < j
  pub alone : AreAllFine (runs_of Single script budget shape)
  pub bad : is_bad (pair_run script budget shape i j) ≡ true
  pub least : ArePairsFineBefore (pair_run script budget shape) i j
  pub run_is : result ≡ pair_run script budget shape i j

-- The least pair whose run is cut, and why. No run of a pair before it is bad, and the run of no single number is bad or cut.
pub record IsLeastCutPair (script : Script) (budget : ℕ) (shape : Shape) (i j : ℕ) (why : Why) : Type 0 where
  pub counted : 1 ≤ i
  pub later : i < j
  pub alone : AreAllFine (runs_of Single script budget shape)
  pub cut : (pair_run script budget shape i j).outcome ≡ Cut why
  pub least : ArePairsFineBefore (pair_run script budget shape) i j

-- the failure is the least pair whose run leaks or panics, and this is that run
abbrev pub IsFoundPair : Script → ℕ → Shape → Failing → RunResult → Type 0
IsFoundPair script budget shape at result =
    (i : ℕ) × (j : ℕ) × (at ≡ Pair i j) × IsLeastBadPair script budget shape i j result

-- the failure is the least pair whose run is cut, and why
abbrev pub IsCutPair : Script → ℕ → Shape → Failing → Why → Type 0
IsCutPair script budget shape at why =
    (i : ℕ) × (j : ℕ) × (at ≡ Pair i j) × IsLeastCutPair script budget shape i j why
