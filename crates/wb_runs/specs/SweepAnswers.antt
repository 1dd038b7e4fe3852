-- What a sweep over failures of each kind answers. One over pairs tries the single failures first, and what these show is its answer.
use Rattle.std.specs.Prelude.{ℕ, ◌⊎◌}
use Rattle.wb_runs.specs.declared.failures.Failing.{Failing}
use Rattle.wb_runs.specs.declared.failures.Failures.{Failures}
use Rattle.wb_runs.specs.declared.failures.Failures.TheVariants.{Single, Every, Pairs, Persistent}
use Rattle.wb_heap_model.specs.declared.heap.Shape.{Shape}
use Rattle.wb_meaning.specs.declared.run.RunResult.{RunResult}
use Rattle.wb_meaning.specs.declared.run.Why.{Why}
use Rattle.wb_tree.specs.declared.script.Script.{Script}
use Rattle.wb_runs.specs.Pairs.{pair_run, AreAllPairsFine, IsCutPair, IsFoundPair}
use Rattle.wb_runs.specs.Sweeps.{failing_at, runs_of, AreAllFine, IsCutAmong, IsFoundAmong}

-- the least failure whose run leaks or panics, and that run
abbrev pub IsFound : Failures → Script → ℕ → Shape → Failing → RunResult → Type 0
IsFound Single script budget shape at result = IsFoundAmong (failing_at Single) script budget shape at result
IsFound Every script budget shape at result = IsFoundAmong (failing_at Every) script budget shape at result
IsFound Persistent script budget shape at result = IsFoundAmong (failing_at Persistent) script budget shape at result
IsFound Pairs script budget shape at result =
    IsFoundAmong (failing_at Pairs) script budget shape at result ⊎ IsFoundPair script budget shape at result

-- the least failure whose run is cut, and why
abbrev pub IsCutShort : Failures → Script → ℕ → Shape → Failing → Why → Type 0
IsCutShort Single script budget shape at why = IsCutAmong (failing_at Single) script budget shape at why
IsCutShort Every script budget shape at why = IsCutAmong (failing_at Every) script budget shape at why
IsCutShort Persistent script budget shape at why = IsCutAmong (failing_at Persistent) script budget shape at why
IsCutShort Pairs script budget shape at why =
    IsCutAmong (failing_at Pairs) script budget shape at why ⊎ IsCutPair script budget shape at why

-- the run under no failure, of all that there are, leaks, panics or is cut
abbrev pub IsNoneFound : Failures → Script → ℕ → Shape → Type 0
IsNoneFound Single script budget shape = AreAllFine (runs_of Single script budget shape)
IsNoneFound Every script budget shape = AreAllFine (runs_of Every script budget shape)
IsNoneFound Persistent script budget shape = AreAllFine (runs_of Persistent script budget shape)
IsNoneFound Pairs script budget shape =
    AreAllFine (runs_of Pairs script budget shape) × AreAllPairsFine (pair_run script budget shape)
