-- The runs under the failures that a sweep tries, beside a run under way. What is tried as 0 is what a walk goes along.
use Rattle.std.specs.Prelude.{ℕ, ◌+◌}
use Rattle.wb_machine.specs.Seen.{Seen}
use Rattle.wb_runs.specs.declared.failures.Failing.{Failing}
use Rattle.wb_runs.specs.declared.failures.Failures.{Failures}
use Rattle.wb_meaning.specs.declared.run.RunResult.{RunResult}
use Rattle.wb_runs.specs.Sweeps.{failing_at, runs_of}

-- those of the run's script, budget and shape
abbrev pub runs_beside : Failures → Seen → ℕ → RunResult
runs_beside failures lead = runs_of failures lead.script lead.budget lead.shape

-- the failure that is the first to refuse the attempt which a run makes next, and the run under it
abbrev pub next_failing : Failures → Seen → Failing
next_failing failures lead = failing_at failures (lead.attempts + 1)

abbrev pub next_run : Failures → Seen → RunResult
next_run failures lead = runs_beside failures lead (lead.attempts + 1)
