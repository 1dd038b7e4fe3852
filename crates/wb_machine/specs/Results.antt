-- What a run that is over tells.
use Rattle.std.specs.Prelude.{List, Some, None}
use Rattle.wb_heap_model.specs.declared.reported.Leak.{Leak}
use Rattle.wb_meaning.specs.declared.run.Outcome.{Outcome}
use Rattle.wb_meaning.specs.declared.run.Outcome.TheVariants as outcomes
use Rattle.wb_meaning.specs.declared.run.RunResult.{RunResult}
use Rattle.wb_heap_model.specs.Debug.{leaks_of_heap}
use Rattle.wb_meaning.specs.Run.{WholeRun}
use Rattle.wb_machine.specs.declared.pieces.Ending.{Ending}
use Rattle.wb_machine.specs.declared.pieces.Ending.TheVariants.{GoesOn, Returns, Leaves, Panics, Cut, NoCleanup}
use Rattle.wb_machine.specs.RunState.{RunState}

-- the live cells but the cleanup stack's, by place
abbrev pub leaks_at_end : RunState → List Leak
leaks_at_end h = leaks_of_heap h.debug

abbrev pub outcome_by : Ending → List Leak → Outcome
outcome_by GoesOn leaks = outcomes.Ended None leaks
outcome_by (Returns p) leaks = outcomes.Ended None leaks
outcome_by (Leaves code) leaks = outcomes.Ended (Some code) leaks
outcome_by (Panics p) leaks = outcomes.Panicked p
outcome_by (Cut why) leaks = outcomes.Cut why
outcome_by NoCleanup leaks = outcomes.NoCleanup

abbrev pub run_result_by : Ending → List Leak → RunState → RunResult
run_result_by ending leaks h = record { outcome = outcome_by ending leaks; trace = h.debug.trace; lines = h.lines; notes = h.notes; steps = h.steps }

-- the same with how many attempts were made, and the rises where they are kept
abbrev pub whole_by : Ending → List Leak → RunState → WholeRun
whole_by ending leaks h = record { result = run_result_by ending leaks h; attempts = h.debug.attempts; rises = h.debug.rises }
