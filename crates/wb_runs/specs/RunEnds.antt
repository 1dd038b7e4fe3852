-- How a run ended, in one small value.
use Rattle.std.specs.Prelude.{[], ◌∷◌, Bool, true, false, Some, None, length}
use Rattle.wb_meaning.specs.declared.run.Outcome.{Outcome}
use Rattle.wb_meaning.specs.declared.run.Outcome.TheVariants as outcomes
use Rattle.wb_runs.specs.declared.run_end.RunEnd.{RunEnd}
use Rattle.wb_runs.specs.declared.run_end.RunEnd.TheVariants.{NoCleanup, Panicked, Leaked, Left, Plain, Cut}

abbrev pub end_of : Outcome → RunEnd
end_of (outcomes.Ended None []) = Plain
end_of (outcomes.Ended (Some code) []) = Left code
end_of (outcomes.Ended left (leak ∷ leaks)) = Leaked (length (leak ∷ leaks))
end_of (outcomes.Panicked panic) = Panicked panic
end_of outcomes.NoCleanup = NoCleanup
end_of (outcomes.Cut why) = Cut why

-- a leak or a panic
abbrev pub is_bad_end : RunEnd → Bool
is_bad_end (Leaked count) = true
is_bad_end (Panicked panic) = true
is_bad_end _ = false

abbrev pub is_cut_end : RunEnd → Bool
is_cut_end (Cut why) = true
is_cut_end _ = false
