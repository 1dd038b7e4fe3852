-- The pair that a set of two attempts is.
use Rattle.std.specs.Prelude.{[], ◌∷◌}
use Rattle.wb_runs.specs.declared.failures.Failing.{Failing}
use Rattle.wb_runs.specs.declared.failures.Failing.TheVariants.{Pair, Set}

-- another failure stays as it is
abbrev pub pair_of : Failing → Failing
pair_of (Set (i ∷ j ∷ [])) = Pair i j
pair_of at = at
