use Rattle.wb_runs.proofs.SetLemmas.{none-fails, one-fails, two-fail}
use Rattle.wb_runs.proofs.set_laws.small_sets_are_failures.Goals as goal

pub returns : goal.returns
returns c = record { none = none-fails; one = one-fails; two = two-fail }
