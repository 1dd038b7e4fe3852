use Rattle.wb_renaming.proofs.FollowEither.{numbers-alike, pairs-alike}
use Rattle.wb_runs.proofs.renaming_laws.failures_lie_behind.Goals as goal

pub returns : goal.returns
returns c = record { numbers = numbers-alike; pairs = pairs-alike }
