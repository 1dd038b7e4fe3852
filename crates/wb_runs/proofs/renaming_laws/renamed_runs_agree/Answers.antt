use Rattle.wb_renaming.proofs.FollowEither.{rests-together}
use Rattle.wb_renaming.proofs.FollowRuns.{rests-agree}
use Rattle.wb_runs.proofs.renaming_laws.renamed_runs_agree.Goals as goal

pub returns : goal.returns
returns c = record { further = rests-agree; either = rests-together }
