use Rattle.wb_renaming.proofs.FollowPieces.{left_to_do-follows}
use Rattle.wb_renaming.proofs.SameTurned.{progress-turned, renaming-turned}
use Rattle.wb_runs.proofs.renaming_laws.renamed_runs_follow.Goals as goal

pub returns : goal.returns
returns c = record {
  follows = λ script budget further w p other are. left_to_do-follows budget further script are;
  backwards = λ w p other is same. (renaming-turned w is, progress-turned same);
}
