use Rattle.wb_runs.proofs.EverySetAnswers.{no-length, no-sweep}
use Rattle.wb_runs.proofs.RefusedSets.{fine-by-sets}
use Rattle.wb_runs.proofs.every_set_laws.nothing_shows_where_no_set_does.Goals as goal

pub returns : goal.returns
returns c = record {
  run = fine-by-sets;
  lengths = no-length;
  sweeps = λ failures part script budget shape fine. no-sweep script budget shape fine failures part;
}
