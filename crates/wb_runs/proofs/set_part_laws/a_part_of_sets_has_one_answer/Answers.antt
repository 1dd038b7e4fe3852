use Rattle.wb_runs.proofs.OneSetAnswer.{once-of-sets}
use Rattle.wb_runs.proofs.set_part_laws.a_part_of_sets_has_one_answer.Goals as goal

pub returns : goal.returns
returns c = record { one = once-of-sets }
