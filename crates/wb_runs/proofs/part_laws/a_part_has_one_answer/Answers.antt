use Rattle.wb_runs.proofs.OneAnswer.{once-of-part}
use Rattle.wb_runs.proofs.part_laws.a_part_has_one_answer.Goals as goal

pub returns : goal.returns
returns c = record { one = once-of-part }
