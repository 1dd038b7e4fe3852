use Rattle.wb_runs.proofs.EverySetAnswers.{whole-every-cut, whole-every-found, whole-every-none}
use Rattle.wb_runs.proofs.every_set_laws.a_whole_part_has_every_set.Goals as goal

pub returns : goal.returns
returns c = record { found = whole-every-found; cut = whole-every-cut; none = whole-every-none }
