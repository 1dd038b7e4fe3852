use Rattle.wb_runs.proofs.PartAnswers.{whole-cut, whole-found, whole-none}
use Rattle.wb_runs.proofs.part_laws.a_whole_part_is_all.Goals as goal

pub returns : goal.returns
returns c = record { found = whole-found; cut = whole-cut; none = whole-none }
