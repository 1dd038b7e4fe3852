use Rattle.wb_runs.proofs.SetPartAnswers.{whole-set-cut, whole-set-found, whole-set-none}
use Rattle.wb_runs.proofs.set_part_laws.a_whole_part_has_all_sets.Goals as goal

pub returns : goal.returns
returns c = record { found = whole-set-found; cut = whole-set-cut; none = whole-set-none }
