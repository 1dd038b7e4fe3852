use Rattle.wb_meaning.proofs.QuietRuns.{items_destroyed, object_destroyed}
use Rattle.wb_runs.proofs.laws.destructions_never_leave.Goals as goal

pub returns-clause-items : goal.returns-clause-items
returns-clause-items c = items_destroyed

pub returns-clause-object : goal.returns-clause-object
returns-clause-object c = object_destroyed
