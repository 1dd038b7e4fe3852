use Rattle.wb_heap_model.proofs.Settings.{next_due, each_due}
use Rattle.wb_runs.proofs.laws.settings_refuse.Goals as goal

pub returns-clause-next : goal.returns-clause-next
returns-clause-next c = next_due

pub returns-clause-every : goal.returns-clause-every
returns-clause-every c = each_due
