use Rattle.wb_meaning.proofs.ThroughoutLemmas.{process-throughout, run-leaks}
use Rattle.wb_runs.proofs.laws.cells_stay_a_row.Goals as goal

pub returns-clause-throughout : goal.returns-clause-throughout
returns-clause-throughout c = process-throughout

pub returns-clause-leaks : goal.returns-clause-leaks
returns-clause-leaks c = run-leaks
