use Rattle.wb_meaning.proofs.ThroughoutLemmas.{process-tells}
use Rattle.wb_meaning.proofs.TraceLemmas.{run-lines, run-numbered}
use Rattle.wb_runs.proofs.laws.lines_are_answered.Goals as goal

pub returns-clause-lines : goal.returns-clause-lines
returns-clause-lines c = run-lines

pub returns-clause-numbered : goal.returns-clause-numbered
returns-clause-numbered c = run-numbered

pub returns-clause-settings : goal.returns-clause-settings
returns-clause-settings c = process-tells
