use Rattle.wb_runs.proofs.LengthTables.{last-range, one-table}
use Rattle.wb_runs.proofs.length_laws.tables_are_one.Goals as goal

pub returns : goal.returns
returns c = record { one = one-table; last = last-range }
