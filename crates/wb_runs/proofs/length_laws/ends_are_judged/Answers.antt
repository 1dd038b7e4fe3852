use Rattle.wb_runs.proofs.LengthTables.{bad-end, cut-end}
use Rattle.wb_runs.proofs.length_laws.ends_are_judged.Goals as goal

pub returns : goal.returns
returns c = record { bad = bad-end; cut = cut-end }
