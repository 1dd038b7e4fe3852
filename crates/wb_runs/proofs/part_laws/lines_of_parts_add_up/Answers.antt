use Rattle.wb_runs.proofs.PartLines.{bad-more, lines-in-a-row}
use Rattle.wb_runs.proofs.part_laws.lines_of_parts_add_up.Goals as goal

pub returns : goal.returns
returns c = record { lines = lines-in-a-row; bad = bad-more }
