use Rattle.wb_meaning.proofs.ThroughoutLemmas.{run-prints}
use Rattle.wb_runs.proofs.laws.printed_lines_are_ascii.Goals as goal

pub returns : goal.returns
returns c = run-prints
