use Rattle.wb_runs.proofs.Measures.{first_refused-some, first_refused-none, highest_end-greatest}
use Rattle.wb_runs.proofs.laws.traces_are_measured.Goals as goal

pub returns : goal.returns
returns c = record { refused = first_refused-some; none = first_refused-none; end = highest_end-greatest }
