use Rattle.wb_runs.proofs.LengthAnswers.{bad-length-some, once-bad-length}
use Rattle.wb_runs.proofs.length_laws.lengths_answer_once.Goals as goal

pub returns : goal.returns
returns c = record { found = once-bad-length; some = bad-length-some }
