use Rattle.wb_answers.proofs.LengthsAnswered.{heap-length}
use Rattle.wb_answers.proofs.answer_laws.every_script_has_a_required_length.Goals as goal

pub returns : goal.returns
returns c = heap-length
