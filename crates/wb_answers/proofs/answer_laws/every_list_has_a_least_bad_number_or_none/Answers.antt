use Rattle.wb_answers.proofs.LengthsAnswered.{bad-number}
use Rattle.wb_answers.proofs.answer_laws.every_list_has_a_least_bad_number_or_none.Goals as goal

pub returns : goal.returns
returns c = bad-number
