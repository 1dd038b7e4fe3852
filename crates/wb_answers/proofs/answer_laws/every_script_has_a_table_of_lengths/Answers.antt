use Rattle.wb_answers.proofs.LengthsAnswered.{bad-length, cut-length, length-table}
use Rattle.wb_answers.proofs.answer_laws.every_script_has_a_table_of_lengths.Goals as goal

pub returns : goal.returns
returns c = record { table = length-table; bad = bad-length; cut = cut-length }
