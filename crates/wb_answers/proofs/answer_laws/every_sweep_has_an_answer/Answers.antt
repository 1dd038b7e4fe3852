use Rattle.wb_answers.proofs.SweepsAnswered.{sweep-answer, whole-sweep-answer}
use Rattle.wb_answers.proofs.answer_laws.every_sweep_has_an_answer.Goals as goal

pub returns : goal.returns
returns c = record { part = sweep-answer; whole = whole-sweep-answer }
