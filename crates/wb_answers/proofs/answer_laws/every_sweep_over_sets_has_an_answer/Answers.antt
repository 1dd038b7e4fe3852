use Rattle.wb_answers.proofs.SetsAnswered.{every-set-answer, set-answer, whole-every-set-answer, whole-set-answer}
use Rattle.wb_answers.proofs.answer_laws.every_sweep_over_sets_has_an_answer.Goals as goal

pub returns : goal.returns
returns c = record {
  part = λ part most script budget shape. set-answer script budget shape part most;
  whole = λ most script budget shape. whole-set-answer script budget shape most;
  every_part = λ part script budget shape. every-set-answer script budget shape part;
  every = whole-every-set-answer;
}
