use Rattle.wb_runs.proofs.EverySetAnswers.{every-set-together, once-of-every-set}
use Rattle.wb_runs.proofs.every_set_laws.parts_of_every_set_have_one_answer.Goals as goal

pub returns : goal.returns
returns c = record {
  one = once-of-every-set;
  least = λ part next both script budget shape answer another are. every-set-together part next both script budget shape are answer another;
}
