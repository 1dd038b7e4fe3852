-- Proof: answer. Whatever failed, the status says what went out.
use Rattle.workbench.proofs.AnswerLemmas.{answer_by_status, answer_is_part}
use Rattle.workbench.proofs.answer.answer.Goals as goal

pub returns : goal.returns
returns g c =
    let answered = c.read_and_say.ensures.answer in
    let (bound, report, memory) = answer_by_status _ _ _ _ _ _ _ _ _ _ answered in
    record {
      answer = answered;
      status = bound;
      report = report;
      no_memory = memory;
      nothing_else = answer_is_part _ _ _ _ _ _ _ _ _ _ answered;
      taken = c.read_and_say.ensures.taken;
    }
