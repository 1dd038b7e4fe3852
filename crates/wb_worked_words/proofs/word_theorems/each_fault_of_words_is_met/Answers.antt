use Rattle.wb_worked_words.proofs.WorkedFaults.{is-no-list, is-no-multiple, is-reversed, second-alone, two-rules, unknown-option}
use Rattle.wb_worked_words.proofs.word_theorems.each_fault_of_words_is_met.Goals as goal

pub returns : goal.returns
returns c = record {
  usage = unknown-option;
  no_list = is-no-list;
  both = two-rules;
  also = second-alone;
  shape = is-no-multiple;
  range = is-reversed;
}
