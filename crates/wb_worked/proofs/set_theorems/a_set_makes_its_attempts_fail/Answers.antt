use Rattle.wb_worked.proofs.WorkedRuns.{none-fails, one-fails, two-fail, three-fail, first-fails, unmade-alone, unmade-after-another, one-is-number, two-are-pair, persistent-is-set, limit-is-set, numbers-ascend}
use Rattle.wb_worked.proofs.set_theorems.a_set_makes_its_attempts_fail.Goals as goal

pub returns : goal.returns
returns c = record {
  none = none-fails;
  one = one-fails;
  two = two-fail;
  three = three-fail;
  first = first-fails;
  unmade = unmade-alone;
  unmade_after = unmade-after-another;
  as_number = one-is-number;
  as_pair = two-are-pair;
  persistent = persistent-is-set;
  limited = limit-is-set;
  ascend = numbers-ascend;
}
