use Rattle.wb_worked.proofs.WorkedSweeps.{none-below, found-at-three, no-pair-at-three, none-past, found-at-two, no-pair-at-two, found-from-three, shorter-is-less, whole-finds-shorter}
use Rattle.wb_worked.proofs.set_theorems.parts_find_their_sets.Goals as goal

pub returns : goal.returns
returns c = record {
  none_below = none-below;
  at_three = found-at-three;
  no_pair_at_three = no-pair-at-three;
  none_past = none-past;
  at_two = found-at-two;
  no_pair_at_two = no-pair-at-two;
  from_three = found-from-three;
  shorter = shorter-is-less;
  whole = whole-finds-shorter;
}
