use Rattle.wb_worked.proofs.WorkedSweeps.{three-is-least, three-are-made, lesser-is-fine, larger-is-fine, two-show-nothing, three-show-it}
use Rattle.wb_worked.proofs.set_theorems.three_failures_show_what_two_do_not.Goals as goal

pub returns : goal.returns
returns c = record {
  least = three-is-least;
  made = three-are-made;
  lesser = lesser-is-fine;
  larger = larger-is-fine;
  none_to_two = two-show-nothing;
  not_to_three = three-show-it;
}
