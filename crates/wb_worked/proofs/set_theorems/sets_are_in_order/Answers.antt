use Rattle.wb_worked.proofs.WorkedOrder.{empty-first, one-number, first-of-two, second-of-two, first-of-three, second-of-three, third-of-three, one-before-two, two-before-three, not-before-itself, no-number-tells}
use Rattle.wb_worked.proofs.set_theorems.sets_are_in_order.Goals as goal

pub returns : goal.returns
returns c = record {
  empty = empty-first;
  one = one-number;
  first_of_two = first-of-two;
  second_of_two = second-of-two;
  first_of_three = first-of-three;
  second_of_three = second-of-three;
  third_of_three = third-of-three;
  one_before_two = one-before-two;
  two_before_three = two-before-three;
  itself = not-before-itself;
  no_number = no-number-tells;
}
