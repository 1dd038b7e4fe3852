-- Proof: put_numbers. The numbers so far have been appended.
use Rattle.std.proofs.Common.{◌≡◌, ◌++◌, take}
use Rattle.std.specs.List.{flat_map}
use Rattle.workbench.specs.TwoNumbers.{spaced}
use Rattle.workbench.proofs.numbers_text.put_numbers.Given as goal

abbrev pub invariant-loop-number : goal.invariant-loop-number
invariant-loop-number l = l.text.items ≡ l.initial.text.items ++ flat_map spaced (take l.number-index l.number-items)
