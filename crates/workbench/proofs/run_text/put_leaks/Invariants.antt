-- Proof: put_leaks. The lines of the items so far have been appended.
use Rattle.std.proofs.Common.{◌≡◌, ◌++◌, take}
use Rattle.std.specs.List.{flat_map}
use Rattle.workbench.specs.RunText.{leak_line}
use Rattle.workbench.proofs.run_text.put_leaks.Given as goal

abbrev pub invariant-loop-leak : goal.invariant-loop-leak
invariant-loop-leak l = l.text.items ≡ l.initial.text.items ++ flat_map leak_line (take l.leak-index l.leak-items)
