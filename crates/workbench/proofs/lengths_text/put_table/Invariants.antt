-- Proof: put_table. The lines of the ranges so far have been appended.
use Rattle.std.proofs.Common.{◌≡◌, ◌++◌, take}
use Rattle.std.specs.List.{flat_map}
use Rattle.workbench.specs.LengthsReport.{range_line}
use Rattle.workbench.proofs.lengths_text.put_table.Given as goal

abbrev pub invariant-loop-range : goal.invariant-loop-range
invariant-loop-range l = l.text.items ≡ l.initial.text.items ++ flat_map range_line (take l.range-index l.range-items)
