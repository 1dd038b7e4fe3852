-- Proof: put_lines. The lines of the items so far have been appended.
use Rattle.std.proofs.Common.{◌≡◌, ◌++◌, take}
use Rattle.std.specs.List.{flat_map}
use Rattle.workbench.specs.RunText.{print_line}
use Rattle.workbench.proofs.run_text.put_lines.Given as goal

abbrev pub invariant-loop-line : goal.invariant-loop-line
invariant-loop-line l = l.text.items ≡ l.initial.text.items ++ flat_map print_line (take l.line-index l.line-items)
