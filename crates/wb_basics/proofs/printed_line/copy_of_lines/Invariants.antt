use Rattle.std.proofs.Common.{◌≡◌, take}
use Rattle.wb_basics.proofs.printed_line.copy_of_lines.Given as goal

-- the first lines are copied
abbrev pub invariant-loop-line : goal.invariant-loop-line
invariant-loop-line l = l.items.items ≡ take l.line-index l.line-items
