-- Proof: put_table. The lines of the rises so far have been appended, and those to come begin at the last top.
use Rattle.std.proofs.Common.{◌≡◌, ◌++◌, drop}
use Rattle.workbench.specs.TwoNumbers.{table_text}
use Rattle.workbench.proofs.numbers_text.put_table.Given as goal

abbrev pub invariant-loop-rise : goal.invariant-loop-rise
invariant-loop-rise l = l.text.items ++ table_text l.from (drop l.rise-index l.rises) ≡ l.initial.text.items ++ table_text 0 l.rises
