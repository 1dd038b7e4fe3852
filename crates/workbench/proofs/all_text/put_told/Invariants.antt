-- Proof: put_told. The lines of the numbers so far have been appended.
use Rattle.std.proofs.Common.{◌≡◌, ◌++◌, take}
use Rattle.std.specs.List.{flat_map}
use Rattle.workbench.specs.AllReport.{told_line}
use Rattle.workbench.proofs.all_text.put_told.Given as goal

abbrev pub invariant-loop-told : goal.invariant-loop-told
invariant-loop-told l = l.text.items ≡ l.initial.text.items ++ flat_map (told_line l.failures) (take l.told-index l.ends)
