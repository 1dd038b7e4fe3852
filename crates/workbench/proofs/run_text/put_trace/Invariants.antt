-- Proof: put_trace. The lines of the items so far have been appended.
use Rattle.std.proofs.Common.{◌≡◌, ◌++◌, take}
use Rattle.std.specs.List.{flat_map}
use Rattle.workbench.specs.RunText.{attempt_line}
use Rattle.workbench.proofs.run_text.put_trace.Given as goal

abbrev pub invariant-loop-attempt : goal.invariant-loop-attempt
invariant-loop-attempt l = l.text.items ≡ l.initial.text.items ++ flat_map attempt_line (take l.attempt-index l.attempt-items)
