use Rattle.std.proofs.Common.{◌≡◌, drop}
use Rattle.std.specs.List.{list_any}
use Rattle.wb_language.specs.Resolved.{means_nothing}
use Rattle.wb_script.proofs.checks.names.any_nothing.Given as goal

abbrev pub invariant-loop-operand : goal.invariant-loop-operand
invariant-loop-operand l = list_any means_nothing (drop l.operand-index l.operands) ≡ list_any means_nothing l.operands
