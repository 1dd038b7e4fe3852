use Rattle.std.proofs.Common.{◌≡◌, drop}
use Rattle.std.specs.List.{list_any}
use Rattle.wb_language.specs.Names.{is_long}
use Rattle.wb_lines.specs.BytesOf.{bytes_of_operands}
use Rattle.wb_script.proofs.checks.limits.any_long.Given as goal

abbrev pub invariant-loop-operand : goal.invariant-loop-operand
invariant-loop-operand l = list_any is_long (bytes_of_operands (drop l.operand-index l.operands)) ≡ list_any is_long (bytes_of_operands l.operands)
