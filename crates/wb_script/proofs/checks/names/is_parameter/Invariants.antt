use Rattle.std.proofs.Common.{◌≡◌, drop}
use Rattle.std.specs.List.{flat_map}
use Rattle.wb_language.specs.Names.{is_among, name_passed}
use Rattle.wb_lines.specs.BytesOf.{bytes_of_operands}
use Rattle.wb_script.proofs.checks.names.is_parameter.Given as goal

abbrev pub invariant-loop-operand : goal.invariant-loop-operand
invariant-loop-operand l = is_among (flat_map name_passed (bytes_of_operands (drop l.operand-index l.operands))) l.name ≡ is_among (flat_map name_passed (bytes_of_operands l.operands)) l.name
