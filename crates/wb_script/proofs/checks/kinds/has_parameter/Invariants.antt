use Rattle.std.proofs.Common.{◌≡◌, drop}
use Rattle.std.specs.List.{flat_map}
use Rattle.wb_language.specs.Kinds.{is_nothing}
use Rattle.wb_language.specs.Names.{parameter_type_of}
use Rattle.wb_lines.specs.BytesOf.{bytes_of_operands}
use Rattle.wb_script.proofs.checks.kinds.has_parameter.Given as goal

abbrev pub invariant-loop-operand : goal.invariant-loop-operand
invariant-loop-operand l = is_nothing (flat_map parameter_type_of (bytes_of_operands (drop l.operand-index l.operands))) ≡ is_nothing (flat_map parameter_type_of (bytes_of_operands l.operands))
