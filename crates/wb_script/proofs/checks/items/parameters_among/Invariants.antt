use Rattle.std.proofs.Common.{◌≡◌, ◌++◌, drop, map}
use Rattle.std.specs.List.{flat_map}
use Rattle.wb_language.specs.Forms.{renamed_parameter_type}
use Rattle.wb_language.specs.Names.{parameter_type_of}
use Rattle.wb_lines.specs.BytesOf.{bytes_of_operands, bytes_of_text}
use Rattle.wb_script.proofs.checks.items.parameters_among.Given as goal

abbrev pub invariant-loop-operand : goal.invariant-loop-operand
invariant-loop-operand l = map (renamed_parameter_type bytes_of_text) l.found.items ++ flat_map parameter_type_of (bytes_of_operands (drop l.operand-index l.operands)) ≡ flat_map parameter_type_of (bytes_of_operands l.operands)
