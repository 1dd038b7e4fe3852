use Rattle.std.proofs.Common.{◌≡◌, ◌+◌, ◌≤◌, drop, length}
use Rattle.std.specs.List.{flat_map}
use Rattle.wb_language.specs.Names.{parameter_type_of}
use Rattle.wb_lines.specs.BytesOf.{bytes_of_operands}
use Rattle.wb_script.proofs.checks.limits.parameter_count.Given as goal

abbrev pub invariant-loop-operand : goal.invariant-loop-operand
invariant-loop-operand l = record {
  within : l.count ≤ l.operand-index;
  so_far : l.count + length (flat_map parameter_type_of (bytes_of_operands (drop l.operand-index l.operands))) ≡ length (flat_map parameter_type_of (bytes_of_operands l.operands));
}
