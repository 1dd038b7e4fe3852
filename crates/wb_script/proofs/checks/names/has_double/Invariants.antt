use Rattle.std.proofs.Common.{◌≡◌, drop}
use Rattle.std.specs.List.{flat_map}
use Rattle.wb_language.specs.Names.{has_double, name_passed}
use Rattle.wb_lines.specs.BytesOf.{bytes_of_operands}
use Rattle.wb_script.proofs.checks.names.has_double.Given as goal

abbrev pub invariant-loop-index : goal.invariant-loop-index
invariant-loop-index l = has_double (flat_map name_passed (bytes_of_operands (drop l.index l.operands))) ≡ has_double (flat_map name_passed (bytes_of_operands l.operands))
