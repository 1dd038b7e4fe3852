use Rattle.std.proofs.Common.{◌≡◌, ◌++◌, drop, map}
use Rattle.std.specs.List.{flat_map}
use Rattle.wb_language.specs.Names.{kind_of_parameter, parameter_type_of, name_passed}
use Rattle.wb_script.specs.Checks.{AreSameItems}
use Rattle.wb_lines.specs.BytesOf.{bytes_of_kind, bytes_of_texts, bytes_of_operands}
use Rattle.wb_script.proofs.checks.names_so_far.NamesSoFar.add_parameters.Given as goal

abbrev pub invariant-loop-operand : goal.invariant-loop-operand
invariant-loop-operand l = record {
  names : bytes_of_texts l.self.locals.items ++ flat_map name_passed (bytes_of_operands (drop l.operand-index l.operands)) ≡ bytes_of_texts l.initial.self.locals.items ++ flat_map name_passed (bytes_of_operands l.operands);
  kinds : map bytes_of_kind l.self.kinds.items ++ map kind_of_parameter (flat_map parameter_type_of (bytes_of_operands (drop l.operand-index l.operands))) ≡ map bytes_of_kind l.initial.self.kinds.items ++ map kind_of_parameter (flat_map parameter_type_of (bytes_of_operands l.operands));
  items : AreSameItems l.initial.self l.self;
  others : (l.self.fields ≡ l.initial.self.fields) × (l.self.literals ≡ l.initial.self.literals) × (l.self.blocks ≡ l.initial.self.blocks);
}
