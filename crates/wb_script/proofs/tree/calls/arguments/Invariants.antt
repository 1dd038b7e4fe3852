use Rattle.std.proofs.Common.{◌≡◌, ◌≤◌, List, length, map, take, Some, IsTrue}
use Rattle.wb_language.specs.Names as model
use Rattle.wb_tree.specs.Sound.{are_passed}
use Rattle.wb_language.specs.Trees.{all_spelled}
use Rattle.wb_tree.specs.Spellings.{argument_operand}
use Rattle.wb_script.specs.Stated.{bytes_of_parameter, scope_in}
use Rattle.wb_script.proofs.tree.calls.arguments.Given as goal

abbrev pub invariant-loop-operand : goal.invariant-loop-operand
invariant-loop-operand l = record {
  count : length l.given ≡ l.operand-index;
  within : l.operand-index ≤ length l.parameters;
  spelled : all_spelled (map argument_operand l.given) ≡ Some (take l.operand-index l.operands);
  passed : (items : List model.Declaration) → IsTrue (are_passed (scope_in l.here) (map (bytes_of_parameter items) (take l.operand-index l.parameters)) l.given);
}
