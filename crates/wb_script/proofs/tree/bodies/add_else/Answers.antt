use Rattle.std.proofs.Common.{◌≡◌, ℕ, List, Bool, true, false, length, ◌==◌}
use Rattle.std.specs.Prelude.{IfOk, Result, Ok, Err}
use Rattle.wb_tree.specs.declared.script_lines.Form.TheVariants.{Line}
use Rattle.wb_tree.specs.declared.script_lines.LineKind.TheVariants as line_kind
use Rattle.wb_tree.specs.declared.script_lines.Operand.{Operand}
use Rattle.wb_tree.specs.declared.script_lines.Referent.{Referent}
use Rattle.wb_tree.specs.Sound.{Declared}
use Rattle.wb_script.specs.declared.tree.blocks.BlockStack.{BlockStack}
use Rattle.wb_script.specs.declared.tree.bodies.OpenBody.{OpenBody}
use Rattle.wb_script.specs.declared.tree.bodies.BodyProgress.TheVariants.{Inside}
use Rattle.wb_script.specs.Building.{TurnsToElse}
use Rattle.wb_script.specs.Growing.{AddsWhereFit, IsSoundOpen, declared_in_space, if_added}
use Rattle.wb_script.proofs.building.Additions.{else_adds_where}
use Rattle.wb_script.proofs.tree.bodies.add_else.Goals as goal

turned : {E : Type 0} (declared : Declared) (number : ℕ) (p : OpenBody) (operands : List (Operand Referent)) (next : BlockStack) (result : Result Bool E) → true ≡ (length operands == 0) → IsSoundOpen declared p →
    IfOk result (λ is. TurnsToElse p.block_stack (if_added is next)) →
    IfOk result (λ added. AddsWhereFit declared number (Line line_kind.Else operands) p (if_added added (Inside (record p { block_stack = next }))))
turned declared number p operands next (Ok true) empty sound turn = else_adds_where declared number p operands next empty sound turn
turned declared number p operands next (Ok false) empty sound stuck = λ before fit. stuck
turned declared number p operands next (Err error) empty sound told = tt

pub returns : goal.returns
returns c =
    turned (declared_in_space c.args.space) c.args.number c.args.body.now c.args.operands.now c.turn_to_else.new.block_stack c.turn_to_else.result c.if-not-is_empty.ensures c.requires c.turn_to_else.ensures
