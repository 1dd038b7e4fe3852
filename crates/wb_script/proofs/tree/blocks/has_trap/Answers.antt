use Rattle.std.proofs.Common.{sym, ap, ◌∙◌}
use Rattle.wb_language.specs.Kinds.{is_trap}
use Rattle.wb_script.specs.Building.{head_line_kind}
use Rattle.wb_script.proofs.building.Nests.{trap_found}
use Rattle.wb_script.proofs.tree.blocks.has_trap.Goals as goal

pub returns-then-is_trap_block : goal.returns-then-is_trap_block
returns-then-is_trap_block c =
    sym (trap_found c.args.blocks.now c.loop-block.block-index c.block-item.result c.loop-block-test.true (ap (λ b. is_trap (head_line_kind b.head)) (sym c.block-item.is) ∙ sym c.is_trap_block.ensures ∙ c.if-is_trap_block.true))
