use Rattle.std.proofs.Common.{◌≡◌, take, false}
use Rattle.std.specs.List.{list_any}
use Rattle.wb_language.specs.Kinds.{is_trap}
use Rattle.wb_script.specs.Building.{line_kinds_of_blocks}
use Rattle.wb_script.proofs.tree.blocks.has_trap.Given as goal

abbrev pub invariant-loop-block : goal.invariant-loop-block
invariant-loop-block l = list_any is_trap (line_kinds_of_blocks (take l.block-index l.blocks)) ≡ false
