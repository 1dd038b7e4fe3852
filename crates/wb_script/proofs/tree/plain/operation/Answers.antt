use Rattle.std.proofs.Common.{◌<◌, subst, arith}
use Rattle.wb_tree.specs.declared.script_lines.ItemKind.TheVariants as kind
use Rattle.wb_script.proofs.names.Indexes.{index_fits}
use Rattle.wb_script.proofs.tree.plain.operation.Goals as goal

pub overflow_cast-result : goal.overflow_cast-result
overflow_cast-result c = omega (arith, index_fits kind.Operation c.args.items.now c.in-Name-Operation.index c.requires (subst (λ n. c.in-Name-Operation.index < n) c.operation_count.ensures c.if-index-operation_count.true))
