use Rattle.std.proofs.Common.{sym, ap, ◌∙◌, ◌++◌, append-nil}
use Rattle.wb_tree.specs.declared.script_lines.ItemKind.TheVariants as kind
use Rattle.wb_language.specs.Names.{is_same_kind}
use Rattle.wb_script.proofs.counts.FieldCounts.{other_counted}
use Rattle.wb_script.proofs.tree.space.add_count.Goals as goal

pub returns-in-Procedure : goal.returns-in-Procedure
returns-in-Procedure c =
    sym (ap (λ l. c.args.counts.now.items ++ l) (other_counted c.args.item.now (ap (λ k. is_same_kind k kind.Class) c.in-Procedure.is)) ∙ append-nil c.args.counts.now.items)

pub returns-in-Operation : goal.returns-in-Operation
returns-in-Operation c =
    sym (ap (λ l. c.args.counts.now.items ++ l) (other_counted c.args.item.now (ap (λ k. is_same_kind k kind.Class) c.in-Operation.is)) ∙ append-nil c.args.counts.now.items)
