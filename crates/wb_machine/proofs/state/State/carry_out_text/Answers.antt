use Rattle.std.proofs.Common.{ap, ◌∙◌}
use Rattle.wb_tree.specs.declared.script.Statement.TheOpen.{Statement-F}
use Rattle.wb_tree.specs.declared.script.Statement.TheViews.{out-Statement, outs-NewText, outs-ReallocText, outs-Copy, outs-Append, outs-Insert, outs-DeleteText, outs-SetLength, outs-Left, outs-Right, outs-Mid, outs-GetLength, outs-GetMaximum, outs-PrintText}
use Rattle.wb_machine.proofs.effects.Outcomes.{if_ok_then}
use Rattle.wb_machine.proofs.effects.TextCellEffects.{new_text_kept, realloc_text_kept}
use Rattle.wb_machine.proofs.effects.TextEffectLemmas.{copy_kept, append_kept, insert_kept, delete_kept, length_set_kept, effect_as}
use Rattle.wb_machine.proofs.effects.ViewEffects.{left_kept, right_kept, mid_kept, length_kept, max_kept, print_kept}
use Rattle.wb_machine.proofs.effects.StatementEffects.{effect_of}
use Rattle.wb_machine.proofs.state.State.carry_out_text.Goals as goal

pub returns-in-NewText-clause-kept : goal.returns-in-NewText-clause-kept
returns-in-NewText-clause-kept c floor =
    let script = c.args.script.now in
    if_ok_then c.new_text.result _ _ c.new_text.ensures.effect (λ ending made.
    effect_of script c.requires.operands (Statement-F.NewText c.in-NewText.target c.in-NewText.units c.in-NewText.refusal) (ap out-Statement c.in-NewText.is ∙ outs-NewText c.in-NewText.target c.in-NewText.units c.in-NewText.refusal) made
    (new_text_kept script c.args.self.now c.in-NewText.target c.in-NewText.units c.in-NewText.refusal))

pub returns-in-ReallocText-clause-kept : goal.returns-in-ReallocText-clause-kept
returns-in-ReallocText-clause-kept c floor =
    let script = c.args.script.now in
    if_ok_then c.realloc_text.result _ _ c.realloc_text.ensures.effect (λ ending made.
    effect_of script c.requires.operands (Statement-F.ReallocText c.in-ReallocText.target c.in-ReallocText.source c.in-ReallocText.units) (ap out-Statement c.in-ReallocText.is ∙ outs-ReallocText c.in-ReallocText.target c.in-ReallocText.source c.in-ReallocText.units) made
    (realloc_text_kept script c.args.self.now c.in-ReallocText.target c.in-ReallocText.source c.in-ReallocText.units c.realloc_text.ensures.texts))

pub returns-in-Copy-clause-kept : goal.returns-in-Copy-clause-kept
returns-in-Copy-clause-kept c floor =
    let script = c.args.script.now in
    effect_as script c.args.self.now c.edit.new.self c.edit.result _ c.requires.operands (Statement-F.Copy c.in-Copy.target c.in-Copy.text)
    (ap out-Statement c.in-Copy.is ∙ outs-Copy c.in-Copy.target c.in-Copy.text) (copy_kept script c.args.self.now c.in-Copy.target c.in-Copy.text c.edit.result c.edit.new.self c.edit.ensures.edited)

pub returns-in-Append-clause-kept : goal.returns-in-Append-clause-kept
returns-in-Append-clause-kept c floor =
    let script = c.args.script.now in
    effect_as script c.args.self.now c.edit-in-Append.new.self c.edit-in-Append.result _ c.requires.operands (Statement-F.Append c.in-Append.target c.in-Append.text)
    (ap out-Statement c.in-Append.is ∙ outs-Append c.in-Append.target c.in-Append.text) (append_kept script c.args.self.now c.in-Append.target c.in-Append.text c.edit-in-Append.result c.edit-in-Append.new.self c.edit-in-Append.ensures.edited)

pub returns-in-Insert-clause-kept : goal.returns-in-Insert-clause-kept
returns-in-Insert-clause-kept c floor =
    let script = c.args.script.now in
    effect_as script c.args.self.now c.insert.new.self c.insert.result _ c.requires.operands (Statement-F.Insert c.in-Insert.target c.in-Insert.position c.in-Insert.text)
    (ap out-Statement c.in-Insert.is ∙ outs-Insert c.in-Insert.target c.in-Insert.position c.in-Insert.text) (insert_kept script c.args.self.now c.in-Insert.target c.in-Insert.position c.in-Insert.text c.insert.result c.insert.new.self c.insert.ensures.inserted)

pub returns-in-DeleteText-clause-kept : goal.returns-in-DeleteText-clause-kept
returns-in-DeleteText-clause-kept c floor =
    let script = c.args.script.now in
    effect_as script c.args.self.now c.delete_text.new.self c.delete_text.result _ c.requires.operands (Statement-F.DeleteText c.in-DeleteText.target c.in-DeleteText.position c.in-DeleteText.count)
    (ap out-Statement c.in-DeleteText.is ∙ outs-DeleteText c.in-DeleteText.target c.in-DeleteText.position c.in-DeleteText.count) (delete_kept script c.args.self.now c.in-DeleteText.target c.in-DeleteText.position c.in-DeleteText.count c.delete_text.result c.delete_text.new.self c.delete_text.ensures.deleted)

pub returns-in-SetLength-clause-kept : goal.returns-in-SetLength-clause-kept
returns-in-SetLength-clause-kept c floor =
    let script = c.args.script.now in
    effect_as script c.args.self.now c.set_length.new.self c.set_length.result _ c.requires.operands (Statement-F.SetLength c.in-SetLength.target c.in-SetLength.length)
    (ap out-Statement c.in-SetLength.is ∙ outs-SetLength c.in-SetLength.target c.in-SetLength.length) (length_set_kept script c.args.self.now c.in-SetLength.target c.in-SetLength.length c.set_length.result c.set_length.new.self c.set_length.ensures.set)

pub returns-in-Left-clause-kept : goal.returns-in-Left-clause-kept
returns-in-Left-clause-kept c floor =
    let script = c.args.script.now in
    effect_of script c.requires.operands (Statement-F.Left c.in-Left.local c.in-Left.text c.in-Left.count) (ap out-Statement c.in-Left.is ∙ outs-Left c.in-Left.local c.in-Left.text c.in-Left.count) c.left.ensures
    (left_kept script c.args.self.now c.in-Left.local c.in-Left.text c.in-Left.count)

pub returns-in-Right-clause-kept : goal.returns-in-Right-clause-kept
returns-in-Right-clause-kept c floor =
    let script = c.args.script.now in
    effect_of script c.requires.operands (Statement-F.Right c.in-Right.local c.in-Right.text c.in-Right.count) (ap out-Statement c.in-Right.is ∙ outs-Right c.in-Right.local c.in-Right.text c.in-Right.count) c.right.ensures
    (right_kept script c.args.self.now c.in-Right.local c.in-Right.text c.in-Right.count)

pub returns-in-Mid-clause-kept : goal.returns-in-Mid-clause-kept
returns-in-Mid-clause-kept c floor =
    let script = c.args.script.now in
    effect_of script c.requires.operands (Statement-F.Mid c.in-Mid.local c.in-Mid.text c.in-Mid.position c.in-Mid.count) (ap out-Statement c.in-Mid.is ∙ outs-Mid c.in-Mid.local c.in-Mid.text c.in-Mid.position c.in-Mid.count) c.mid.ensures
    (mid_kept script c.args.self.now c.in-Mid.local c.in-Mid.text c.in-Mid.position c.in-Mid.count)

pub returns-in-GetLength-clause-kept : goal.returns-in-GetLength-clause-kept
returns-in-GetLength-clause-kept c floor =
    let script = c.args.script.now in
    effect_of script c.requires.operands (Statement-F.GetLength c.in-GetLength.local c.in-GetLength.text) (ap out-Statement c.in-GetLength.is ∙ outs-GetLength c.in-GetLength.local c.in-GetLength.text) c.get_length.ensures
    (length_kept script c.args.self.now c.in-GetLength.local c.in-GetLength.text)

pub returns-in-GetMaximum-clause-kept : goal.returns-in-GetMaximum-clause-kept
returns-in-GetMaximum-clause-kept c floor =
    let script = c.args.script.now in
    effect_of script c.requires.operands (Statement-F.GetMaximum c.in-GetMaximum.local c.in-GetMaximum.target) (ap out-Statement c.in-GetMaximum.is ∙ outs-GetMaximum c.in-GetMaximum.local c.in-GetMaximum.target) c.get_maximum.ensures
    (max_kept script c.args.self.now c.in-GetMaximum.local c.in-GetMaximum.target)

pub returns-in-PrintText-clause-kept : goal.returns-in-PrintText-clause-kept
returns-in-PrintText-clause-kept c floor =
    let script = c.args.script.now in
    if_ok_then c.print_text.result _ _ c.print_text.ensures.effect (λ ending made.
    effect_of script c.requires.operands (Statement-F.PrintText c.in-PrintText.text) (ap out-Statement c.in-PrintText.is ∙ outs-PrintText c.in-PrintText.text) made
    (print_kept script c.args.self.now c.in-PrintText.text))
