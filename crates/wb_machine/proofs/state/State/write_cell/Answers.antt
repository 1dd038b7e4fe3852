use Rattle.std.proofs.Common.{ap, sym, ◌∙◌}
use Rattle.wb_heap_model.specs.declared.text.Base.TheVariants as B
use Rattle.wb_heap_model.specs.declared.text.View.{View}
use Rattle.wb_hbuf.specs.Sources.{edit_text}
use Rattle.wb_machine.specs.TextOperands.{base_max, base_text, window_units}
use Rattle.wb_machine.proofs.kept.TextInvariant.{same_units, cell_written}
use Rattle.wb_machine.proofs.state.State.write_cell.Goals as goal

pub returns-then-is_same_base-clause-written : goal.returns-then-is_same_base-clause-written
returns-then-is_same_base-clause-written c =
    let h = c.args.self.now in
    let to = B.Cell c.args.ptr in
    let literals = c.args.script.now.literals in
    let v = c.view-view.result in
    let same = sym (same_units literals h c.args.ptr v (sym c.is_same_base.ensures ∙ c.if-is_same_base.true)) ∙ ap (λ (x : View). window_units literals h x) c.view-view.ensures.view in
    cell_written h c.edit_cell.new.self c.args.ptr _ _ c.edit_cell.result c.ending_of.result (ap (edit_text c.args.change (base_max h to) (base_text literals h to)) same) c.edit_cell.ensures.answer c.ending_of.ensures
    c.edit_cell.ensures.changed c.edit_cell.ensures.now
