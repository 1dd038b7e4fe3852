use Rattle.std.proofs.Common.{◌+◌, ◌*◌, length, ap, sym, ◌∙◌}
use Rattle.std.specs.Prelude.{nat_le}
use Rattle.wb_heap_model.specs.Row.{cell_at}
use Rattle.wb_heap_model.specs.CellRow.{payload_of}
use Rattle.wb_machine.specs.RunState.{RunState}
use Rattle.wb_machine.proofs.kept.ObjectFields.{row_stays, no_room, no_object}
use Rattle.wb_machine.proofs.state.State.set_field.Goals as goal

pub returns-then-not-has_words-clause-set : goal.returns-then-not-has_words-clause-set
returns-then-not-has_words-clause-set c =
    let h = c.args.self.now in
    row_stays h c.args.object c.args.index c.args.to (no_room c.args.index c.args.to (cell_at c.args.object h.debug.heap.row)
    (sym (ap (λ (x : RunState). nat_le (4 + 2 * c.args.index) (length (payload_of c.args.object x.debug.heap.row))) c.self.view_is) ∙ sym c.has_words.ensures ∙ c.if-not-has_words.true))

pub returns-in_default-clause-set : goal.returns-in_default-clause-set
returns-in_default-clause-set c =
    let h = c.args.self.now in
    row_stays h c.args.object c.args.index c.args.to (no_object c.args.index c.args.to (cell_at c.args.object h.debug.heap.row) (λ class is. c.in_default.not-Ok class (c.class.ensures ∙ is)))
