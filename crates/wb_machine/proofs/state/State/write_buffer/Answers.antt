use Rattle.std.proofs.Common.{ap, ◌∙◌}
use Rattle.wb_heap_model.specs.declared.text.View.{View}
use Rattle.wb_meaning.specs.Reading.{buffer_text, max_in}
use Rattle.wb_hbuf.specs.Sources.{edit_text, source_units}
use Rattle.wb_machine.specs.RunState.{RunState, value_in}
use Rattle.wb_machine.specs.TextOperands.{window_units}
use Rattle.wb_machine.proofs.frames.EditedBuffers.{buffer_written}
use Rattle.wb_machine.proofs.state.State.write_buffer.Goals as goal

pub returns-clause-written : goal.returns-clause-written
returns-clause-written c =
    let h = c.args.self.now in
    let i = c.args.index in
    let own = buffer_text (value_in h.locals i) in
    let read = c.source-source.ensures.units own ∙ ap (λ (v : View). window_units c.args.script.now.literals h v) c.view-view.ensures.view in
    let same = ap (λ (x : RunState). edit_text c.args.change (max_in (value_in x.locals i)) (buffer_text (value_in x.locals i)) (source_units x.debug (buffer_text (value_in x.locals i)) c.source-source.result)) c.self.view_is
    ∙ ap (edit_text c.args.change (max_in (value_in h.locals i)) own) read in
    buffer_written c.self.inside h i c.edit_buffer.new.self _ _ c.edit_buffer.result c.ending_of.result c.self.view_is same
    c.edit_buffer.ensures.locals c.edit_buffer.ensures.answer c.ending_of.ensures
