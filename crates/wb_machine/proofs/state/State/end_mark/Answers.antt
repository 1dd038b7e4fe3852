use Rattle.wb_heap_model.specs.Heap.{after_mark_end}
use Rattle.wb_machine.proofs.kept.StackBeside.{becomes_ok, mark_ended_beside}
use Rattle.wb_machine.proofs.kept.TextInvariant.{texts_called, texts_lowered}
use Rattle.wb_machine.proofs.state.State.end_mark.Goals as goal

pub invariant_of-self : goal.invariant_of-self
invariant_of-self c =
    let d = c.self.inside.heap in
    let call = c.mark_end in
    record {
      sound = call.ensures.sound;
      texts = texts_called call.result d (record d { heap = after_mark_end d.heap }) call.new.self (texts_lowered d.heap.level d.heap.row c.self.invariant.texts) c.self.invariant.texts
          call.ensures.closed call.ensures.err;
      stands = (mark_ended_beside call.result c.self.inside.cleanup d call.new.self c.self.invariant.stands call.ensures.closed call.ensures.err).stands;
    }

pub returns-clause-closed : goal.returns-clause-closed
returns-clause-closed c =
    let d = c.self.inside.heap in
    let call = c.mark_end in
    becomes_ok call.result c.self.inside c.args.self.now call.new.self (λ x. record x { heap = after_mark_end x.heap }) c.self.view_is
    (mark_ended_beside call.result c.self.inside.cleanup d call.new.self c.self.invariant.stands call.ensures.closed call.ensures.err) call.ensures.closed
