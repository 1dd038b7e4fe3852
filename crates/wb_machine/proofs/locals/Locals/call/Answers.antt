use Rattle.std.proofs.Common.{arith, ap, ◌∙◌, sym, drop, ◌++◌, map}
use Rattle.std.proofs.lemmas.List.{length-map}
use Rattle.wb_meaning.specs.State.{initial}
use Rattle.wb_machine.specs.RunState.{Values}
use Rattle.wb_machine.specs.LocalValues.{Frames, value_stored, values_stored, values_over}
use Rattle.wb_machine.proofs.frames.Frames.{frame_added}
use Rattle.wb_machine.proofs.locals.Locals.call.Goals as goal

pub invariant_of-self-2 : goal.invariant_of-self-2
invariant_of-self-2 c = record {
  frame = omega (arith, c.len-top.ensures, c.hand.ensures.more, c.declare.ensures.more);
  buffers = c.declare.ensures.ascending;
  none = c.self.invariant.none;
}

pub returns-clause-frames : goal.returns-clause-frames
returns-clause-frames c =
    let inside = c.self.inside in
    let bs = inside.buffers.items in
    let old = values_stored bs inside.slots.items in
    let script = c.args.context.script.now in
    let heap = c.args.context.heap.now in
    let declared = map initial c.args.locals.now in
    let given : Values → Values = λ vs. values_over script heap c.args.context.this vs c.args.call_arguments in
    frame_added old (values_stored c.declare.new.buffers.items c.declare.new.slots.items) (given (drop inside.base old)) declared inside.base c.len-top.result c.args.self.now c.self.view_is
    (c.len-top.ensures ∙ inside.slots.ok.0 ∙ sym (length-map inside.slots.items (value_stored bs)))
    (c.in_ok-declare.ensures.declared ∙ ap (λ (vs : Values). vs ++ declared) (c.in_ok-hand.ensures.call_arguments bs))
    ∙ ap (λ (w : Frames). record { callers = c.args.self.now.callers ++ c.args.self.now.locals; locals = given w.locals ++ declared }) c.self.view_is
