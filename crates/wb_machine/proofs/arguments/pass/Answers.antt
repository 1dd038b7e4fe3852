use Rattle.std.proofs.Common.{◌≡◌, ◌++◌, map, take, drop, length, ap, ◌∙◌, sym, arith, List, get_or}
use Rattle.std.proofs.lemmas.List.{length-map, take_all}
use Rattle.std.specs.Prelude.{slice_range}
use Rattle.wb_tree.specs.declared.script.Argument.{Argument}
use Rattle.wb_tree.specs.declared.script.Argument.TheVariants.{Passed}
use Rattle.wb_tree.specs.declared.script.Pointer.TheVariants.{Held}
use Rattle.wb_tree.specs.declared.script.Holder.TheVariants.{Local}
use Rattle.wb_heap_model.specs.Texts.{Buffer}
use Rattle.wb_machine.specs.declared.locals.Stored.{Stored}
use Rattle.wb_meaning.specs.State.{Value}
use Rattle.wb_machine.specs.RunState.{Values}
use Rattle.wb_machine.specs.LocalValues.{value_of, value_stored, values_stored, passed_over}
use Rattle.wb_machine.proofs.frames.Frames.{one_more, frame_below}
use Rattle.wb_machine.proofs.arguments.pass.Goals as goal

pub loop-argument-preserved : goal.loop-argument-preserved
loop-argument-preserved c =
    let before = c.args.slots.now.items in
    let vs : List Buffer → Values = λ bs. values_stored bs before in
    let base = c.args.base in
    let end = c.len-end.result in
    let get : Values → Argument → Value = passed_over c.args.context.script.now c.args.context.heap.now c.args.context.this in
    let i = c.loop-argument.argument-index in
    let first : Argument = Passed (Held (Local 0)) in
    let long : (bs : List Buffer) → length (vs bs) ≡ end = λ bs. length-map before (value_stored bs) ∙ sym c.args.slots.now.ok.0 ∙ sym c.len-end.ensures in
    let frame : (bs : List Buffer) → values_stored bs (slice_range c.deref.result.now base end) ≡ drop base (vs bs) =
    λ bs. ap (λ (xs : List Stored). values_stored bs (slice_range xs base end)) c.deref.ensures.value
    ∙ frame_below (value_stored bs) c.loop-argument.slots.items (vs bs) (map (get (drop base (vs bs))) (take i c.args.arguments.now)) base end
    (c.loop-argument.invariant.0 bs) (long bs) (omega (arith, c.requires, c.len-end.ensures)) in (
      λ bs. one_more (get (drop base (vs bs))) (values_stored bs c.push_slot.new.slots.items) (values_stored bs c.loop-argument.slots.items) (value_of c.argument_slot-slot.result) (vs bs) c.args.arguments.now i first
          (c.in_ok-push_slot.ensures.pushed bs) (c.loop-argument.invariant.0 bs)
          (c.argument_slot-slot.ensures bs ∙ ap (λ (locals : Values). get locals (get_or c.args.arguments.now i first)) (frame bs)) c.loop-argument-test.true,
      λ e h. c.in_ok-push_slot.ensures.ascending e (c.loop-argument.invariant.1 e h),
      omega (arith, c.loop-argument.invariant.2, c.in_ok-push_slot.ensures.more),
    )

pub returns-clause-passed : goal.returns-clause-passed
returns-clause-passed c bs =
    let vs = values_stored bs c.args.slots.now.items in
    let get = passed_over c.args.context.script.now c.args.context.heap.now c.args.context.this (drop c.args.base vs) in
    c.loop-argument.invariant.0 bs ∙ ap (λ (given : List Argument). vs ++ map get given) (take_all c.loop-argument.argument-index c.args.arguments.now c.loop-argument-test.false)
