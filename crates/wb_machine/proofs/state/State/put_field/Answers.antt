use Rattle.std.proofs.Common.{subst, sym, ap, ◌∙◌}
use Rattle.wb_heap_model.specs.Row.{cell_at}
use Rattle.wb_heap_model.specs.CellRow.{payload_of}
use Rattle.wb_heap_model.specs.Debug.{Debug, debug_changed}
use Rattle.wb_objects.specs.Objects.{with_field}
use Rattle.wb_machine.specs.Bodies.{class_read}
use Rattle.wb_machine.specs.RunState.{RunState}
use Rattle.wb_machine.specs.TextInvariant.{AreTexts}
use Rattle.wb_machine.proofs.kept.ObjectFields.{object_there, field_put}
use Rattle.wb_machine.proofs.kept.StackBeside.{becomes, field_beside}
use Rattle.wb_machine.proofs.kept.TextInvariant.{texts_with_field}
use Rattle.wb_machine.proofs.state.State.put_field.Goals as goal

pub invariant_of-self : goal.invariant_of-self
invariant_of-self c =
    let d = c.self.inside.heap in
    let p = c.args.object in
    let there = object_there (cell_at p d.heap.row) c.args.class (ap (λ (x : RunState). class_read x p) c.self.view_is ∙ c.requires.class) in
    let put = field_put d c.set_field.new.heap p c.args.to c.args.class c.args.index there.0 there.1 there.2 c.set_field.ensures.changed in
    record {
      sound = c.set_field.ensures.sound;
      texts = subst (λ (x : Debug). AreTexts x.heap.row) (sym put) (texts_with_field p _ d.heap.row there.0 c.args.class there.1 there.2 c.self.invariant.texts);
      stands = (field_beside c.self.inside.cleanup d c.set_field.new.heap p _ there.0 c.args.class c.self.invariant.stands there.1 there.2 put).stands;
    }

pub returns-clause-put : goal.returns-clause-put
returns-clause-put c =
    let d = c.self.inside.heap in
    let p = c.args.object in
    let there = object_there (cell_at p d.heap.row) c.args.class (ap (λ (x : RunState). class_read x p) c.self.view_is ∙ c.requires.class) in
    let put = field_put d c.set_field.new.heap p c.args.to c.args.class c.args.index there.0 there.1 there.2 c.set_field.ensures.changed in
    becomes c.self.inside c.args.self.now c.set_field.new.heap (λ x. debug_changed x p (with_field c.args.index c.args.to (payload_of p x.heap.row))) c.self.view_is
    (field_beside c.self.inside.cleanup d c.set_field.new.heap p _ there.0 c.args.class c.self.invariant.stands there.1 there.2 put) put
