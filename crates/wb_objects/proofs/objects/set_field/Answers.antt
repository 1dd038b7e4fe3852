use Rattle.wb_objects.proofs.Cells.{second-word, field-set, fields-set, object-set}
use Rattle.wb_objects.proofs.objects.set_field.Goals as goal

pub set_payload-requires-2 : goal.set_payload-requires-2
set_payload-requires-2 c =
    second-word c.args.heap.now c.set_payload.new.self c.args.ptr c.args.class c.args.i c.word_of_field-at.result c.args.to.place c.in_ok-expect_class.ensures.answer c.requires
    c.word_of_field-at.ensures c.set_payload.ensures.changed

pub returns-clause-changed : goal.returns-clause-changed
returns-clause-changed c =
    field-set c.args.heap.now c.set_payload.new.self c.set_payload-2.new.self c.args.ptr c.args.to c.args.class c.args.i c.word_of_field-at.result
    c.in_ok-expect_class.ensures.answer c.requires c.word_of_field-at.ensures c.set_payload.ensures.changed c.set_payload-2.ensures.changed

pub returns-clause-fields : goal.returns-clause-fields
returns-clause-fields c =
    fields-set c.args.heap.now c.set_payload-2.new.self c.args.ptr c.args.to c.args.class c.args.i c.in_ok-expect_class.ensures.answer c.requires
    (returns-clause-changed c)

pub returns-clause-object : goal.returns-clause-object
returns-clause-object c =
    object-set c.args.heap.now c.set_payload-2.new.self c.args.ptr c.args.to c.args.class c.args.i c.in_ok-expect_class.ensures.answer c.requires
    (returns-clause-changed c)
