use Rattle.wb_objects.proofs.Cells.{field-found, field-of-object}
use Rattle.wb_objects.proofs.objects.field.Goals as goal

pub returns-clause-answer : goal.returns-clause-answer
returns-clause-answer c =
    field-found c.args.heap.now c.args.ptr c.args.class c.args.i c.word_of_field-at.result c.payload.result c.payload-2.result c.in_ok-expect_class.ensures.answer c.requires
    c.word_of_field-at.ensures c.payload.ensures c.payload-2.ensures

pub returns-clause-among : goal.returns-clause-among
returns-clause-among c =
    field-of-object c.args.heap.now c.args.ptr _ c.args.class c.args.i c.in_ok-expect_class.ensures.answer c.requires (returns-clause-answer c)
