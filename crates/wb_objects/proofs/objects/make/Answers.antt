use Rattle.std.proofs.Common.{sym, ap, ◌∙◌}
use Rattle.std.specs.Option.{option_copied}
use Rattle.wb_objects.proofs.Made.{granted, class-word, object-is-made, object-is-new}
use Rattle.wb_objects.proofs.objects.make.Goals as goal

pub set_payload-requires : goal.set_payload-requires
set_payload-requires c =
    class-word _ _ _ _ _
    (granted c.args.heap.now c.attempt_alloc.new.self c.args.script.now c.args.class c.from.result c.bytes_of-bytes.result c.unwrap.result.now c.in_ok-gave.gave c.in-Granted.ptr
    (sym (ap option_copied c.unwrap.ensures) ∙ c.get.ensures) c.from.ensures c.bytes_of-bytes.ensures c.in_ok-gave.ensures.gave c.in-Granted.is c.in_ok-gave.ensures.made
    c.in_ok-gave.ensures.sound)

pub returns-in-Granted-clause-made : goal.returns-in-Granted-clause-made
returns-in-Granted-clause-made c =
    object-is-made c.args.heap.now c.attempt_alloc.new.self c.set_payload.new.self c.args.class c.from-in-Granted.result _ c.in-Granted.ptr
    (granted c.args.heap.now c.attempt_alloc.new.self c.args.script.now c.args.class c.from.result c.bytes_of-bytes.result c.unwrap.result.now c.in_ok-gave.gave c.in-Granted.ptr
    (sym (ap option_copied c.unwrap.ensures) ∙ c.get.ensures) c.from.ensures c.bytes_of-bytes.ensures c.in_ok-gave.ensures.gave c.in-Granted.is c.in_ok-gave.ensures.made
    c.in_ok-gave.ensures.sound)
    c.from-in-Granted.ensures c.set_payload.ensures.changed

pub returns-in-Granted-clause-object : goal.returns-in-Granted-clause-object
returns-in-Granted-clause-object c =
    object-is-new c.args.heap.now c.attempt_alloc.new.self c.set_payload.new.self c.args.class c.from-in-Granted.result _ c.in-Granted.ptr
    (granted c.args.heap.now c.attempt_alloc.new.self c.args.script.now c.args.class c.from.result c.bytes_of-bytes.result c.unwrap.result.now c.in_ok-gave.gave c.in-Granted.ptr
    (sym (ap option_copied c.unwrap.ensures) ∙ c.get.ensures) c.from.ensures c.bytes_of-bytes.ensures c.in_ok-gave.ensures.gave c.in-Granted.is c.in_ok-gave.ensures.made
    c.in_ok-gave.ensures.sound)
    c.from-in-Granted.ensures c.set_payload.ensures.changed
