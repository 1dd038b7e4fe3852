use Rattle.std.proofs.Common.{sym, ◌∙◌}
use Rattle.wb_machine.specs.RunState.{field_count}
use Rattle.wb_machine.proofs.kept.ObjectFields.{field_absent}
use Rattle.wb_machine.proofs.pointers.field_over.Goals as goal

pub returns-then-not-has_words : goal.returns-then-not-has_words
returns-then-not-has_words c =
    field_absent (field_count c.args.script.now c.args.class) c.args.index c.args.class c.args.object c.args.heap.now (sym c.has_words.ensures ∙ c.if-not-has_words.true)
