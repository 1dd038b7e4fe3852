use Rattle.std.proofs.Common.{sym, subst}
use Rattle.wb_heap_model.specs.Texts.{Buffer}
use Rattle.wb_renaming.specs.SameButNumbers.{IsSameValue, same_buffer}
use Rattle.wb_machine.specs.declared.locals.Stored.{Stored}
use Rattle.wb_machine.specs.LocalValues.{no_buffer, value_of_buffer, value_stored}
use Rattle.wb_machine.proofs.likeness.GrownMaps.{by-both}
use Rattle.wb_machine.proofs.likeness.ItemsAlike.{index-of}
use Rattle.wb_machine.proofs.locals.same.same_stored.Goals as goal

pub returns-in-Some-Some-clause-same : goal.returns-in-Some-Some-clause-same
returns-in-Some-Some-clause-same c e =
    let names = c.args.names.now.names in
    let bs = c.args.buffers.now in
    let ds = c.args.other_buffers.now in
    let w = c.in-Buffer-Buffer in
    let s = c.in-Some-Some in
    let one = index-of w.index.at bs s.buf.now no_buffer s.ensures in
    let other = index-of w.other.at ds s.other.now no_buffer s.ensures' in
    by-both (λ (x y : Stored). IsSameValue names (value_stored bs x) (value_stored ds y)) w.is-0 w.is-1
    (by-both (λ (x y : Buffer). IsSameValue names (value_of_buffer x) (value_of_buffer y)) one other
    (subst (λ (y : Buffer). IsSameValue names (value_of_buffer s.buf.now) (value_of_buffer y)) (sym (c.same_buffer.ensures e)) (same_buffer s.buf.now.max s.buf.now.units)))
