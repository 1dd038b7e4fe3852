use Rattle.std.proofs.Common.{◌≡◌, ◌+◌, arith, ap, ◌∙◌, sym, List, vec_len}
use Rattle.std.specs.Prelude.{slice_set as set}
use Rattle.wb_meaning.specs.Reading.{max_in}
use Rattle.wb_meaning.specs.State.{Value}
use Rattle.wb_machine.specs.declared.locals.Stored.{Stored}
use Rattle.wb_machine.specs.declared.locals.Stored.TheVariants.{Small, Buffer}
use Rattle.wb_machine.specs.LocalValues.{stored_at, value_of_buffer, value_stored, values_stored}
use Rattle.wb_machine.proofs.frames.Frames.{local_set}
use Rattle.wb_machine.proofs.frames.Buffers.{not_past, read_stored, max_reads, no_units, buffer_changed}
use Rattle.wb_machine.proofs.locals.Locals.set_buffer.Goals as goal

pub index_mut-requires : goal.index_mut-requires
index_mut-requires c =
    let inside = c.self.inside in
    let at = inside.base + c.args.index in
    let there : stored_at inside.slots.items at ≡ Buffer c.in-Buffer.place = ap (λ (xs : List Stored). stored_at xs at) (sym c.deref.ensures.value) ∙ sym c.stored_at.ensures ∙ c.in-Buffer.is in
    not_past 0 (vec_len inside.buffers) at inside.slots.items c.in-Buffer.place c.self.invariant.buffers there

pub returns-in-Buffer : goal.returns-in-Buffer
returns-in-Buffer c =
    let inside = c.self.inside in
    let bs = inside.buffers.items in
    let place = c.in-Buffer.place in
    let at = inside.base + c.args.index in
    let there : stored_at inside.slots.items at ≡ Buffer place = ap (λ (xs : List Stored). stored_at xs at) (sym c.deref.ensures.value) ∙ sym c.stored_at.ensures ∙ c.in-Buffer.is in
    local_set (values_stored bs inside.slots.items) (values_stored (set bs place.at c.args.buf) inside.slots.items) inside.base c.args.index (value_of_buffer c.args.buf) c.args.self.now c.self.view_is
    (buffer_changed bs c.args.buf 0 (vec_len inside.buffers) at inside.slots.items place (omega (arith, inside.buffers.ok.0)) c.self.invariant.buffers there)

pub returns-in-Small : goal.returns-in-Small
returns-in-Small c =
    let inside = c.self.inside in
    let bs = inside.buffers.items in
    let at = inside.base + c.args.index in
    let there : stored_at inside.slots.items at ≡ Small c.in-Small.field-0 = ap (λ (xs : List Stored). stored_at xs at) (sym c.deref.ensures.value) ∙ sym c.stored_at.ensures ∙ c.in-Small.is in
    let none : c.args.buf.max ≡ 0 =
    c.requires ∙ ap (λ (v : Value). max_in v) (read_stored bs inside.slots.items inside.base c.args.index c.args.self.now c.self.view_is ∙ ap (value_stored bs) there) ∙ max_reads c.in-Small.field-0 in
    c.set.ensures ∙ ap (λ (v : Value). record c.args.self.now { locals = set c.args.self.now.locals c.args.index v }) (no_units c.args.buf c.max.ensures.holds.fits none)
