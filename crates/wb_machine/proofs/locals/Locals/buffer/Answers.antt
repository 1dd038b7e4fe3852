use Rattle.std.proofs.Common.{◌≡◌, ◌+◌, arith, ap, ◌∙◌, sym, List, vec_len}
use Rattle.std.proofs.lemmas.List.{get_or_default}
use Rattle.wb_meaning.specs.State.{Value}
use Rattle.wb_machine.specs.declared.locals.Stored.{Stored}
use Rattle.wb_machine.specs.declared.locals.Stored.TheVariants.{Small, Buffer}
use Rattle.wb_machine.specs.LocalValues.{buffer_in, no_buffer, stored_at, value_stored}
use Rattle.wb_machine.proofs.frames.Buffers.{not_past, read_stored, small_reads}
use Rattle.wb_machine.proofs.locals.Locals.buffer.Goals as goal

pub index-requires : goal.index-requires
index-requires c =
    let inside = c.self.inside in
    let at = inside.base + c.args.index in
    let there : stored_at inside.slots.items at ≡ Buffer c.in-Buffer.place = ap (λ (xs : List Stored). stored_at xs at) (sym c.deref.ensures.value) ∙ sym c.stored_at.ensures ∙ c.in-Buffer.is in
    not_past 0 (vec_len inside.buffers) at inside.slots.items c.in-Buffer.place c.self.invariant.buffers there

pub returns-in-Buffer : goal.returns-in-Buffer
returns-in-Buffer c =
    let inside = c.self.inside in
    let bs = inside.buffers.items in
    let place = c.in-Buffer.place in
    let at = inside.base + c.args.index in
    let there : stored_at inside.slots.items at ≡ Buffer place = ap (λ (xs : List Stored). stored_at xs at) (sym c.deref.ensures.value) ∙ sym c.stored_at.ensures ∙ c.in-Buffer.is in
    let within = not_past 0 (vec_len inside.buffers) at inside.slots.items place c.self.invariant.buffers there in
    c.index.ensures ∙ get_or_default bs place.at c.index.result.now no_buffer (omega (arith, within, inside.buffers.ok.0))
    ∙ sym (ap (λ (v : Value). buffer_in v) (read_stored bs inside.slots.items inside.base c.args.index c.args.self.now c.self.view_is ∙ ap (value_stored bs) there))

pub returns-in-Small : goal.returns-in-Small
returns-in-Small c =
    let inside = c.self.inside in
    let bs = inside.buffers.items in
    let at = inside.base + c.args.index in
    let there : stored_at inside.slots.items at ≡ Small c.in-Small.field-0 = ap (λ (xs : List Stored). stored_at xs at) (sym c.deref.ensures.value) ∙ sym c.stored_at.ensures ∙ c.in-Small.is in
    c.self.invariant.none
    ∙ sym (ap (λ (v : Value). buffer_in v) (read_stored bs inside.slots.items inside.base c.args.index c.args.self.now c.self.view_is ∙ ap (value_stored bs) there) ∙ small_reads c.in-Small.field-0)
