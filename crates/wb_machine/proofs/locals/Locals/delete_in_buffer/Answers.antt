use Rattle.std.proofs.Common.{◌≡◌, ◌+◌, arith, ap, ◌∙◌, sym, List, vec_len}
use Rattle.std.proofs.lemmas.List.{get_or_default}
use Rattle.wb_heap_model.specs.Texts.{Buffer, delete_text, answer_of}
use Rattle.wb_machine.specs.declared.locals.Stored.{Stored}
use Rattle.wb_machine.specs.declared.locals.Stored.TheVariants as T
use Rattle.wb_machine.specs.LocalValues.{no_buffer, stored_at}
use Rattle.wb_machine.proofs.frames.Buffers.{not_past}
use Rattle.wb_machine.proofs.frames.EditedBuffers.{held, edited_in_place}
use Rattle.wb_machine.proofs.locals.Locals.delete_in_buffer.Goals as goal

pub index_mut-requires : goal.index_mut-requires
index_mut-requires c =
    let inside = c.self.inside in
    let at = inside.base + c.args.index in
    let there : stored_at inside.slots.items at ≡ T.Buffer c.in-Buffer.place = ap (λ (xs : List Stored). stored_at xs at) (sym c.deref.ensures.value) ∙ sym c.stored_at.ensures ∙ c.in-Buffer.is in
    not_past 0 (vec_len inside.buffers) at inside.slots.items c.in-Buffer.place c.self.invariant.buffers there

pub returns-in-Buffer-clause-answer : goal.returns-in-Buffer-clause-answer
returns-in-Buffer-clause-answer c =
    let inside = c.self.inside in
    let bs = inside.buffers.items in
    let place = c.in-Buffer.place in
    let at = inside.base + c.args.index in
    let there : stored_at inside.slots.items at ≡ T.Buffer place = ap (λ (xs : List Stored). stored_at xs at) (sym c.deref.ensures.value) ∙ sym c.stored_at.ensures ∙ c.in-Buffer.is in
    let within = not_past 0 (vec_len inside.buffers) at inside.slots.items place c.self.invariant.buffers there in
    let lent = c.index_mut.ensures.value ∙ get_or_default bs place.at c.index_mut.result.now no_buffer (omega (arith, within, inside.buffers.ok.0)) in
    c.delete.ensures.answer
    ∙ ap (λ (b : Buffer). answer_of (delete_text b.units c.args.position c.args.count)) (lent ∙ sym (held bs inside.slots.items inside.base c.args.index (vec_len inside.buffers) c.args.self.now place c.self.view_is there))

pub returns-in-Buffer-clause-locals : goal.returns-in-Buffer-clause-locals
returns-in-Buffer-clause-locals c =
    let inside = c.self.inside in
    let bs = inside.buffers.items in
    let place = c.in-Buffer.place in
    let at = inside.base + c.args.index in
    let there : stored_at inside.slots.items at ≡ T.Buffer place = ap (λ (xs : List Stored). stored_at xs at) (sym c.deref.ensures.value) ∙ sym c.stored_at.ensures ∙ c.in-Buffer.is in
    let within = not_past 0 (vec_len inside.buffers) at inside.slots.items place c.self.invariant.buffers there in
    let lent = c.index_mut.ensures.value ∙ get_or_default bs place.at c.index_mut.result.now no_buffer (omega (arith, within, inside.buffers.ok.0)) in
    edited_in_place bs inside.slots.items inside.base c.args.index (vec_len inside.buffers) c.args.self.now place c.self.view_is there
    (λ (b : Buffer). delete_text b.units c.args.position c.args.count) c.index_mut.result.now c.delete.new.self
    (omega (arith, inside.buffers.ok.0)) c.self.invariant.buffers lent c.delete.ensures.text
