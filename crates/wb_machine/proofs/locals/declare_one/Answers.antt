use Rattle.std.proofs.Common.{arith, ap, ◌∙◌, subst, sym, List, [], ◌∷◌, ◌++◌, vec_len}
use Rattle.wb_heap_model.specs.Texts.{Buffer}
use Rattle.wb_machine.specs.LocalValues.{AreAscending, values_stored, value_of_buffer}
use Rattle.wb_machine.specs.declared.locals.Stored.{Stored}
use Rattle.wb_machine.proofs.frames.Buffers.{wider, buffer_pushed, buffer_declared}
use Rattle.wb_machine.proofs.locals.declare_one.Goals as goal

pub returns-in-OfPointer-clause-declared : goal.returns-in-OfPointer-clause-declared
returns-in-OfPointer-clause-declared c = rw c.in-OfPointer.is (c.push_slot.ensures.pushed c.args.buffers.now.items)

pub returns-in-OfNumber-clause-declared : goal.returns-in-OfNumber-clause-declared
returns-in-OfNumber-clause-declared c = rw c.in-OfNumber.is (c.push_slot-in-OfNumber.ensures.pushed c.args.buffers.now.items)

pub returns-in-OfView-clause-declared : goal.returns-in-OfView-clause-declared
returns-in-OfView-clause-declared c = rw (c.in-OfView.is, sym c.nothing.ensures) (c.push_slot-in-OfView.ensures.pushed c.args.buffers.now.items)

pub returns-in_err-push-in-OfBuffer-2-clause-ascending : goal.returns-in_err-push-in-OfBuffer-2-clause-ascending
returns-in_err-push-in-OfBuffer-2-clause-ascending c =
    subst (λ (xs : List Stored). AreAscending 0 (vec_len c.push.new.self) xs) (sym c.in_err-push-in-OfBuffer-2.ensures.items)
    (wider 0 0 (vec_len c.args.buffers.now) (vec_len c.push.new.self) c.args.slots.now.items (omega arith) (omega (arith, c.in_ok-push-in-OfBuffer.ensures.len)) c.requires.ascending)

pub returns-in_ok-push-in-OfBuffer-2-clause-ascending : goal.returns-in_ok-push-in-OfBuffer-2-clause-ascending
returns-in_ok-push-in-OfBuffer-2-clause-ascending c =
    buffer_pushed c.args.slots.now.items c.push-in-OfBuffer.new.self.items (vec_len c.args.buffers.now) c.len-at.result (vec_len c.push.new.self)
    c.len-at.ensures c.in_ok-push-in-OfBuffer.ensures.len c.in_ok-push-in-OfBuffer-2.ensures.items c.requires.ascending

pub returns-in_ok-push-in-OfBuffer-2-clause-declared : goal.returns-in_ok-push-in-OfBuffer-2-clause-declared
returns-in_ok-push-in-OfBuffer-2-clause-declared c =
    let bs = c.args.buffers.now.items in
    let xs = c.args.slots.now.items in
    let h = wider 0 0 (vec_len c.args.buffers.now) c.len-at.result xs (omega arith) (omega (arith, c.len-at.ensures)) c.requires.ascending in
    rw c.in-OfBuffer.is (
    buffer_declared bs c.push.new.self.items c.new.result xs c.push-in-OfBuffer.new.self.items c.len-at.result (c.len-at.ensures ∙ c.args.buffers.now.ok.0)
    c.in_ok-push-in-OfBuffer.ensures.items c.in_ok-push-in-OfBuffer-2.ensures.items h
    ∙ ap (λ (b : Buffer). values_stored bs xs ++ value_of_buffer b ∷ []) (c.new.ensures ∙ ap (λ max. record { max = max; units = [] }) c.from.ensures)
    )
