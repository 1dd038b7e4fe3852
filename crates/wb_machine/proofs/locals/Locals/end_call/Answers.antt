use Rattle.std.proofs.Common.{arith, ap, ◌∙◌, take, vec_len}
use Rattle.std.proofs.lemmas.List.{length-map}
use Rattle.wb_machine.specs.LocalValues.{value_stored, values_stored}
use Rattle.wb_machine.proofs.frames.Frames.{cut_off}
use Rattle.wb_machine.proofs.frames.Buffers.{first_of_frame, frame_begins, frame_ascends, frame_dropped}
use Rattle.wb_machine.proofs.locals.Locals.end_call.Goals as goal

pub invariant_of-self : goal.invariant_of-self
invariant_of-self c =
    let inside = c.self.inside in
    let begins = frame_begins inside.slots.items c.deref.result.now inside.base (vec_len inside.buffers) c.len.result c.first_buffer-end.result c.first_buffer-end.ensures c.deref.ensures.value c.len.ensures in
    let within = first_of_frame 0 (vec_len inside.buffers) inside.base inside.slots.items c.self.invariant.buffers in
    record {
      frame = omega (arith, c.min-self-inside.ensures, c.truncate-2.ensures.len, c.self.invariant.frame);
      buffers = frame_ascends inside.slots.items c.truncate-2.new.self.items (vec_len inside.buffers) inside.base (vec_len c.truncate.new.self) c.self.invariant.buffers
          c.truncate-2.ensures.items (omega (arith, c.truncate.ensures.len, within, begins));
      none = c.self.invariant.none;
    }

pub returns : goal.returns
returns c =
    let inside = c.self.inside in
    let bs = inside.buffers.items in
    let begins = frame_begins inside.slots.items c.deref.result.now inside.base (vec_len inside.buffers) c.len.result c.first_buffer-end.result c.first_buffer-end.ensures c.deref.ensures.value c.len.ensures in
    cut_off (values_stored bs inside.slots.items) (values_stored c.truncate.new.self.items c.truncate-2.new.self.items) inside.base c.args.base c.min-self-inside.result c.args.self.now c.self.view_is
    (omega (arith, inside.slots.ok.0, c.self.invariant.frame, length-map inside.slots.items (value_stored bs)))
    (frame_dropped bs c.truncate.new.self.items inside.slots.items c.truncate-2.new.self.items (vec_len inside.buffers) inside.base c.self.invariant.buffers
    (c.truncate.ensures.items ∙ ap (λ n. take n bs) begins) c.truncate-2.ensures.items)
    c.min-self-inside.ensures
