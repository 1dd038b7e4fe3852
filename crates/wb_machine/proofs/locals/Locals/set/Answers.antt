use Rattle.std.proofs.Common.{vec_len, ◌+◌}
use Rattle.std.proofs.lemmas.List.{map-set}
use Rattle.wb_machine.specs.declared.locals.Stored.TheVariants.{Small}
use Rattle.wb_machine.specs.LocalValues.{value_of, value_stored, values_stored}
use Rattle.wb_machine.proofs.frames.Frames.{local_set}
use Rattle.wb_machine.proofs.frames.Buffers.{small_set}
use Rattle.wb_machine.proofs.locals.Locals.set.Goals as goal

pub invariant_of-self : goal.invariant_of-self
invariant_of-self c =
    let inside = c.self.inside in
    record {
      frame = c.self.invariant.frame;
      buffers = small_set 0 (vec_len inside.buffers) (inside.base + c.args.index) inside.slots.items c.args.slot c.self.invariant.buffers;
      none = c.self.invariant.none;
    }

pub returns-then-at-len : goal.returns-then-at-len
returns-then-at-len c =
    let inside = c.self.inside in
    let bs = inside.buffers.items in
    local_set (values_stored bs inside.slots.items) _ inside.base c.args.index (value_of c.args.slot) c.args.self.now c.self.view_is
    (map-set (value_stored bs) inside.slots.items (inside.base + c.args.index) (Small c.args.slot))
