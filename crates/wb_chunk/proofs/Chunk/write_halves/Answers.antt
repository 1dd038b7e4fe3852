use Rattle.std.proofs.Common.{◌/◌, length, subst, ap, ◌∙◌, arith}
use Rattle.wb_chunk.specs.Fields.{IsKept}
use Rattle.wb_chunk.specs.Halves.{with_halves}
use Rattle.wb_chunk.specs.Marks.{MarksToo}
use Rattle.wb_chunk.proofs.KeptFields.{kept-halves}
use Rattle.wb_chunk.proofs.Chunk.write_halves.Goals as goal

pub invariant_of-self-2 : goal.invariant_of-self-2
invariant_of-self-2 c =
    let inside = c.self.inside in
    let value = c.as_mut_slice-2.ensures.value in
    kept-halves c.in-Some.region c.write.new.words inside.count inside.capacity c.args.i c.div_ceil.result inside.marks.len c.args.halves.now
    inside.marks.items c.mark.new.marks inside.alloc
    (subst (λ r. IsKept r inside.count inside.capacity inside.marks.items inside.alloc) c.in-Some.is c.self.invariant)
    (c.write.ensures ∙ ap (λ ws. with_halves ws c.args.i c.args.halves.now) c.as_mut_slice.ensures.value)
    (omega (arith, c.div_ceil.ensures))
    (c.mark.auto.marks ∙ ap length value) (c.mark.auto.marks ∙ c.as_mut_slice-2.ensures.len)
    (subst (λ ms. MarksToo ms c.mark.new.marks (c.args.i / 2) c.div_ceil.result) value c.mark.ensures)
