use Rattle.std.proofs.Common.{◌/◌, length, subst, ap, ◌∙◌, arith}
use Rattle.wb_chunk.specs.Fields.{IsKept}
use Rattle.wb_chunk.specs.Halves.{halves_from, with_halves}
use Rattle.wb_chunk.specs.Marks.{MarksToo}
use Rattle.wb_chunk.proofs.KeptFields.{kept-halves}
use Rattle.wb_chunk.proofs.WrittenHalves.{length-halves_from}
use Rattle.wb_chunk.proofs.Chunk.copy_halves.Goals as goal

pub invariant_of-self-2 : goal.invariant_of-self-2
invariant_of-self-2 c =
    let inside = c.self.inside in
    let words = c.in-Some.region.words in
    let value = c.as_mut_slice.ensures.value in
    kept-halves c.in-Some.region c.copy.new.words inside.count inside.capacity c.args.to c.div_ceil.result inside.marks.len (halves_from words c.args.from c.args.n)
    inside.marks.items c.mark.new.marks inside.alloc
    (subst (λ r. IsKept r inside.count inside.capacity inside.marks.items inside.alloc) c.in-Some.is c.self.invariant)
    (c.copy.ensures ∙ ap (λ ws. with_halves ws c.args.to (halves_from ws c.args.from c.args.n)) c.as_mut_slice-words.ensures.value)
    (omega (arith, c.div_ceil.ensures, length-halves_from words c.args.from c.args.n))
    (c.mark.auto.marks ∙ ap length value) (c.mark.auto.marks ∙ c.as_mut_slice.ensures.len)
    (subst (λ ms. MarksToo ms c.mark.new.marks (c.args.to / 2) c.div_ceil.result) value c.mark.ensures)
