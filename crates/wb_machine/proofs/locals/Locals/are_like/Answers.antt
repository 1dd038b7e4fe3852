use Rattle.std.proofs.Common.{take, drop, ap, sym, subst, ◌∙◌}
use Rattle.wb_renaming.specs.SameButNumbers.{AllBeside, IsSameValue}
use Rattle.wb_renaming.proofs.SameNumbers.{take-beside}
use Rattle.wb_machine.specs.LocalValues.{Frames, values_stored}
use Rattle.wb_machine.proofs.likeness.GrownMaps.{by-both}
use Rattle.wb_machine.proofs.likeness.PiecesAlike.{drop-beside}
use Rattle.wb_machine.proofs.locals.Locals.are_like.Goals as goal

pub returns-then-self-other-clause-callers : goal.returns-then-self-other-clause-callers
returns-then-self-other-clause-callers c e =
    let R = AllBeside (IsSameValue c.same_slots.new.names.names) in
    let l = c.self.inside in
    let m = c.other.inside in
    let one = ap (λ bs. values_stored bs c.as_slice.result.now) c.as_slice-then-self-other.ensures.value ∙ ap (λ xs. values_stored l.buffers.items xs) c.as_slice.ensures.value in
    let two = ap (λ bs. values_stored bs c.as_slice-then-self-other-2.result.now) c.as_slice-then-self-other-3.ensures.value ∙ ap (λ xs. values_stored m.buffers.items xs) c.as_slice-then-self-other-2.ensures.value in
    let all = by-both R (sym one) (sym two) (c.same_slots.ensures.same e) in
    by-both (λ (f g : Frames). R f.callers g.callers) (sym c.self.view_is) (sym c.other.view_is)
    (subst (λ n. R (take l.base (values_stored l.buffers.items l.slots.items)) (take n (values_stored m.buffers.items m.slots.items))) c.if-self-other.true (take-beside l.base all))

pub returns-then-self-other-clause-locals : goal.returns-then-self-other-clause-locals
returns-then-self-other-clause-locals c e =
    let R = AllBeside (IsSameValue c.same_slots.new.names.names) in
    let l = c.self.inside in
    let m = c.other.inside in
    let one = ap (λ bs. values_stored bs c.as_slice.result.now) c.as_slice-then-self-other.ensures.value ∙ ap (λ xs. values_stored l.buffers.items xs) c.as_slice.ensures.value in
    let two = ap (λ bs. values_stored bs c.as_slice-then-self-other-2.result.now) c.as_slice-then-self-other-3.ensures.value ∙ ap (λ xs. values_stored m.buffers.items xs) c.as_slice-then-self-other-2.ensures.value in
    let all = by-both R (sym one) (sym two) (c.same_slots.ensures.same e) in
    by-both (λ (f g : Frames). R f.locals g.locals) (sym c.self.view_is) (sym c.other.view_is)
    (subst (λ n. R (drop l.base (values_stored l.buffers.items l.slots.items)) (drop n (values_stored m.buffers.items m.slots.items))) c.if-self-other.true (drop-beside l.base all))
