use Rattle.std.proofs.Common.{◌≡◌, ◌+◌, ◌∙◌, sym, ap, subst, arith}
use Rattle.wb_heap_model.specs.CellRow.{CellRow, IsGap}
use Rattle.wb_heap_model.specs.LimitedHeap.{LimitedHeap, IsSoundHeap, committed_with, space_in}
use Rattle.wb_heap_model.specs.Row.{headers}
use Rattle.wb_heap_model.specs.Space.{committed_by}
use Rattle.wb_heap_model.proofs.LimitedHeaps.{place_in-committed, place_in-least}
use Rattle.wb_rheap.specs.Heap.{heap_of}
use Rattle.wb_rheap.proofs.Counters.{total-within, count-within}
use Rattle.wb_rheap.proofs.Finding.{place_in-gap}
use Rattle.wb_rheap.proofs.HeapFields.{granted-kept}
use Rattle.wb_rheap.proofs.heap.Heap.alloc_at.Goals as goal

-- the place lies within the committed length, and so does no end of a cell there pass what a word holds
pub overflow_add-end : goal.overflow_add-end
overflow_add-end c =
    let sound = subst IsSoundHeap c.self.view_is c.self.invariant.sound in
    omega (arith, c.requires.placed, c.requires.length.greatest, place_in-committed c.args.self.now c.args.length sound, sound.bound, sound.limit)

pub hold_for-requires-clause-rounded : goal.hold_for-requires-clause-rounded
hold_for-requires-clause-rounded c =
    let sound = subst IsSoundHeap c.self.view_is c.self.invariant.sound in
    omega (arith, c.requires.placed, c.requires.length.aligned, (place_in-least c.args.self.now c.args.length c.requires.length sound).aligned)

pub take-requires-clause-gap : goal.take-requires-clause-gap
take-requires-clause-gap c =
    let row : c.hold_for.new.cells.row ≡ c.args.self.now.row = ap (λ (x : CellRow). x.row) c.in_ok-committed.ensures.held ∙ ap (λ (x : LimitedHeap). x.row) c.self.view_is in
    let gap = place_in-gap c.args.self.now c.args.length c.requires.length (subst IsSoundHeap c.self.view_is c.self.invariant.sound) in
    subst (λ r. IsGap (headers r) c.args.place c.args.length) (sym row)
    (subst (λ p. IsGap (headers c.args.self.now.row) p c.args.length) (sym c.requires.placed) gap)

pub overflow_add-self : goal.overflow_add-self
overflow_add-self c =
    let sound = c.self.invariant.sound in
    omega (arith, count-within (heap_of c.self.inside) sound, c.self.invariant.counted, sound.bound, sound.limit)

pub overflow_add-self-2 : goal.overflow_add-self-2
overflow_add-self-2 c =
    let sound = c.self.invariant.sound in
    omega (arith, total-within (heap_of c.self.inside) sound, c.self.invariant.totalled, sound.bound, sound.limit, c.requires.length.greatest)

pub invariant_of-self-2 : goal.invariant_of-self-2
invariant_of-self-2 c =
    let now = c.args.self.now in
    let at = c.requires.placed in
    let limit : c.self.inside.limit ≡ now.limit = ap (λ (x : LimitedHeap). x.limit) c.self.view_is in
    let grown : c.in_ok-committed.committed ≡ committed_with now c.args.length =
    c.in_ok-committed.ensures.committed ∙ ap (λ h. committed_by (space_in h) h.committed (c.args.place + c.args.length)) c.self.view_is
    ∙ ap (λ p. committed_by (space_in now) now.committed (p + c.args.length)) at in
    granted-kept c.self.inside now c.hold_for.new.cells c.take.new.self c.args.place c.in_ok-committed.committed c.args.length c.args.kind c.args.number
    c.args.level c.self.view_is c.in_ok-committed.ensures.held c.take.ensures.taken at grown c.requires.length c.requires.numbered c.requires.unused
    (omega (arith, c.in_ok-committed.ensures.fits)) c.self.invariant

pub returns-clause-sound : goal.returns-clause-sound
returns-clause-sound c = (invariant_of-self-2 c).sound
