use Rattle.std.proofs.Common.{◌≡◌, ◌+◌, ◌≤◌, max, ◌∙◌, sym, ap, subst, arith}
use Rattle.wb_heap_model.specs.CellRow.{CellRow, FitsInPlace, IsGap}
use Rattle.wb_heap_model.specs.LimitedHeap.{LimitedHeap, IsSoundHeap, committed_grown, place_to_grow, space_in}
use Rattle.wb_heap_model.specs.Row.{headers, pointer_to}
use Rattle.wb_heap_model.specs.Space.{committed_by}
use Rattle.wb_rheap.specs.Heap.{heap_of}
use Rattle.wb_rheap.proofs.Counters.{total-within}
use Rattle.wb_rheap.proofs.Growing.{cell-of, whole-cell, fits-there, gap-elsewhere, grown-there, grows-aligned, grows-within}
use Rattle.wb_rheap.proofs.Reallocated.{grown-kept}
use Rattle.wb_rheap.proofs.heap.Heap.lengthen.Goals as goal

pub overflow_add-end : goal.overflow_add-end
overflow_add-end c =
    let sound = subst IsSoundHeap c.self.view_is c.self.invariant.sound in
    omega (arith, c.requires.placed, c.requires.length.greatest, grows-within c.args.self.now c.args.cell c.args.length c.requires.length sound c.requires.live, sound.bound, sound.limit)

pub hold_for-requires-clause-rounded : goal.hold_for-requires-clause-rounded
hold_for-requires-clause-rounded c =
    let sound = subst IsSoundHeap c.self.view_is c.self.invariant.sound in
    omega (arith, c.requires.placed, c.requires.length.aligned, grows-aligned c.args.self.now c.args.cell c.args.length c.requires.length sound c.requires.live)

pub lengthen-ptr-requires-clause-within : goal.lengthen-ptr-requires-clause-within
lengthen-ptr-requires-clause-within c =
    let held : c.hold_for.new.cells.held ≡ max c.self.inside.cells.held c.in_ok-committed.committed = ap (λ (x : CellRow). x.held) c.in_ok-committed.ensures.held in
    omega (arith, c.in_ok-committed.ensures.covers, held)

pub lengthen-ptr-requires-clause-stays : goal.lengthen-ptr-requires-clause-stays
lengthen-ptr-requires-clause-stays c here =
    let row : c.hold_for.new.cells.row ≡ c.args.self.now.row = ap (λ (x : CellRow). x.row) c.in_ok-committed.ensures.held ∙ ap (λ (x : LimitedHeap). x.row) c.self.view_is in
    subst (λ r. FitsInPlace (pointer_to c.args.cell) c.args.length (headers r)) (sym row)
    (fits-there c.args.self.now c.args.cell c.args.length c.args.place c.requires.length (subst IsSoundHeap c.self.view_is c.self.invariant.sound) c.requires.live
    c.requires.placed here)

pub lengthen-ptr-requires-clause-moves : goal.lengthen-ptr-requires-clause-moves
lengthen-ptr-requires-clause-moves c other =
    let row : c.hold_for.new.cells.row ≡ c.args.self.now.row = ap (λ (x : CellRow). x.row) c.in_ok-committed.ensures.held ∙ ap (λ (x : LimitedHeap). x.row) c.self.view_is in
    subst (λ r. IsGap (headers r) c.args.place c.args.length) (sym row)
    (gap-elsewhere c.args.self.now c.args.cell c.args.length c.args.place c.requires.length (subst IsSoundHeap c.self.view_is c.self.invariant.sound) c.requires.live
    c.requires.placed other)

pub overflow_add-self : goal.overflow_add-self
overflow_add-self c =
    let sound = c.self.invariant.sound in
    omega (arith, total-within (heap_of c.self.inside) sound, c.self.invariant.totalled, sound.bound, sound.limit, c.requires.length.greatest)

pub invariant_of-self-2 : goal.invariant_of-self-2
invariant_of-self-2 c =
    let now = c.args.self.now in
    let p = pointer_to c.args.cell in
    let at = c.requires.placed in
    let limit : c.self.inside.limit ≡ now.limit = ap (λ (x : LimitedHeap). x.limit) c.self.view_is in
    let grown : c.in_ok-committed.committed ≡ committed_grown now c.args.cell c.args.length =
    c.in_ok-committed.ensures.committed ∙ ap (λ h. committed_by (space_in h) h.committed (c.args.place + c.args.length)) c.self.view_is
    ∙ ap (λ q. committed_by (space_in now) now.committed (q + c.args.length)) at in
    let fits : place_to_grow now c.args.cell c.args.length + c.args.length ≤ now.limit = omega (arith, c.in_ok-committed.ensures.fits, limit, at) in
    let row : c.hold_for.new.cells.row ≡ now.row = ap (λ (x : CellRow). x.row) c.in_ok-committed.ensures.held ∙ ap (λ (x : LimitedHeap). x.row) c.self.view_is in
    grown-kept c.self.inside now (cell-of p now.row c.args.cell) _ c.hold_for.new.cells c.lengthen-ptr.new.cells c.in_ok-committed.committed c.args.length c.args.number
    c.self.view_is c.in_ok-committed.ensures.held c.lengthen-ptr.ensures.longer
    (grown-there now c.hold_for.new.cells.row c.args.cell c.args.length c.args.place c.args.number c.lengthen-ptr.result row at
    c.lengthen-ptr.ensures.pointer) grown c.requires.length c.requires.numbered c.requires.unused fits (whole-cell p now.row c.args.cell c.requires.live)
    c.requires.longer c.self.invariant

pub returns-clause-sound : goal.returns-clause-sound
returns-clause-sound c = (invariant_of-self-2 c).sound
