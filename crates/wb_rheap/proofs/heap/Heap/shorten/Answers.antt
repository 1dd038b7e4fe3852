use Rattle.std.proofs.Common.{ap, ◌∙◌, sym, subst, arith}
use Rattle.wb_heap_model.specs.LimitedHeap.{LimitedHeap, heap_shortened}
use Rattle.wb_heap_model.specs.Row.{pointer_to}
use Rattle.wb_rheap.specs.Heap.{heap_of}
use Rattle.wb_rheap.proofs.Growing.{Names, cell-of, live-within, shorter-there}
use Rattle.wb_rheap.proofs.Reallocated.{less-by, shortened, shortened-kept}
use Rattle.wb_rheap.proofs.heap.Heap.shorten.Goals as goal

pub resize-requires-clause-within : goal.resize-requires-clause-within
resize-requires-clause-within c =
    let live = subst (λ (x : LimitedHeap). Names (pointer_to c.args.cell) x.row c.args.cell) (sym c.self.view_is) c.requires.live in
    let sound = c.self.invariant.sound in
    rw c.pointer.ensures (omega (arith, live-within (heap_of c.self.inside) c.args.cell sound live, sound.covered, c.requires.shorter))

pub resize-requires-clause-fits : goal.resize-requires-clause-fits
resize-requires-clause-fits c =
    let live = subst (λ (x : LimitedHeap). Names (pointer_to c.args.cell) x.row c.args.cell) (sym c.self.view_is) c.requires.live in
    rw c.pointer.ensures (shorter-there (heap_of c.self.inside) c.args.cell c.args.length c.self.invariant.sound live c.requires.shorter)

pub overflow_sub-self-2 : goal.overflow_sub-self-2
overflow_sub-self-2 c =
    let live = subst (λ (x : LimitedHeap). Names (pointer_to c.args.cell) x.row c.args.cell) (sym c.self.view_is) c.requires.live in
    let less = less-by c.self.inside c.args.cell c.args.length c.resize.new.self live (rw c.pointer.ensures at c.resize.ensures.resized) c.self.invariant in
    omega (arith, less.totalled, c.self.invariant.totalled)

pub invariant_of-self : goal.invariant_of-self
invariant_of-self c =
    let live = subst (λ (x : LimitedHeap). Names (pointer_to c.args.cell) x.row c.args.cell) (sym c.self.view_is) c.requires.live in
    shortened-kept c.self.inside c.args.cell c.args.length c.resize.new.self live (rw c.pointer.ensures at c.resize.ensures.resized) c.self.invariant c.requires.length c.requires.shorter

pub returns-clause-shortened : goal.returns-clause-shortened
returns-clause-shortened c =
    let live = subst (λ (x : LimitedHeap). Names (pointer_to c.args.cell) x.row c.args.cell) (sym c.self.view_is) c.requires.live in
    shortened c.self.inside c.args.cell c.args.length c.resize.new.self live (rw c.pointer.ensures at c.resize.ensures.resized) c.self.invariant
    ∙ ap (λ (x : LimitedHeap). heap_shortened x (cell-of (pointer_to c.args.cell) x.row c.args.cell) c.args.length) c.self.view_is

pub returns-clause-sound : goal.returns-clause-sound
returns-clause-sound c = (invariant_of-self c).sound
