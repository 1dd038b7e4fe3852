use Rattle.std.proofs.Common.{sym, arith}
use Rattle.wb_rheap.specs.declared.fault.HeapFault.TheVariants.{NoMemory}
use Rattle.wb_rheap.proofs.Growing.{own-named, done-longer, done-shorter, pointer-shorter, no-growth}
use Rattle.wb_rheap.proofs.heap.Heap.realloc.Goals as goal

pub shorten-requires-clause-live : goal.shorten-requires-clause-live
shorten-requires-clause-live c = own-named c.args.self.now c.args.ptr c.in-Some.cell c.in-Some.ensures.sound (sym c.in-Some.ensures.header)

pub returns-then-length-cell-clause-pointer : goal.returns-then-length-cell-clause-pointer
returns-then-length-cell-clause-pointer c =
    pointer-shorter c.args.self.now c.args.ptr c.in-Some.cell c.args.length c.args.number c.in-Some.ensures.sound (sym c.in-Some.ensures.header) c.if-length-cell.true

pub returns-then-length-cell-clause-done : goal.returns-then-length-cell-clause-done
returns-then-length-cell-clause-done c =
    done-shorter c.args.self.now c.args.ptr c.in-Some.cell c.args.length c.args.number c.in-Some.ensures.sound (sym c.in-Some.ensures.header) c.shorten.new.self
    c.if-length-cell.true c.shorten.ensures.shortened

pub place_to_grow-place-requires-clause-live : goal.place_to_grow-place-requires-clause-live
place_to_grow-place-requires-clause-live c = own-named c.args.self.now c.args.ptr c.in-Some.cell c.in-Some.ensures.sound (sym c.in-Some.ensures.header)

pub lengthen-requires-clause-live : goal.lengthen-requires-clause-live
lengthen-requires-clause-live c = own-named c.args.self.now c.args.ptr c.in-Some.cell c.in-Some.ensures.sound (sym c.in-Some.ensures.header)

pub returns-clause-done : goal.returns-clause-done
returns-clause-done c =
    done-longer c.args.self.now c.args.ptr c.in-Some.cell c.args.length c.args.number c.in-Some.ensures.sound (sym c.in-Some.ensures.header) c.lengthen.result
    c.lengthen.new.self (omega arith) c.lengthen.ensures.grown

pub returns-clause-no_growth : goal.returns-clause-no_growth
returns-clause-no_growth c =
    no-growth c.args.self.now c.args.ptr c.in-Some.cell c.args.length c.args.number c.in-Some.ensures.sound (sym c.in-Some.ensures.header) c.lengthen.result
    NoMemory (omega arith) c.lengthen.ensures.refusals.no_growth
