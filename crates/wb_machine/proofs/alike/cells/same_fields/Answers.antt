use Rattle.std.proofs.Common.{◌+◌, ◌*◌, ◌<◌, length, arith}
use Rattle.wb_heap_model.specs.CellRow.{payload_of}
use Rattle.wb_machine.proofs.likeness.CellsAlike.{pairs-next, pairs-done}
use Rattle.wb_machine.proofs.likeness.GrownMaps.{grown-twice}
use Rattle.wb_machine.proofs.alike.cells.same_fields.Goals as goal

pub loop-i-preserved : goal.loop-i-preserved
loop-i-preserved c =
    let ws = payload_of c.args.ptr c.args.heap.now.heap.row in
    let vs = payload_of c.args.other c.args.other_heap.now.heap.row in
    let i = c.loop-i.i in
    let within : 2 * i + 1 < length ws = omega (arith, c.loop-i-test.true, c.requires.words) in
    let other_within : 2 * i + 1 < length vs = omega (arith, c.loop-i-test.true, c.requires.others) in
    record {
      lead = pairs-next ws vs i c.pointer_at-field.result c.pointer_at-other_field.result c.loop-i.names.names c.relate_pointers.new.self.names within other_within
          c.pointer_at-field.ensures c.pointer_at-other_field.ensures c.relate_pointers.ensures.grown.pairs
          (c.relate_pointers.ensures.same c.if-not-relate_pointers.false) c.loop-i.invariant.lead;
      grown = grown-twice c.loop-i.invariant.grown c.relate_pointers.ensures.grown;
    }

pub returns-clause-same : goal.returns-clause-same
returns-clause-same c e =
    pairs-done (payload_of c.args.ptr c.args.heap.now.heap.row) (payload_of c.args.other c.args.other_heap.now.heap.row) c.args.count c.loop-i.i c.loop-i.names.names
    c.requires.words c.requires.others (omega (arith, c.loop-i-test.false)) c.loop-i.invariant.lead
