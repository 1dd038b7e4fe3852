use Rattle.std.proofs.Common.{◌≡◌, [], length, map, take, ap, ◌∙◌, arith}
use Rattle.std.specs.Prelude.{min}
use Rattle.std.proofs.lemmas.List.{take_min}
use Rattle.wb_heap_model.specs.Texts.{printed_unit}
use Rattle.wb_hbuf.specs.Sources.{source_units}
use Rattle.wb_hbuf.proofs.WrittenUnits.{units-counted}
use Rattle.wb_hbuf.proofs.hbuf.print_units.Goals as goal

pub returns : goal.returns
returns c =
    let us = source_units c.args.heap.now [] c.args.source in
    let first : c.loop-i.i ≡ min 80 (length us) =
    omega (arith, units-counted c.args.heap.now [] c.args.source, c.count.ensures, c.min-i-end.ensures, c.loop-i-test.false, c.loop-i.auto.i-end) in
    c.new.ensures ∙ c.loop-i.invariant ∙ ap (map printed_unit) (ap (λ k. take k us) first ∙ take_min 80 us)
