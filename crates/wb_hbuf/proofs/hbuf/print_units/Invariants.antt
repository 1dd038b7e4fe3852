use Rattle.std.proofs.Common.{◌≡◌, [], map, take}
use Rattle.wb_heap_model.specs.Texts.{printed_unit}
use Rattle.wb_hbuf.specs.Sources.{source_units}
use Rattle.wb_hbuf.proofs.hbuf.print_units.Given as goal

abbrev pub invariant-loop-i : goal.invariant-loop-i
invariant-loop-i l = l.line.items ≡ map printed_unit (take l.i (source_units l.heap [] l.source))
