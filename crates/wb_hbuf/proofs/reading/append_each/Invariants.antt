-- So far a number of units of the source were appended.
use Rattle.std.proofs.Common.{◌≡◌, ◌++◌, [], take}
use Rattle.wb_heap_model.specs.Texts.{AreUnits}
use Rattle.wb_hbuf.specs.Sources.{source_units}
use Rattle.wb_hbuf.proofs.reading.append_each.Given as goal

abbrev pub invariant-loop-i : goal.invariant-loop-i
invariant-loop-i l = record {
  items : l.to.items ≡ l.initial.to.items ++ take l.i (source_units l.heap [] l.source);
  are_units : AreUnits l.initial.to.items → AreUnits l.to.items;
}
