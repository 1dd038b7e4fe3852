-- So far a number of bytes were appended.
use Rattle.std.proofs.Common.{◌≡◌, ◌++◌, take}
use Rattle.wb_heap_model.specs.Texts.{AreUnits}
use Rattle.wb_text.proofs.units.append_bytes.Given as goal

abbrev pub invariant-loop-byte : goal.invariant-loop-byte
invariant-loop-byte l = record {
  items : l.to.items ≡ l.initial.to.items ++ take l.byte-index l.bytes;
  are_units : AreUnits l.initial.to.items → AreUnits l.to.items;
}
