-- Proof: first_bytes. What was kept is what the reader gave.
use Rattle.std.proofs.Common.{length, ◌-◌, ◌≤◌}
use Rattle.std.specs.Io.KnownBytes.{Consumes}
use Rattle.wb_streams.specs.Streams.{some_bytes, Tries}
use Rattle.workbench.proofs.answer.first_bytes.Given as goal

abbrev pub invariant-loop-part : goal.invariant-loop-part
invariant-loop-part g l = record {
  within : length l.bytes.items ≤ l.most;
  gave : Consumes (g.R.Source.remaining l.initial.reader) (g.R.Source.remaining l.reader) l.bytes.items;
  tried : Tries some_bytes g.R.Source.reads l.initial.reader some_bytes l.reader;
}

abbrev pub decreases-loop-part : goal.decreases-loop-part
decreases-loop-part g l = l.most - length l.bytes.items
