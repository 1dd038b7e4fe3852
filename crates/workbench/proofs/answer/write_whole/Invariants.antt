-- Proof: write_whole. The writer took what was written.
use Rattle.std.proofs.Common.{false, length, ◌-◌, ◌≤◌, take}
use Rattle.std.specs.Io.KnownBytes.{Appends}
use Rattle.wb_streams.specs.Streams.{Writes}
use Rattle.workbench.proofs.answer.write_whole.Given as goal

abbrev pub invariant-loop-written : goal.invariant-loop-written
invariant-loop-written g l = record {
  within : l.written ≤ length l.text;
  took : Appends (g.W.Sink.contents l.initial.writer) (g.W.Sink.contents l.writer) (take l.written l.text);
  wrote : Writes g.W.Sink.writes l.initial.writer false l.writer;
}

abbrev pub decreases-loop-written : goal.decreases-loop-written
decreases-loop-written g l = length l.text - l.written
