-- Proof: first_line. No byte so far is a line feed.
use Rattle.std.proofs.Common.{◌≡◌, take, drop}
use Rattle.wb_language.specs.Lines.{lines_of}
use Rattle.wb_lines.proofs.FirstSegments.{onto_all}
use Rattle.workbench.proofs.json_report.first_line.Given as goal

abbrev pub invariant-loop-index : goal.invariant-loop-index
invariant-loop-index l = onto_all (take l.index l.bytes) (lines_of (drop l.index l.bytes)) ≡ lines_of l.bytes
