use Rattle.std.proofs.Common.{◌≡◌, take, drop}
use Rattle.wb_language.specs.Lines.{pieces, pieces_from}
use Rattle.wb_lines.specs.Segments.{ends_of}
use Rattle.wb_lines.proofs.FirstSegments.{onto_all}
use Rattle.wb_lines.proofs.segments.first_segment.Given as goal

abbrev pub invariant-loop-index : goal.invariant-loop-index
invariant-loop-index l = onto_all (take l.index l.bytes) (pieces_from (ends_of l.cut) l.quoted (drop l.index l.bytes)) ≡ pieces (ends_of l.cut) l.bytes
