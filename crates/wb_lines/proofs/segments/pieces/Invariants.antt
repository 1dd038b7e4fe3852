use Rattle.std.proofs.Common.{◌≡◌, ◌++◌, length}
use Rattle.wb_language.specs.Lines.{pieces}
use Rattle.wb_lines.specs.BytesOf.{bytes_of_texts}
use Rattle.wb_lines.specs.Segments.{ends_of}
use Rattle.wb_lines.proofs.segments.pieces.Given as goal

abbrev pub invariant-loop-rest : goal.invariant-loop-rest
invariant-loop-rest l = bytes_of_texts l.found.items ++ pieces (ends_of l.cut) l.rest ≡ pieces (ends_of l.cut) l.bytes

abbrev pub decreases-loop-rest : goal.decreases-loop-rest
decreases-loop-rest l = length l.rest
