use Rattle.wb_language.proofs.WritingLemmas.{reads_lines}
use Rattle.wb_language.proofs.line_laws.lines_are_read.Goals as goal

pub returns : goal.returns
returns c = reads_lines
