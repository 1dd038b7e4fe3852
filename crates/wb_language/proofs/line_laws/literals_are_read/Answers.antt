use Rattle.wb_language.proofs.WritingLemmas.{reads_literals}
use Rattle.wb_language.proofs.line_laws.literals_are_read.Goals as goal

pub returns : goal.returns
returns c = reads_literals
