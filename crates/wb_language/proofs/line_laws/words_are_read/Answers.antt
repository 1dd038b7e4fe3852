use Rattle.wb_language.proofs.WritingLemmas.{reads_words}
use Rattle.wb_language.proofs.line_laws.words_are_read.Goals as goal

pub returns : goal.returns
returns c = reads_words
