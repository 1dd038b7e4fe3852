use Rattle.wb_language.proofs.WordLemmas.{made_of_words}
use Rattle.wb_language.proofs.line_laws.lines_are_made_of_words.Goals as goal

pub returns : goal.returns
returns c = made_of_words
