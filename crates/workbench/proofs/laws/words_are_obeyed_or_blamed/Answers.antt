use Rattle.workbench.proofs.WordsLemmas.{blamed_for_memory}
use Rattle.workbench.proofs.laws.words_are_obeyed_or_blamed.Goals as goal

pub returns : goal.returns
returns c = blamed_for_memory
