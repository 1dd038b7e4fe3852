use Rattle.wb_meaning.proofs.MeaningLemmas.{meaning_of-unfolds}
use Rattle.wb_runs.proofs.laws.meaning_unfolds.Goals as goal

pub returns : goal.returns
returns c = meaning_of-unfolds
