use Rattle.wb_runs.proofs.SameJudged.{end-same, judged-same}
use Rattle.wb_runs.proofs.renaming_laws.renamed_outcomes_are_judged_alike.Goals as goal

pub returns : goal.returns
returns c = record { words = λ one other same. end-same same; judged = judged-same }
