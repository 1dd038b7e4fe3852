use Rattle.wb_meaning.proofs.AgreementLemmas.{rules_agree-law}
use Rattle.wb_runs.proofs.laws.rules_agree.Goals as goal

pub returns : goal.returns
returns c = rules_agree-law
