use Rattle.wb_script.proofs.one_script.NameLaws.{unknown_undeclared}
use Rattle.wb_script.proofs.laws.unknown_is_undeclared.Goals as goal

pub returns : goal.returns
returns c = unknown_undeclared
