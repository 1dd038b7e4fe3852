use Rattle.wb_script.proofs.one_script.NameLaws.{script_declared}
use Rattle.wb_script.proofs.laws.names_are_declared.Goals as goal

pub returns : goal.returns
returns c = script_declared
