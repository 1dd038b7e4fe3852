use Rattle.wb_script.proofs.one_script.ScriptLaws.{script_once}
use Rattle.wb_script.proofs.laws.one_script.Goals as goal

pub returns : goal.returns
returns c = script_once
