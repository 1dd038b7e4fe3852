use Rattle.wb_script.proofs.one_script.FaultLaws.{no_fault}
use Rattle.wb_script.proofs.laws.script_or_fault.Goals as goal

pub returns : goal.returns
returns c = no_fault
