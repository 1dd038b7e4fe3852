use Rattle.wb_script.proofs.one_script.FaultLaws.{fault_once}
use Rattle.wb_script.proofs.laws.one_fault.Goals as goal

pub returns : goal.returns
returns c = fault_once
