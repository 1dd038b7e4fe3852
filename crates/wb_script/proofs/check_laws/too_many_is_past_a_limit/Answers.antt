use Rattle.wb_script.proofs.said.ManyLines.{too_many_passes, script_within}
use Rattle.wb_script.proofs.check_laws.too_many_is_past_a_limit.Goals as goal

pub returns-clause-refused : goal.returns-clause-refused
returns-clause-refused c = too_many_passes

pub returns-clause-script : goal.returns-clause-script
returns-clause-script c = script_within
