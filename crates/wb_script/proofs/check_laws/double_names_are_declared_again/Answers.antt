use Rattle.wb_script.proofs.said.DoubleNames.{double_declared_again, script_declared_once, none_declared_again}
use Rattle.wb_script.proofs.check_laws.double_names_are_declared_again.Goals as goal

pub returns-clause-refused : goal.returns-clause-refused
returns-clause-refused c = double_declared_again

pub returns-clause-script : goal.returns-clause-script
returns-clause-script c = script_declared_once

pub returns-clause-later : goal.returns-clause-later
returns-clause-later c = none_declared_again
