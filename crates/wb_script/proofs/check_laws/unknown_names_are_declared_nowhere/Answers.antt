use Rattle.wb_script.proofs.said.FieldNames.{unknown_used, script_known, none_used}
use Rattle.wb_script.proofs.check_laws.unknown_names_are_declared_nowhere.Goals as goal

pub returns-clause-refused : goal.returns-clause-refused
returns-clause-refused c = unknown_used

pub returns-clause-script : goal.returns-clause-script
returns-clause-script c = script_known

pub returns-clause-later : goal.returns-clause-later
returns-clause-later c = none_used
