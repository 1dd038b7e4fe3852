use Rattle.wb_script.proofs.said.WrongLines.{wrong_is_wrong, script_right, none_wrong_later}
use Rattle.wb_script.proofs.check_laws.wrong_kinds_are_wrong.Goals as goal

pub returns-clause-refused : goal.returns-clause-refused
returns-clause-refused c = wrong_is_wrong

pub returns-clause-script : goal.returns-clause-script
returns-clause-script c = script_right

pub returns-clause-later : goal.returns-clause-later
returns-clause-later c = none_wrong_later
