use Rattle.wb_script.proofs.said.QuietLines.{leaving_in_quiet_body, script_quiet, none_leaving_later}
use Rattle.wb_script.proofs.check_laws.leaving_lines_are_in_quiet_bodies.Goals as goal

pub returns-clause-refused : goal.returns-clause-refused
returns-clause-refused c = leaving_in_quiet_body

pub returns-clause-script : goal.returns-clause-script
returns-clause-script c = script_quiet

pub returns-clause-later : goal.returns-clause-later
returns-clause-later c = none_leaving_later
