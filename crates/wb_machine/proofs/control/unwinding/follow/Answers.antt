use Rattle.wb_machine.proofs.kept.WholeCells.{released_quiet}
use Rattle.wb_machine.proofs.control.unwinding.follow.Goals as goal

pub returns-in-Releases-clause-quiet : goal.returns-in-Releases-clause-quiet
returns-in-Releases-clause-quiet c = released_quiet c.args.state.now c.release.new.self c.in-Releases.object c.release.result c.release.ensures
