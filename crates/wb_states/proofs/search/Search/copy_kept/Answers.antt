-- The copy has come to the state, as the run that is kept has.
use Rattle.std.proofs.Common.{subst, sym}
use Rattle.wb_states.specs.States.{ground_of, IsRunOf}
use Rattle.wb_states.proofs.search.Search.copy_kept.Goals as goal

pub returns-in_ok-copy-in-Some-clause-run : goal.returns-in_ok-copy-in-Some-clause-run
returns-in_ok-copy-in-Some-clause-run c state at =
    subst (IsRunOf (ground_of c.args.self.now) state) (sym c.in_ok-copy-in-Some.ensures)
    (c.requires.sound.runs c.args.at state c.in-Some.machine.now at c.in-Some.ensures)
