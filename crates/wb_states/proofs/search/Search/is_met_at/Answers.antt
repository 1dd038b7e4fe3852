-- Both runs are of the script that is searched, and the one has come to the state.
use Rattle.std.proofs.Common.{sym, ◌∙◌}
use Rattle.wb_states.specs.States.{ground_of}
use Rattle.wb_states.proofs.Results.{some_is}
use Rattle.wb_states.proofs.search.Search.is_met_at.Goals as goal

pub is_met-requires : goal.is_met-requires
is_met-requires c =
    let run = c.requires.sound.runs c.args.at c.args.state.now c.in-Some.machine.now c.requires.is_at c.in-Some.ensures in
    record { script = run.under_way.script ∙ sym c.requires.run.script }

pub returns-in-Some : goal.returns-in-Some
returns-in-Some c met =
    let run = c.requires.sound.runs c.args.at c.args.state.now c.in-Some.machine.now c.requires.is_at c.in-Some.ensures in
    c.is_met.ensures met (ground_of c.args.self.now) c.requires.run run

pub follow_again-requires : goal.follow_again-requires
follow_again-requires c = record { sound = c.requires.sound; state = c.requires.sound.states c.args.at c.args.state.now c.requires.is_at }

pub returns-in-Some-2 : goal.returns-in-Some-2
returns-in-Some-2 c met =
    c.is_met-in-Some-2.ensures met (ground_of c.args.self.now) c.requires.run (some_is _ _ _ c.in-Some-2.is c.in_ok-machine.ensures)
