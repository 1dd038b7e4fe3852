use Rattle.wb_states.proofs.MeetingLemmas.{met-state}
use Rattle.wb_states.proofs.meeting.is_met.Goals as goal

pub returns : goal.returns
returns c e g run state =
    met-state g c.args.set.now c.args.state.now c.args.fork.now c.args.machine.now (c.goes_on_alike.ensures.alike e) (c.goes_on_alike.ensures.going e) run state
