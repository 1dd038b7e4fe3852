-- The set goes on from the state's own.
use Rattle.std.proofs.Common.{refl}
use Rattle.wb_states.proofs.MeetingLemmas.{fits-further}
use Rattle.wb_states.proofs.again.copy_under.Goals as goal

pub set_rule-requires-clause-same : goal.set_rule-requires-clause-same
set_rule-requires-clause-same c =
    let goes = c.if-not-goes_on_from.ensures refl in
    fits-further c.args.machine.now c.in_ok-copy.copy c.args.state.now c.args.numbers.now c.in_ok-further.further c.in_ok-copy.ensures c.requires.rule
    c.requires.attempts c.in_ok-further.ensures goes.0 goes.1 goes.2
