-- The turns of the state's run are those that were counted.
use Rattle.std.proofs.Common.{subst, Some}
use Rattle.wb_states.specs.Closed.{IsFollowed}
use Rattle.wb_states.specs.States.{next_attempt}
use Rattle.wb_states.proofs.closed.is_grant_followed.Goals as goal

pub returns-in-Some : goal.returns-in-Some
returns-in-Some c = λ yes g same.
    let next = next_attempt c.args.state.now in
    let follows = c.allows.ensures yes g same c.args.bound.now c.args.state.now.numbers next in
    rw c.in-Some.is
    (subst (λ t. IsFollowed g c.args.most.now c.args.bound.now t c.args.greatest c.args.state.now.numbers next (Some c.in-Some.edge)) c.turns_taken.ensures.turns follows)
