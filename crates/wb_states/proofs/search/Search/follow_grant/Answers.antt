-- The run that is followed has come to the state at the index.
use Rattle.std.proofs.Common.{ap, subst, sym}
use Rattle.std.proofs.lemmas.Result.{IfOk-weaker, on_ok_weaker}
use Rattle.wb_states.specs.Ground.{Ground}
use Rattle.wb_states.specs.States.{ground_of, IsAboutTo}
use Rattle.wb_states.proofs.GrowLemmas.{about-granted, goes-granted, same-grown, same-state}
use Rattle.wb_states.proofs.Results.{some_is}
use Rattle.wb_states.proofs.search.Search.follow_grant.Goals as goal

pub follow-requires-clause-about : goal.follow-requires-clause-about
follow-requires-clause-about g c =
    let s = c.args.self.now in
    let state = c.in-Some.state.now in
    let at = sym c.in-Some.ensures in
    subst (λ (gr : Ground). IsAboutTo gr c.in_ok-numbers.numbers c.in-Some-2.fork) (sym (ap ground_of c.run_at.ensures.same))
    (about-granted (ground_of s) state c.in_ok-numbers.numbers c.in-Some-2.fork (c.requires.sound.states c.args.at state at)
    (some_is _ _ _ c.in-Some-2.is c.in_ok-fork.ensures.run state at) c.in_ok-numbers.ensures)

pub returns-in-Some-2-clause-goes : goal.returns-in-Some-2-clause-goes
returns-in-Some-2-clause-goes g c =
    let s = c.args.self.now in
    let state = c.in-Some.state.now in
    let at = sym c.in-Some.ensures in
    let run = some_is _ _ _ c.in-Some-2.is c.in_ok-fork.ensures.run state at in
    IfOk-weaker c.follow.result _ _
    (λ edge goes one there.
    goes-granted (ground_of c.follow.new.self) c.follow.new.self.states state one (same-state s.states c.args.at state one at there) c.in-Some-2.fork run.attempts run.steps
    c.in_ok-numbers.numbers c.in_ok-numbers.ensures edge goes)
    c.follow.ensures.goes

pub returns-in-Some-2-clause-grown : goal.returns-in-Some-2-clause-grown
returns-in-Some-2-clause-grown g c =
    on_ok_weaker c.follow.result (same-grown c.args.self.now c.run_at.new.self c.follow.new.self c.run_at.ensures.same) c.follow.ensures.grown
