-- The run that is followed has come to the state at the index.
use Rattle.std.proofs.Common.{◌≡◌, ap, subst, sym}
use Rattle.std.proofs.lemmas.Result.{IfOk-weaker, on_ok_weaker}
use Rattle.wb_states.specs.declared.state.State.{State}
use Rattle.wb_states.specs.Ground.{Ground}
use Rattle.wb_states.specs.States.{ground_of, IsRunOf, IsState}
use Rattle.wb_states.proofs.GrowLemmas.{goes-failed, same-grown, same-state}
use Rattle.wb_states.proofs.Results.{some_is}
use Rattle.wb_states.proofs.search.Search.follow_failure.Goals as goal

pub refuse_next-requires-clause-run : goal.refuse_next-requires-clause-run
refuse_next-requires-clause-run g c =
    let s = c.args.self.now in
    let state = c.in-Some.state.now in
    let at = sym c.in-Some.ensures in
    subst (λ (gr : Ground). (one : State) × (c.in_ok-numbers.numbers ≡ one.numbers) × IsState gr one × IsRunOf gr one c.in-Some-2.fork)
    (sym (ap ground_of c.run_at.ensures.same))
    (state, c.in_ok-numbers.ensures, c.requires.sound.states c.args.at state at, some_is _ _ _ c.in-Some-2.is c.in_ok-fork.ensures.run state at)

pub returns-in-Some-2-clause-goes : goal.returns-in-Some-2-clause-goes
returns-in-Some-2-clause-goes g c =
    let s = c.args.self.now in
    let state = c.in-Some.state.now in
    let at = sym c.in-Some.ensures in
    let run = some_is _ _ _ c.in-Some-2.is c.in_ok-fork.ensures.run state at in
    IfOk-weaker c.refuse_next.result _ _
    (λ edge goes one there.
    goes-failed (ground_of c.refuse_next.new.self) c.refuse_next.new.self.states state one (same-state s.states c.args.at state one at there) c.in-Some-2.fork run.attempts run.steps
    c.in_ok-numbers.numbers c.in_ok-numbers.ensures edge goes)
    c.refuse_next.ensures.goes

pub returns-in-Some-2-clause-grown : goal.returns-in-Some-2-clause-grown
returns-in-Some-2-clause-grown g c =
    on_ok_weaker c.refuse_next.result (same-grown c.args.self.now c.run_at.new.self c.refuse_next.new.self c.run_at.ensures.same) c.refuse_next.ensures.grown
