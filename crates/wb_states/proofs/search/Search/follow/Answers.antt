-- Proof: follow. The run has made its attempt.
use Rattle.std.proofs.Common.{rules, ◌≡◌, ◌+◌, arith, Ok, ap, subst}
use Rattle.wb_states.specs.Ground.{turns_of}
use Rattle.wb_states.specs.States.{ground_of, GoesOn}
use Rattle.wb_states.proofs.FollowLemmas.{made-all, run-under, turns-later, under-way}
use Rattle.wb_states.proofs.Results.{map_ok}
use Rattle.wb_states.proofs.search.Search.follow.Goals as goal

pub join-requires-clause-run : goal.join-requires-clause-run
join-requires-clause-run g c =
    let is = c.in_ok-go_past_attempt.ensures in
    let made : c.go_past_attempt.new.machine.attempts ≡ c.args.fork.attempts + 1 = search rules in
    under-way (ground_of c.args.self.now) c.args.numbers c.args.fork c.go_past_attempt.new.machine c.requires.about is.same is.well made is.within

pub join-requires-clause-made : goal.join-requires-clause-made
join-requires-clause-made g c =
    let made : c.go_past_attempt.new.machine.attempts ≡ c.args.fork.attempts + 1 = search rules in
    omega (arith, made)

pub end-requires-clause-run : goal.end-requires-clause-run
end-requires-clause-run g c =
    let is = c.in_ok-go_past_attempt.ensures in
    run-under (ground_of c.args.self.now) c.args.numbers c.args.fork c.go_past_attempt.new.machine c.requires.about is.same is.well

pub end-requires-clause-made : goal.end-requires-clause-made
end-requires-clause-made g c =
    let is = c.in_ok-go_past_attempt.ensures in
    made-all (ground_of c.args.self.now) c.args.numbers c.args.fork c.go_past_attempt.new.machine c.requires.about is.same (is.made c.in-Some.field-0 (ap Ok c.in-Some.is))

pub returns-in-None-clause-goes : goal.returns-in-None-clause-goes
returns-in-None-clause-goes g c =
    let is = c.in_ok-go_past_attempt.ensures in
    let fork = c.args.fork in
    let made : c.go_past_attempt.new.machine.attempts ≡ fork.attempts + 1 = search rules in
    let later = turns-later fork c.go_past_attempt.new.machine c.requires.about.begun (is.later (ap Ok c.in-None.is)) in
    map_ok c.join.result (λ edge goes.
    subst (λ n. GoesOn (ground_of c.join.new.self) c.join.new.self.states (turns_of fork.attempts fork.steps) c.args.numbers n edge) made (goes (turns_of fork.attempts fork.steps) later)) c.join.ensures.goes

pub returns-in-Some-clause-goes : goal.returns-in-Some-clause-goes
returns-in-Some-clause-goes g c =
    let is = c.in_ok-go_past_attempt.ensures in
    let few = is.few in
    map_ok c.end.result (λ edge goes. goes (turns_of c.args.fork.attempts c.args.fork.steps) (c.args.fork.attempts + 1) few) c.end.ensures.goes
