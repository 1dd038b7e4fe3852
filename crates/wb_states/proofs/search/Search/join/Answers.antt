-- What is found or kept is the state that the run joins.
use Rattle.std.proofs.Common.{sym}
use Rattle.wb_states.specs.declared.state.State.{State}
use Rattle.wb_states.specs.States.{ground_of}
use Rattle.wb_states.proofs.JoinLemmas.{is-run, is-state, joins-found, joins-kept, kept-grown, kept-sound}
use Rattle.wb_states.proofs.Results.{some_is}
use Rattle.wb_states.proofs.search.Search.join.Goals as goal

pub returns-in-Some-clause-goes : goal.returns-in-Some-clause-goes
returns-in-Some-clause-goes g c turns later =
    joins-found (ground_of c.args.self.now) c.args.self.now.states c.args.numbers c.args.fork c.in-Some.state c.steps-steps.result turns
    (some_is _ _ _ c.in-Some.is c.in_ok-state.ensures) c.steps-steps.ensures later

pub returns-clause-grown : goal.returns-clause-grown
returns-clause-grown g c =
    let state : State = record { numbers = c.args.numbers; attempts = c.attempts-attempts.result; steps = c.steps-steps.result; before = c.args.before } in
    kept-grown c.args.self.now c.keep.new.self state c.args.fork c.in_ok-keep.ensures.states c.in_ok-keep.ensures.same

pub returns-clause-sound : goal.returns-clause-sound
returns-clause-sound g c =
    let state : State = record { numbers = c.args.numbers; attempts = c.attempts-attempts.result; steps = c.steps-steps.result; before = c.args.before } in
    let r = c.requires in
    let attempts = sym c.attempts-attempts.ensures.so_far in
    kept-sound c.args.self.now c.keep.new.self state c.args.fork c.in_ok-keep.ensures.states c.in_ok-keep.ensures.same r.sound
    (is-state (ground_of c.args.self.now) state c.args.fork r.run attempts r.tried r.more)
    (is-run (ground_of c.args.self.now) state c.args.fork r.run attempts (sym c.steps-steps.ensures) r.begun r.going r.asks) c.in_ok-keep.ensures.runs c.in_ok-keep.ensures.met

pub returns-clause-goes : goal.returns-clause-goes
returns-clause-goes g c turns later =
    let state : State = record { numbers = c.args.numbers; attempts = c.attempts-attempts.result; steps = c.steps-steps.result; before = c.args.before } in
    joins-kept (ground_of c.keep.new.self) c.args.self.now.states c.keep.new.self.states state c.args.fork c.len-state.result turns
    c.in_ok-keep.ensures.states c.len-state.ensures (sym c.attempts-attempts.ensures.so_far) (sym c.steps-steps.ensures) later
