-- The run that is copied has come to the state at the index.
use Rattle.std.proofs.Common.{sym}
use Rattle.wb_states.specs.States.{ground_of}
use Rattle.wb_states.proofs.AgainLemmas.{on-the-way}
use Rattle.wb_states.proofs.Results.{map_ok, map_some}
use Rattle.wb_states.proofs.search.Search.copy_at.Goals as goal

pub copy_under-requires-clause-rule : goal.copy_under-requires-clause-rule
copy_under-requires-clause-rule c =
    let run = c.requires.sound.runs c.args.at c.in-Some.state.now c.in-Some-get.machine.now (sym c.in-Some.ensures) c.in-Some-get.ensures in
    run.under_way.rule

pub copy_under-requires-clause-attempts : goal.copy_under-requires-clause-attempts
copy_under-requires-clause-attempts c =
    let run = c.requires.sound.runs c.args.at c.in-Some.state.now c.in-Some-get.machine.now (sym c.in-Some.ensures) c.in-Some-get.ensures in
    run.attempts

pub copy_under-requires-clause-going : goal.copy_under-requires-clause-going
copy_under-requires-clause-going c =
    let run = c.requires.sound.runs c.args.at c.in-Some.state.now c.in-Some-get.machine.now (sym c.in-Some.ensures) c.in-Some-get.ensures in
    run.going

pub copy_under-requires-clause-well : goal.copy_under-requires-clause-well
copy_under-requires-clause-well c =
    let run = c.requires.sound.runs c.args.at c.in-Some.state.now c.in-Some-get.machine.now (sym c.in-Some.ensures) c.in-Some-get.ensures in
    run.under_way.well

pub returns : goal.returns
returns c =
    let run = c.requires.sound.runs c.args.at c.in-Some.state.now c.in-Some-get.machine.now (sym c.in-Some.ensures) c.in-Some-get.ensures in
    map_ok c.copy_under.result
    (λ copied is. map_some copied (λ m same. on-the-way (ground_of c.args.self.now) c.in-Some.state.now c.args.numbers.now c.in-Some-get.machine.now m run same) is)
    c.copy_under.ensures
