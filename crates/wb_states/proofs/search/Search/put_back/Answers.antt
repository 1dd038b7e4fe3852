-- The run that is put back has come to the state.
use Rattle.std.proofs.Common.{refl, sym}
use Rattle.std.proofs.lemmas.Result.{on_ok_weaker}
use Rattle.wb_states.specs.States.{ground_of}
use Rattle.wb_states.proofs.AgainLemmas.{runs-put-back}
use Rattle.wb_states.proofs.GrowLemmas.{same-sound}
use Rattle.wb_states.proofs.Results.{some_is}
use Rattle.wb_states.proofs.search.Search.put_back.Goals as goal

pub follow_again-requires-clause-state : goal.follow_again-requires-clause-state
follow_again-requires-clause-state c = c.requires.sound.states c.args.at c.in-Some.state.now (sym c.in-Some.ensures)

pub returns-in-Some-2-clause-sound : goal.returns-in-Some-2-clause-sound
returns-in-Some-2-clause-sound c =
    let s = c.args.self.now in
    let sound = c.requires.sound in
    let run = some_is _ _ _ c.in-Some-2.is c.in_ok-machine.ensures in
    on_ok_weaker c.put_back.result
    (λ added.
    same-sound s (record s { runs = c.put_back.new.self }) refl
    (runs-put-back (ground_of s) s.states s.runs c.put_back.new.self c.args.at c.in-Some.state.now c.in-Some-2.machine sound.runs (sym c.in-Some.ensures) run added) sound)
    c.put_back.ensures
