-- The three tests are of the state at the index.
use Rattle.std.proofs.Common.{sym, refl}
use Rattle.std.proofs.lemmas.Result.{IfOk-weaker}
use Rattle.wb_states.specs.States.{ground_of}
use Rattle.wb_states.proofs.JoinLemmas.{continues}
use Rattle.wb_states.proofs.search.Search.is_joined_at.Goals as goal

pub returns : goal.returns
returns c =
    let g = ground_of c.args.self.now in
    let state = c.in-Some.state.now in
    let at = sym c.in-Some.ensures in
    let may = c.if-not-may_join.ensures in
    IfOk-weaker c.is_met_at.result _ _
    (λ met meets yes. (state, at, continues g c.args.numbers.now c.args.fork.now state (may.order refl) (may.tried refl (c.requires.sound.states c.args.at state at)) (meets yes)))
    c.is_met_at.ensures
