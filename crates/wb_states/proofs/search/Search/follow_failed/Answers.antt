-- The edge that is listed is that of the first state without one.
use Rattle.std.proofs.Common.{length, sym}
use Rattle.wb_states.proofs.GrowLemmas.{found-at, grown-failed}
use Rattle.wb_states.proofs.search.Search.follow_failed.Goals as goal

pub returns-clause-sound : goal.returns-clause-sound
returns-clause-sound g c =
    let s = c.args.self.now in
    let state = c.in-Some.state.now in
    let at = found-at s.states c.len-at.result (length s.failed) state c.in-Some.ensures c.len-at.ensures in
    let followed = c.in_ok-edge.ensures in
    grown-failed s c.follow_failure.new.self state c.in_ok-edge.edge c.push.new.self at followed.grown followed.sound (followed.goes state (sym c.in-Some.ensures))
    c.in_ok-push.ensures.pushed
