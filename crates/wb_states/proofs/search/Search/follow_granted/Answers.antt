-- The edge that is listed is that of the first state without one.
use Rattle.std.proofs.Common.{arith, length, ◌∙◌, ap, slice_get}
use Rattle.wb_states.proofs.GrowLemmas.{grown-granted}
use Rattle.wb_states.proofs.Lists.{get-some}
use Rattle.wb_states.proofs.search.Search.follow_granted.Goals as goal

pub returns-clause-sound : goal.returns-clause-sound
returns-clause-sound g c =
    let s = c.args.self.now in
    let some = get-some s.states (length s.granted) (omega arith) in
    let followed = c.in_ok-edge.ensures in
    grown-granted s c.follow_grant.new.self some.0 c.in_ok-edge.edge c.push.new.self some.1 followed.grown followed.sound
    (followed.goes some.0 (ap (slice_get s.states) c.len-at.ensures ∙ some.1)) c.in_ok-push.ensures.pushed
