-- Proof: follow_beside_fine. A scout of a run that is fine is still one, and a fork that met it is fine.
use Rattle.std.proofs.Common.{◌≡◌, false, None, IfSome}
use Rattle.wb_sweep.specs.Beside.{next_run, runs_beside}
use Rattle.wb_sweep.specs.Meetings.{ForkedSays, IsAhead, is_met}
use Rattle.wb_sweep.proofs.AheadLemmas.{any-ahead, beside-fine, still-scout}
use Rattle.wb_sweep.proofs.AnswerLemmas.{both_ok, map_ok}
use Rattle.wb_sweep.proofs.followed.follow_beside_fine.Goals as goal

pub follow_next-requires-clause-scout : goal.follow_next-requires-clause-scout
follow_next-requires-clause-scout c =
    let lead = c.args.lead.now in
    any-ahead c.args.failures lead.script lead.budget lead.shape c.args.scout.now c.requires.scout

pub returns-clause-scout : goal.returns-clause-scout
returns-clause-scout c =
    let lead = c.args.lead.now in
    let old = c.args.scout.now in
    let new = c.follow_next.new.scout in
    map_ok c.follow_next.result (λ forked both.
    still-scout c.args.failures lead.script lead.budget lead.shape old new c.requires.scout both.0 both.1)
    (both_ok (λ _. IfSome new (IsAhead c.args.failures lead.script lead.budget lead.shape)) (λ _. old ≡ None → new ≡ None) c.follow_next.result
    c.follow_next.ensures.scout c.follow_next.ensures.none)

pub returns-clause-known : goal.returns-clause-known
returns-clause-known c =
    let failures = c.args.failures in
    let lead = c.args.lead.now in
    let old = c.args.scout.now in
    map_ok c.follow_next.result (λ forked both.
    beside-fine failures lead.script lead.budget lead.shape old forked (next_run failures lead) c.requires.scout both.0 both.1)
    (both_ok (λ forked. ForkedSays forked (runs_beside failures lead 0) (next_run failures lead)) (λ forked. old ≡ None → is_met forked ≡ false) c.follow_next.result
    c.follow_next.ensures.known c.follow_next.ensures.unmet)
