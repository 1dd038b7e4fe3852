-- Proof: Scout::meeting. From the meeting on, the rest of the fork is the rest of the scout's run.
use Rattle.std.proofs.Common.{rules, ◌≡◌, ◌+◌, arith}
use Rattle.wb_sweep.proofs.MeetingLemmas.{met-alike, met-cut}
use Rattle.wb_sweep.proofs.scout.Scout.meeting.Goals as goal

pub returns-then-needed-allowed : goal.returns-then-needed-allowed
returns-then-needed-allowed c =
    let fork = c.args.fork.now in
    let scout = c.args.self.now in
    let needed : c.in_ok-needed.needed ≡ scout.steps + fork.steps = search rules in
    let allowed : c.in_ok-allowed.allowed ≡ scout.budget + scout.machine.steps = search rules in
    met-cut c.args.failures fork scout c.args.number c.requires.scout c.requires.rule c.requires.met (omega (arith, c.if-needed-allowed.true, needed, allowed))

pub returns : goal.returns
returns c =
    let fork = c.args.fork.now in
    let scout = c.args.self.now in
    let needed : c.in_ok-needed.needed ≡ scout.steps + fork.steps = search rules in
    let allowed : c.in_ok-allowed.allowed ≡ scout.budget + scout.machine.steps = search rules in
    met-alike c.args.failures fork scout c.args.number c.requires.scout c.requires.rule c.requires.met
    (omega (arith, c.if-needed-allowed.false, needed, allowed))
