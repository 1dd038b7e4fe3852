-- Proof: sweep_beside_known. A part from number 0 on to the greatest number there is has all failures.
use Rattle.std.proofs.Common.{rules, ◌≡◌, ◌≤◌, arith, inr, refl, Err}
use Rattle.wb_runs.specs.declared.part.Part.{Part}
use Rattle.wb_runs.specs.Parts.{last_attempt}
use Rattle.wb_runs.proofs.PartAnswers.{whole-cut, whole-found, whole-none}
use Rattle.wb_sweep.specs.declared.fault.Unswept.TheVariants.{Cut}
use Rattle.wb_sweep.proofs.AnswerLemmas.{map_some}
use Rattle.wb_sweep.proofs.run_known.sweep_beside_known.Goals as goal

abbrev whole : Part
whole = record { from = 0; to = 4294967295 }

pub returns-in_err-found-clause-cut : goal.returns-in_err-found-clause-cut
returns-in_err-found-clause-cut g c at why e =
    let failures = c.args.failures in
    let script = c.args.script.now in
    let budget = c.args.conditions.budget in
    let shape = c.args.conditions.shape in
    let within : last_attempt failures script budget shape ≤ 4294967295 = omega (arith, c.requires.attempts, c.ranges.attempts.fits) in
    let is : c.find_later-found.result ≡ Err (Cut at why) = search rules in
    (whole-cut failures whole script budget shape at why refl within).0 (inr (c.find_later-found.ensures.cut at why is))

pub returns-clause-swept : goal.returns-clause-swept
returns-clause-swept g c =
    let failures = c.args.failures in
    let script = c.args.script.now in
    let budget = c.args.conditions.budget in
    let shape = c.args.conditions.shape in
    let within : last_attempt failures script budget shape ≤ 4294967295 = omega (arith, c.requires.attempts, c.ranges.attempts.fits) in
    record {
      attempts = c.requires.attempts;
      found = map_some c.in_ok-found.found (λ found is. (whole-found failures whole script budget shape found.at found.result refl within).0 is) c.in_ok-found.ensures.found;
      none = λ e. (whole-none failures whole script budget shape refl within).0 (c.in_ok-found.ensures.none e);
    }
