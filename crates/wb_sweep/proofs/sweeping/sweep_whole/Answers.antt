-- Proof: sweep_whole. A part from number 0 on to the greatest number there is has all failures.
use Rattle.std.proofs.Common.{◌≤◌, ◌+◌, arith, refl}
use Rattle.wb_runs.specs.declared.part.Part.{Part}
use Rattle.wb_runs.specs.Parts.{last_attempt}
use Rattle.wb_runs.proofs.PartAnswers.{whole-cut, whole-found, whole-none}
use Rattle.wb_sweep.specs.Sweeping.{IsSweepIn}
use Rattle.wb_sweep.proofs.AnswerLemmas.{both_ok, map_ok, map_some}
use Rattle.wb_sweep.proofs.sweeping.sweep_whole.Goals as goal

abbrev whole : Part
whole = record { from = 0; to = 4294967295 }

pub returns-clause-swept : goal.returns-clause-swept
returns-clause-swept g c =
    let failures = c.args.failures in
    let script = c.args.script.now in
    let budget = c.args.conditions.budget in
    let shape = c.args.conditions.shape in
    map_ok c.find_least-swept.result (λ sweep both.
    let within : last_attempt failures script budget shape ≤ 4294967295 = omega (arith, both.1, c.args.conditions.greatest) in
    record {
      attempts = both.0.attempts;
      found = map_some sweep.found (λ found is. (whole-found failures whole script budget shape found.at found.result refl within).0 is) both.0.found;
      none = λ e. (whole-none failures whole script budget shape refl within).0 (both.0.none e);
    }) (both_ok (IsSweepIn failures whole script budget shape) (λ _. last_attempt failures script budget shape ≤ budget + 1) c.find_least-swept.result c.find_least-swept.ensures.swept c.find_least-swept.ensures.few)

pub returns-clause-cut : goal.returns-clause-cut
returns-clause-cut g c at why e =
    let failures = c.args.failures in
    let script = c.args.script.now in
    let budget = c.args.conditions.budget in
    let shape = c.args.conditions.shape in
    let few = c.find_least-swept.ensures.few_cut at why e in
    let within : last_attempt failures script budget shape ≤ 4294967295 = omega (arith, few, c.args.conditions.greatest) in
    (whole-cut failures whole script budget shape at why refl within).0 (c.find_least-swept.ensures.cut at why e)
