-- Proof: tell_later. The lead is the run without failure.
use Rattle.std.proofs.Common.{◌≡◌, ◌+◌, ◌-◌, ◌≤◌, ℕ, arith, min, ap, ◌∙◌, sym, subst}
use Rattle.std.proofs.Math.Nat.{min-le_right}
use Rattle.wb_heap_model.specs.Rules.{limit_of}
use Rattle.wb_machine.specs.Seen.{Seen}
use Rattle.wb_runs.specs.Parts.{last_attempt}
use Rattle.wb_runs.specs.RunEnds.{end_of}
use Rattle.wb_runs.specs.Sweeps.{rule_for, runs_of}
use Rattle.wb_runs.proofs.FailureRules.{failures-no_limit}
use Rattle.wb_sweep.specs.AllOfAPart.{listed_numbers}
use Rattle.wb_sweep.proofs.all_numbers.tell_later.Goals as goal

-- number 0 is no limit
pub lead_under-requires-clause-rule : goal.lead_under-requires-clause-rule
lead_under-requires-clause-rule g c = ap limit_of (c.rule.ensures ∙ ap rule_for c.at.ensures) ∙ failures-no_limit c.args.failures 0

pub tell_along-requires-clause-last : goal.tell_along-requires-clause-last
tell_along-requires-clause-last g c =
    let last = last_attempt c.args.failures c.args.script.now c.args.conditions.budget c.args.conditions.shape in
    let most = min-le_right c.args.part.to last in
    let end : c.min-end.result ≡ min c.args.part.to last = c.min-end.ensures ∙ ap (min c.args.part.to) c.requires.last in
    subst (λ (s : Seen). c.min-end.result ≤ last_attempt c.args.failures s.script s.budget s.shape) (sym c.in_ok-lead.ensures) (omega (arith, most, end))

pub tell_along-requires-clause-end : goal.tell_along-requires-clause-end
tell_along-requires-clause-end g c =
    subst (λ (s : Seen). c.args.first ≡ end_of (runs_of c.args.failures s.script s.budget s.shape 0).outcome) (sym c.in_ok-lead.ensures) c.requires.end

pub tell_along-requires-clause-told : goal.tell_along-requires-clause-told
tell_along-requires-clause-told g c =
    let from = c.args.part.from in
    subst (λ (s : Seen). c.args.ends.now ≡ listed_numbers c.args.listing (runs_of c.args.failures s.script s.budget s.shape) from (1 - from)) (sym c.in_ok-lead.ensures) c.requires.told

pub returns : goal.returns
returns g c =
    let from = c.args.part.from in
    let last = last_attempt c.args.failures c.args.script.now c.args.conditions.budget c.args.conditions.shape in
    let end : c.min-end.result ≡ min c.args.part.to last = c.min-end.ensures ∙ ap (min c.args.part.to) c.requires.last in
    let told = subst (λ (s : Seen). c.tell_along.new.ends ≡ listed_numbers c.args.listing (runs_of c.args.failures s.script s.budget s.shape) from (c.min-end.result + 1 - from))
    c.in_ok-lead.ensures c.in_ok-tell_along.ensures in
    told ∙ ap (λ (n : ℕ). listed_numbers c.args.listing (runs_of c.args.failures c.args.script.now c.args.conditions.budget c.args.conditions.shape) from (n + 1 - from)) end
