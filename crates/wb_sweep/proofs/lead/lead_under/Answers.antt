-- Proof: lead_under. No attempt was made yet, so the rule says of those made what no limit says.
use Rattle.std.proofs.Common.{ℕ, Option, true, arith, refl, ap, ◌∙◌, sym, subst, min}
use Rattle.wb_heap_model.specs.SameRules.{SameSoFar}
use Rattle.wb_heap_model.specs.Space.{below_ceiling, bound_below}
use Rattle.wb_machine.specs.Seen.{Seen, seen_at_start}
use Rattle.wb_sweep.proofs.lead.lead_under.Goals as goal

pub set_rule-requires-clause-same : goal.set_rule-requires-clause-same
set_rule-requires-clause-same c =
    subst (λ (s : Seen). SameSoFar c.args.rule s.rule s.attempts) (sym c.in_ok-lead.ensures)
    (record { no_limit = c.requires.rule; own_no_limit = refl; same = λ number end first made. absurd (omega (arith, first, made)) })

-- a heap is as long under each rule that is no limit
pub returns : goal.returns
returns c =
    let script = c.args.script.now in
    let budget = c.args.conditions.budget in
    let shape = c.args.conditions.shape in
    let rule = c.args.rule in
    c.set_rule.ensures
    ∙ ap (λ (s : Seen). record s { rule = rule }) c.in_ok-lead.ensures
    ∙ ap (λ (limit : Option ℕ). record (seen_at_start true script rule budget shape) { committed = min shape.min (bound_below (below_ceiling limit)) }) (sym c.requires.rule)
