-- The first state is the run without failure before its first attempt.
use Rattle.std.proofs.Common.{ℕ, List, true, [], ◌∷◌, ◌++◌, refl, ◌∙◌, ap}
use Rattle.wb_machine.specs.Seen.{seen_at_start, Seen}
use Rattle.wb_heap_model.specs.declared.heap.Rule.TheVariants.{Set, Unlimited}
use Rattle.wb_states.specs.declared.state.State.{State}
use Rattle.wb_states.proofs.GrowLemmas.{fits-none, sound-first}
use Rattle.wb_states.proofs.search.Search.new.Goals as goal

pub set_rule-requires-clause-same : goal.set_rule-requires-clause-same
set_rule-requires-clause-same c =
    fits-none c.in_ok-machine.machine c.new.result (ap (λ (m : Seen). m.rule) c.in_ok-machine.ensures) c.new.ensures

pub returns-clause-sound : goal.returns-clause-sound
returns-clause-sound c =
    let first : State = record { numbers = c.new-2.result; attempts = 0; steps = 0; before = 0 } in
    let pushed = c.in_ok-push.ensures.pushed in
    let begins =
    c.set_rule.ensures ∙ ap (λ (m : Seen). record m { rule = Set c.new.result }) c.in_ok-machine.ensures
    ∙ ap (λ (ns : List ℕ). record (seen_at_start true c.args.script.now Unlimited c.args.conditions.budget c.args.conditions.shape) { rule = Set ns }) c.new.ensures in
    sound-first _ c.new-runs.result c.set_rule.new.self
    (pushed ∙ ap (λ xs. xs ++ first ∷ []) c.new-states.ensures ∙ ap (λ (ns : List ℕ). record { numbers = ns; attempts = 0; steps = 0; before = 0 } ∷ []) c.new-2.ensures)
    c.new-runs.ensures c.in_ok-push-2.ensures
    begins c.new-3.ensures c.new-4.ensures refl
    c.requires.last refl
