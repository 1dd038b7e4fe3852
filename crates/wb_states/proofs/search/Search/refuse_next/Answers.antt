-- Its rule has the attempt that it makes next.
use Rattle.std.proofs.Common.{◌≡◌, ◌+◌, ◌++◌, ◌∷◌, [], ap, refl, ◌∙◌}
use Rattle.std.proofs.lemmas.Result.{IfOk-weaker}
use Rattle.wb_machine.specs.Seen.{Seen}
use Rattle.wb_heap_model.specs.declared.heap.Rule.TheVariants.{Set}
use Rattle.wb_states.specs.Ground.{turns_of}
use Rattle.wb_states.specs.States.{ground_of}
use Rattle.wb_states.proofs.GrowLemmas.{about-failed, fits-next, goes-refused, set-next, untried-failed}
use Rattle.wb_states.proofs.search.Search.refuse_next.Goals as goal

pub tries-requires : goal.tries-requires
tries-requires g c =
    let run = c.requires.run in
    let own : c.push.new.self ≡ c.args.numbers ++ (c.args.fork.attempts + 1) ∷ [] =
    c.in_ok-push.ensures.pushed ∙ ap (λ n. c.args.numbers ++ n ∷ []) c.in-Some.ensures.number.0 in
    record { set = set-next (ground_of c.args.self.now) run.0 c.args.fork c.push.new.self run.2 run.3 (own ∙ ap (λ ns. ns ++ (c.args.fork.attempts + 1) ∷ []) run.1) }

pub returns-then-not-tries-clause-goes : goal.returns-then-not-tries-clause-goes
returns-then-not-tries-clause-goes g c =
    let own : c.push.new.self ≡ c.args.numbers ++ (c.args.fork.attempts + 1) ∷ [] =
    c.in_ok-push.ensures.pushed ∙ ap (λ n. c.args.numbers ++ n ∷ []) c.in-Some.ensures.number.0 in
    untried-failed (ground_of c.args.self.now) c.args.self.now.states (turns_of c.args.fork.attempts c.args.fork.steps) c.args.numbers (c.args.fork.attempts + 1)
    c.push.new.self own (c.if-not-tries.ensures.untried refl)

pub set_rule-requires-clause-same : goal.set_rule-requires-clause-same
set_rule-requires-clause-same g c =
    let run = c.requires.run in
    let own : c.push.new.self ≡ c.args.numbers ++ (c.args.fork.attempts + 1) ∷ [] =
    c.in_ok-push.ensures.pushed ∙ ap (λ n. c.args.numbers ++ n ∷ []) c.in-Some.ensures.number.0 in
    fits-next (ground_of c.args.self.now) run.0 c.args.fork c.in_ok-refused.refused run.3
    (c.in_ok-refused.ensures ∙ own ∙ ap (λ ns. ns ++ (c.args.fork.attempts + 1) ∷ []) run.1)

pub follow-requires-clause-about : goal.follow-requires-clause-about
follow-requires-clause-about g c =
    let run = c.requires.run in
    let fork : Seen = c.args.fork in
    let own : c.push.new.self ≡ c.args.numbers ++ (fork.attempts + 1) ∷ [] =
    c.in_ok-push.ensures.pushed ∙ ap (λ n. c.args.numbers ++ n ∷ []) c.in-Some.ensures.number.0 in
    about-failed (ground_of c.args.self.now) run.0 c.push.new.self fork c.set_rule.new.self run.3 (own ∙ ap (λ ns. ns ++ (fork.attempts + 1) ∷ []) run.1)
    (c.set_rule.ensures ∙ ap (λ ns. record fork { rule = Set ns }) c.in_ok-refused.ensures) (c.if-not-tries.ensures.tried refl)

pub returns-clause-goes : goal.returns-clause-goes
returns-clause-goes g c =
    let fork : Seen = c.args.fork in
    let own : c.push.new.self ≡ c.args.numbers ++ (fork.attempts + 1) ∷ [] =
    c.in_ok-push.ensures.pushed ∙ ap (λ n. c.args.numbers ++ n ∷ []) c.in-Some.ensures.number.0 in
    IfOk-weaker c.follow.result _ _
    (λ edge goes.
    goes-refused (ground_of c.follow.new.self) c.follow.new.self.states fork c.set_rule.new.self (Set c.in_ok-refused.refused) c.args.numbers c.push.new.self edge
    c.set_rule.ensures own goes)
    c.follow.ensures.goes
