-- Both edges are those that are listed of the state.
use Rattle.std.proofs.Common.{arith, refl, subst, ◌∙◌}
use Rattle.std.proofs.lemmas.Result.{IfOk-weaker}
use Rattle.wb_states.specs.Closed.{IsFollowed}
use Rattle.wb_states.specs.States.{failing_next, ground_of, next_attempt, turns_at}
use Rattle.wb_states.proofs.search.Search.is_state_closed.Goals as goal

pub returns : goal.returns
returns c =
    let s = c.args.self.now in
    let g = ground_of s in
    let state = c.args.state.now in
    let most = c.args.most.now in
    let bound = c.args.bound.now in
    let turns = turns_at state in
    let counted = c.turns_taken.ensures.turns in
    IfOk-weaker c.is_failure_followed.result _ _
    (λ closed follows yes. record {
      greatest = c.args.greatest;
      is_at = c.requires.greatest;
      met = omega (arith, counted);
      within = omega arith;
      granted = subst (IsFollowed g most bound turns c.args.greatest state.numbers (next_attempt state)) (c.copied-granted.ensures ∙ c.get.ensures) (c.if-not-is_grant_followed.ensures refl g refl);
      failed = subst (IsFollowed g most bound turns c.args.greatest (failing_next state) (next_attempt state)) (c.copied-failed.ensures ∙ c.get-2.ensures) (follows yes g refl);
    })
    c.is_failure_followed.ensures
