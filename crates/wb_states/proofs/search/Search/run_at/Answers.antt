-- The search has the same states, whether a run was put back or not.
use Rattle.std.proofs.Common.{◌≡◌, slice_get, Some, IfOk, IfSome, refl, sym, subst}
use Rattle.wb_states.specs.declared.search.Search.{Search}
use Rattle.wb_states.specs.declared.state.State.{State}
use Rattle.wb_states.specs.States.{ground_of, IsRunOf}
use Rattle.wb_states.proofs.search.Search.run_at.Goals as goal
use Rattle.wb_states.proofs.search.Search.run_at.Goals.{then-is_none+in_ok-put_back, else-is_none}

pub returns-clause-run : goal.returns-clause-run
returns-clause-run c =
    let s : Search = c.args.self.now in
    let t : Search = c.if-is_none.self in
    let same : t ≡ record s { runs = t.runs } =
    elim c.if-is_none.branch [
      | then-is_none+in_ok-put_back w ↦ subst (λ (x : Search). x ≡ record s { runs = x.runs }) (sym w.self-is) w.put_back.ensures.same
      | else-is_none w ↦ subst (λ (x : Search). x ≡ record s { runs = x.runs }) (sym w.self-is) refl
    ]
    in
    subst
    (λ (x : Search). IfOk c.copy_kept.result (λ run. IfSome run (λ m. (state : State) → slice_get x.states c.args.at ≡ Some state → IsRunOf (ground_of x) state m)))
    same c.copy_kept.ensures.run
