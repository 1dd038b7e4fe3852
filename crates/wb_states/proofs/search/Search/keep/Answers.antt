-- The run is that of the state that is added.
use Rattle.std.proofs.Common.{ℕ, subst}
use Rattle.wb_states.specs.States.{AreOfOr}
use Rattle.wb_states.proofs.search.Search.keep.Goals as goal

pub returns-then-is_new-clause-runs : goal.returns-then-is_new-clause-runs
returns-then-is_new-clause-runs g c =
    subst (λ (n : ℕ). AreOfOr c.args.self.now.runs n c.args.machine c.push-3.new.self) c.len-at.ensures c.in_ok-push-3.ensures

pub returns-else-is_new-clause-runs : goal.returns-else-is_new-clause-runs
returns-else-is_new-clause-runs g c =
    subst (λ (n : ℕ). AreOfOr c.args.self.now.runs n c.args.machine c.push-3.new.self) c.len-at.ensures c.in_ok-push-3.ensures
