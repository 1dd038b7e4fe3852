-- Where all sets are tried, and where the state's own set has a number.
use Rattle.std.proofs.Common.{arith, inl, inr}
use Rattle.std.proofs.lemmas.Bool.{ltb-true}
use Rattle.wb_states.specs.States.{ground_of}
use Rattle.wb_states.proofs.JoinLemmas.{tried-on}
use Rattle.wb_states.proofs.search.Search.tries_all_past.Goals as goal

pub returns-then-self : goal.returns-then-self
returns-then-self c so is = tried-on (ground_of c.args.self.now) c.args.state.now is (inl so)

pub returns-else-self : goal.returns-else-self
returns-else-self c so is = tried-on (ground_of c.args.self.now) c.args.state.now is (inr (omega (arith, ltb-true 0 c.len.result so, c.len.ensures)))
