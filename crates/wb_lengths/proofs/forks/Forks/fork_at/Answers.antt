-- Proof: fork_at. The run is a fork, or is begun again; either way it is of the same as the forks.
use Rattle.std.proofs.lemmas.List.Elements.{All-same}
use Rattle.wb_lengths.specs.Forks.{IsOf}
use Rattle.wb_lengths.proofs.ForkLemmas.{map_ok}
use Rattle.wb_lengths.proofs.forks.Forks.fork_at.Goals as goal

pub returns-in-Some : goal.returns-in-Some
returns-in-Some c are =
    let script = c.args.script.now in
    let budget = c.args.conditions.budget in
    let shape = c.args.conditions.shape in
    let taken = c.in-Some.ensures script budget shape (c.drop_past.ensures script budget shape are) in (taken.0, taken.1)

pub returns-in_ok-give_up-in-Some-2 : goal.returns-in_ok-give_up-in-Some-2
returns-in_ok-give_up-in-Some-2 c =
    let script = c.args.script.now in
    let budget = c.args.conditions.budget in
    let shape = c.args.conditions.shape in
    let same = All-same (IsOf script budget shape) in
    map_ok c.begin_again.result (λ run of are.
    let left = (c.take_last.ensures script budget shape (c.drop_past.ensures script budget shape are)).0 in
    let kept = same c.give_up.new.self.runs.items c.take_last.new.self.runs.items c.give_up.ensures left in
    (same c.begin_again.new.self.runs.items c.give_up.new.self.runs.items c.begin_again.ensures.forks kept, of)) c.begin_again.ensures.of

pub returns-in-None : goal.returns-in-None
returns-in-None c =
    let script = c.args.script.now in
    let budget = c.args.conditions.budget in
    let shape = c.args.conditions.shape in
    let same = All-same (IsOf script budget shape) in
    map_ok c.begin_again-in-None.result (λ run of are.
    let left = (c.take_last.ensures script budget shape (c.drop_past.ensures script budget shape are)).0 in
    (same c.begin_again-in-None.new.self.runs.items c.take_last.new.self.runs.items c.begin_again-in-None.ensures.forks left, of)) c.begin_again-in-None.ensures.of
