-- Proof: drop_last. The forks that are left were there before.
use Rattle.std.proofs.Common.{◌-◌, deque_len}
use Rattle.std.proofs.lemmas.List.Elements.{All-take, All-same}
use Rattle.wb_lengths.specs.Forks.{IsOf}
use Rattle.wb_lengths.proofs.forks.Forks.drop_last.Goals as goal

pub returns-in-Some : goal.returns-in-Some
returns-in-Some c script budget shape are =
    let P = IsOf script budget shape in
    let old = c.args.self.now.runs in
    let popped = All-same P c.pop_back.new.self.items _ c.pop_back.ensures.rest (All-take P (deque_len old - 1) old.items are) in
    All-same P c.give_up.new.self.runs.items c.pop_back.new.self.items c.give_up.ensures popped
