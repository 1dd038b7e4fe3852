-- Proof: drop_first. The forks that are left were there before.
use Rattle.std.proofs.lemmas.List.Elements.{All-drop, All-same}
use Rattle.wb_lengths.specs.Forks.{IsOf}
use Rattle.wb_lengths.proofs.forks.Forks.drop_first.Goals as goal

pub returns-in-Some : goal.returns-in-Some
returns-in-Some c script budget shape are =
    let P = IsOf script budget shape in
    let popped = All-same P c.pop_front.new.self.items _ c.pop_front.ensures.rest (All-drop (IsOf script budget shape) 1 c.args.self.now.runs.items are) in
    All-same P c.give_up.new.self.runs.items c.pop_front.new.self.items c.give_up.ensures popped
