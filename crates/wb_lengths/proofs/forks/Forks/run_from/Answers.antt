-- Proof: run_from. The run that is finished is of the same as the forks, and the forks stay of the same.
use Rattle.std.proofs.Common.{ℕ, subst}
use Rattle.std.specs.Prelude.{IfSome}
use Rattle.std.proofs.lemmas.List.Elements.{All-same}
use Rattle.wb_heap_model.specs.declared.heap.Shape.{Shape}
use Rattle.wb_tree.specs.declared.script.Script.{Script}
use Rattle.wb_lengths.specs.Forks.{IsOf}
use Rattle.wb_lengths.specs.SetHeaps.{TellsRunIn}
use Rattle.wb_lengths.proofs.forks.Forks.run_from.Goals as goal

pub returns-then-not-branch-clause-forks : goal.returns-then-not-branch-clause-forks
returns-then-not-branch-clause-forks c =
    let script = c.args.script.now in
    let budget = c.args.conditions.budget in
    let shape = c.args.conditions.shape in
    let gave = c.in_ok-run.ensures c.requires.forks in
    let on = c.follow.ensures script budget shape gave.0 gave.1 in
    All-same (IsOf script budget shape) c.give_up.new.self.runs.items c.follow.new.self.runs.items c.give_up.ensures on.0

pub returns-clause-tells : goal.returns-clause-tells
returns-clause-tells c =
    let script = c.args.script.now in
    let budget = c.args.conditions.budget in
    let shape = c.args.conditions.shape in
    let length = c.args.length in
    let found = c.in_ok-found.found in
    let gave = c.in_ok-run.ensures c.requires.forks in
    let on = c.follow.ensures script budget shape gave.0 gave.1 in
    let is = on.1 in
    let m = c.follow.new.run.machine in
    subst (λ (s : Script). IfSome found (TellsRunIn s budget shape length)) is.same_script
    (subst (λ (b : ℕ). IfSome found (TellsRunIn m.script b shape length)) is.same_budget
    (subst (λ (h : Shape). IfSome found (TellsRunIn m.script m.budget h length)) is.same_shape c.in_ok-found.ensures.tells))

pub returns-clause-forks : goal.returns-clause-forks
returns-clause-forks c =
    let script = c.args.script.now in
    let budget = c.args.conditions.budget in
    let shape = c.args.conditions.shape in
    let gave = c.in_ok-run.ensures c.requires.forks in
    let on = c.follow.ensures script budget shape gave.0 gave.1 in
    All-same (IsOf script budget shape) c.finish.new.self.runs.items c.follow.new.self.runs.items c.finish.ensures.forks on.0
