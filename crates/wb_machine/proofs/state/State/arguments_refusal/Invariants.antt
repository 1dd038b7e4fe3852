use Rattle.std.proofs.Common.{◌≡◌, None, take}
use Rattle.wb_machine.specs.PointerOperands.{first_refusal, of_arguments}
use Rattle.wb_machine.proofs.state.State.arguments_refusal.Given as goal

-- no argument so far is refused
abbrev pub invariant-loop-argument : goal.invariant-loop-argument
invariant-loop-argument l = first_refusal l.fn.self (of_arguments (take l.argument-index l.arguments)) ≡ None
