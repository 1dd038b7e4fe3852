use Rattle.wb_machine.proofs.arguments.hand.Goals as goal

pub returns-in-Arguments-clause-call_arguments : goal.returns-in-Arguments-clause-call_arguments
returns-in-Arguments-clause-call_arguments c buffers = rw c.in-Arguments.is (c.pass.ensures.passed buffers)

pub returns-in-Item-clause-call_arguments : goal.returns-in-Item-clause-call_arguments
returns-in-Item-clause-call_arguments c buffers = rw c.in-Item.is (c.push_slot.ensures.pushed buffers)
