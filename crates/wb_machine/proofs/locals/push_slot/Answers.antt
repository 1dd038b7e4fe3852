use Rattle.std.proofs.Common.{List, subst, sym}
use Rattle.wb_machine.specs.LocalValues.{AreAscending}
use Rattle.wb_machine.specs.declared.locals.Stored.{Stored}
use Rattle.wb_machine.proofs.frames.Buffers.{small_after}
use Rattle.wb_machine.proofs.locals.push_slot.Goals as goal

pub returns-clause-ascending : goal.returns-clause-ascending
returns-clause-ascending c end h = subst (λ (xs : List Stored). AreAscending 0 end xs) (sym c.in_ok-push.ensures.items) (small_after 0 end c.args.slots.now.items c.args.slot h)
