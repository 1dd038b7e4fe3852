use Rattle.std.proofs.Common.{◌≡◌, take}
use Rattle.wb_machine.proofs.locals.copies_of.Given as goal

-- the first buffers are copied
abbrev pub invariant-loop-buf : goal.invariant-loop-buf
invariant-loop-buf l = l.copies.items ≡ take l.buf-index l.buf-items
