-- So many zeros were appended as turns were made.
use Rattle.std.proofs.Common.{◌≡◌, ◌++◌, ◌-◌, replicate}
use Rattle.wb_text.proofs.buf.fill_up.Given as goal

abbrev pub invariant-loop : goal.invariant-loop
invariant-loop l = l.units.items ≡ l.initial.units.items ++ replicate (l.counter - l.initial.counter) 0
