-- So many zeros were appended as turns were made.
use Rattle.std.proofs.Common.{◌≡◌, ◌++◌, ◌-◌, replicate}
use Rattle.wb_hbuf.proofs.reading.push_zeros.Given as goal

abbrev pub invariant-loop : goal.invariant-loop
invariant-loop l = l.to.items ≡ l.initial.to.items ++ replicate (l.counter - l.initial.counter) 0
