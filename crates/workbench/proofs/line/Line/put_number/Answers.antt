-- Proof: put_number. What is put before what is there fits: ten digits at most.
use Rattle.std.proofs.Common.{arith, ap, length, length-drop}
use Rattle.workbench.proofs.LineLemmas.{ten_digits}
use Rattle.workbench.proofs.line.Line.put_number.Goals as goal

pub write_digits-self-inside-requires : goal.write_digits-self-inside-requires
write_digits-self-inside-requires c =
    let digits = ten_digits c.args.number c.ranges.number.fits in
    let there = length-drop c.self.inside.start c.self.inside.bytes in
    let shown = ap length c.self.view_is in
    (omega arith, omega arith)
