-- Proof: put_failed_check. A number that is padded to eight digits is its eight digits.
use Rattle.std.proofs.Common.{rules, ◌≡◌, ◌++◌, OnOk, codes}
use Rattle.workbench.specs.EndWords.{eight_digits}
use Rattle.workbench.proofs.Hexadecimal.{eight_digits_styled}
use Rattle.workbench.proofs.end_text.put_failed_check.Goals as goal

pub returns : goal.returns
returns c =
    let place = eight_digits_styled c.args.place c.in_radix.result c.laid_out.result c.laid_out.ensures c.in_radix.ensures in
    let written : OnOk c.write.result (c.write.new.self.items ≡ c.args.text.now.items ++ (codes "panic ALLOC " ++ eight_digits c.args.place)) = simp place at c.write.ensures.bytes in
    search rules
