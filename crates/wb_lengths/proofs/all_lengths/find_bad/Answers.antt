-- Proof: find_bad. The first bad range begins at the least length whose run leaks or panics.
use Rattle.std.proofs.Common.{rules, ◌≡◌, Some, None}
use Rattle.wb_lengths.specs.Lengths.{first_bad}
use Rattle.wb_lengths.proofs.TableLemmas.{found_bad, none_bad}
use Rattle.wb_lengths.proofs.all_lengths.find_bad.Goals as goal

pub returns-in_default-clause-none : goal.returns-in_default-clause-none
returns-in_default-clause-none c same =
    let none : first_bad c.args.table.now ≡ None = search rules in
    none_bad c.args.script.now c.args.conditions.budget c.args.conditions.shape c.args.table.now c.requires.table none

pub returns-clause-bad : goal.returns-clause-bad
returns-clause-bad c =
    let first : first_bad c.args.table.now ≡ Some c.in-Some.length = search rules in
    found_bad c.args.script.now c.args.conditions.budget c.args.conditions.shape c.args.table.now c.in-Some.length c.in_ok-result.result c.requires.table first c.in_ok-result.ensures.ran
