use Rattle.std.proofs.Common.{◌≡◌, ◌∙◌, Some, ap, codes}
use Rattle.clap.specs.Words.{first_of, found_of, rows_of}
use Rattle.clap.proofs.TakesLemmas.{passed_up}
use Rattle.clap.proofs.WalkLemmas.{first_value-rows}
use Rattle.wb_command_line.specs.Fault.{IsFaultOfSet}
use Rattle.wb_command_line.proofs.SetLemmas.{fault_of_set, given_listed, given_numbers, none_given, nothing_given, set_range}
use Rattle.wb_command_line.proofs.command_line.set_list.set_in.Goals as goal

pub returns-in_err-list_of-in-Some-clause-fault : goal.returns-in_err-list_of-in-Some-clause-fault
returns-in_err-list_of-in-Some-clause-fault c =
    let found = found_of c.args.options.now in
    let given : Some c.in-Some.text.now ≡ first_of (codes "set") (rows_of found) = (rw c.in-Some.is at c.get_str.ensures) ∙ first_value-rows found (codes "set") in
    passed_up c.from_residual.result _ (IsFaultOfSet (rows_of found)) c.from_residual.ensures.1
    (fault_of_set (rows_of found) c.in-Some.text.now given _ c.in_err-list_of-in-Some.ensures.fault)

pub returns-in_ok-list_of-in-Some-clause-ok : goal.returns-in_ok-list_of-in-Some-clause-ok
returns-in_ok-list_of-in-Some-clause-ok c =
    let found = found_of c.args.options.now in
    let given : Some c.in-Some.text.now ≡ first_of (codes "set") (rows_of found) = (rw c.in-Some.is at c.get_str.ensures) ∙ first_value-rows found (codes "set") in
    ap (λ numbers. Some numbers) c.in_ok-list_of-in-Some.ensures.ok ∙ given_numbers (rows_of found) c.in-Some.text.now given

pub returns-in_ok-list_of-in-Some-clause-range : goal.returns-in_ok-list_of-in-Some-clause-range
returns-in_ok-list_of-in-Some-clause-range c =
    set_range c.in-Some.text.now c.in_ok-list_of-in-Some.field-0 c.in_ok-list_of-in-Some.ensures.ok c.in_ok-list_of-in-Some.ensures.list

pub returns-in_ok-list_of-in-Some-clause-list : goal.returns-in_ok-list_of-in-Some-clause-list
returns-in_ok-list_of-in-Some-clause-list c =
    let found = found_of c.args.options.now in
    let given : Some c.in-Some.text.now ≡ first_of (codes "set") (rows_of found) = (rw c.in-Some.is at c.get_str.ensures) ∙ first_value-rows found (codes "set") in
    given_listed (rows_of found) c.in-Some.text.now given c.in_ok-list_of-in-Some.ensures.list

pub returns-in-None-clause-ok : goal.returns-in-None-clause-ok
returns-in-None-clause-ok c =
    let found = found_of c.args.options.now in
    none_given (rows_of found) ((rw c.in-None.is at c.get_str.ensures) ∙ first_value-rows found (codes "set"))

pub returns-in-None-clause-list : goal.returns-in-None-clause-list
returns-in-None-clause-list c =
    let found = found_of c.args.options.now in
    nothing_given (rows_of found) ((rw c.in-None.is at c.get_str.ensures) ∙ first_value-rows found (codes "set"))
