use Rattle.std.proofs.Common.{◌∙◌}
use Rattle.std.specs.Str.Parse.{ExplainsUnsignedError, HasUnsignedDigitsIfOk, ParsesUnsigned}
use Rattle.clap.specs.Words.{found_of, rows_of}
use Rattle.wb_command_line.proofs.MatchesLemmas.{also_is}
use Rattle.wb_command_line.proofs.RuleLemmas.{alone_ordered, alone_rule, second_fault, second_ordered, second_range, second_rule}
use Rattle.wb_command_line.proofs.command_line.rules.rule_in.Goals as goal

pub returns-in-None-clause-ok : goal.returns-in-None-clause-ok
returns-in-None-clause-ok c =
    let rows = rows_of (found_of c.args.options.now) in
    let second = also_is _ (λ bs r. ParsesUnsigned 32 10 bs r × ExplainsUnsignedError 10 bs r × HasUnsignedDigitsIfOk bs r) (λ u x g. g.0) (found_of c.args.options.now)
    c.get_one.result c.requires c.get_one.ensures.none c.get_one.ensures.value in
    c.in_ok-first.ensures.ok ∙ alone_rule rows second c.in-None.is

pub returns-in-None-clause-ordered : goal.returns-in-None-clause-ordered
returns-in-None-clause-ordered c =
    let rows = rows_of (found_of c.args.options.now) in
    let second = also_is _ (λ bs r. ParsesUnsigned 32 10 bs r × ExplainsUnsignedError 10 bs r × HasUnsignedDigitsIfOk bs r) (λ u x g. g.0) (found_of c.args.options.now)
    c.get_one.result c.requires c.get_one.ensures.none c.get_one.ensures.value in
    alone_ordered rows second c.in-None.is

pub returns-in-Some-clause-ok : goal.returns-in-Some-clause-ok
returns-in-Some-clause-ok c =
    let rows = rows_of (found_of c.args.options.now) in
    let second = also_is _ (λ bs r. ParsesUnsigned 32 10 bs r × ExplainsUnsignedError 10 bs r × HasUnsignedDigitsIfOk bs r) (λ u x g. g.0) (found_of c.args.options.now)
    c.get_one.result c.requires c.get_one.ensures.none c.get_one.ensures.value in
    second_rule rows c.in_ok-first.ensures.ok c.in_ok-first.ensures.list c.in_ok-first.ensures.alone second c.in-Some.is c.with_second.result c.with_second.ensures.ok

pub returns-in-Some-clause-range : goal.returns-in-Some-clause-range
returns-in-Some-clause-range c =
    let rows = rows_of (found_of c.args.options.now) in
    let second = also_is _ (λ bs r. ParsesUnsigned 32 10 bs r × ExplainsUnsignedError 10 bs r × HasUnsignedDigitsIfOk bs r) (λ u x g. g.0) (found_of c.args.options.now)
    c.get_one.result c.requires c.get_one.ensures.none c.get_one.ensures.value in
    second_range rows c.in_ok-first.ensures.ok c.in_ok-first.ensures.list c.in_ok-first.ensures.alone second c.in-Some.is c.with_second.result c.with_second.ensures.ok

pub returns-in-Some-clause-ordered : goal.returns-in-Some-clause-ordered
returns-in-Some-clause-ordered c =
    let rows = rows_of (found_of c.args.options.now) in
    let second = also_is _ (λ bs r. ParsesUnsigned 32 10 bs r × ExplainsUnsignedError 10 bs r × HasUnsignedDigitsIfOk bs r) (λ u x g. g.0) (found_of c.args.options.now)
    c.get_one.result c.requires c.get_one.ensures.none c.get_one.ensures.value in
    second_ordered rows c.in_ok-first.ensures.ok c.in_ok-first.ensures.list c.in_ok-first.ensures.alone second c.in-Some.is c.with_second.result c.with_second.ensures.ok

pub returns-in-Some-clause-fault : goal.returns-in-Some-clause-fault
returns-in-Some-clause-fault c =
    let rows = rows_of (found_of c.args.options.now) in
    let second = also_is _ (λ bs r. ParsesUnsigned 32 10 bs r × ExplainsUnsignedError 10 bs r × HasUnsignedDigitsIfOk bs r) (λ u x g. g.0) (found_of c.args.options.now)
    c.get_one.result c.requires c.get_one.ensures.none c.get_one.ensures.value in
    second_fault rows c.in_ok-first.ensures.ok c.in_ok-first.ensures.list c.in_ok-first.ensures.alone second c.in-Some.is c.with_second.result c.with_second.ensures.fault c.with_second.ensures.disordered
