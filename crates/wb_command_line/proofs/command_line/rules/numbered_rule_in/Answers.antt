-- Proof: numbered_rule_in. What was read of the four options is what they were given, in their ranges.
use Rattle.std.proofs.Common.{◌≡◌, Bool, subst, true, false}
use Rattle.std.specs.Prelude.{IfOk, OnErr, OnOk}
use Rattle.std.specs.Str.Parse.{ExplainsUnsignedError, HasUnsignedDigitsIfOk, ParsesUnsigned}
use Rattle.clap.specs.Words.{found_of, rows_of}
use Rattle.wb_heap_model.specs.declared.heap.Rule.{Rule}
use Rattle.wb_command_line.proofs.MatchesLemmas.{every_is, fail_from_is, fail_is, limit_is, low_enough, rule_as, rule_read, several_as}
use Rattle.wb_command_line.proofs.command_line.rules.numbered_rule_in.Goals as goal

pub rule_by-requires-clause-limit : goal.rule_by-requires-clause-limit
rule_by-requires-clause-limit c =
    low_enough _ _ c.get_one-limit.result (limit_is _ (λ bs r. ParsesUnsigned 32 10 bs r × ExplainsUnsignedError 10 bs r × HasUnsignedDigitsIfOk bs r) (λ u x g. g.0)
    (found_of c.args.options.now) c.get_one-limit.result c.requires c.get_one-limit.ensures.none c.get_one-limit.ensures.value)

pub rule_by-requires-clause-number : goal.rule_by-requires-clause-number
rule_by-requires-clause-number c =
    low_enough _ _ c.get_one-number.result (fail_is _ (λ bs r. ParsesUnsigned 32 10 bs r × ExplainsUnsignedError 10 bs r × HasUnsignedDigitsIfOk bs r) (λ u x g. g.0)
    (found_of c.args.options.now) c.get_one-number.result c.requires c.get_one-number.ensures.none c.get_one-number.ensures.value)

pub rule_by-requires-clause-rate : goal.rule_by-requires-clause-rate
rule_by-requires-clause-rate c =
    low_enough _ _ c.get_one-rate.result (every_is _ (λ bs r. ParsesUnsigned 32 10 bs r × ExplainsUnsignedError 10 bs r × HasUnsignedDigitsIfOk bs r) (λ u x g. g.0)
    (found_of c.args.options.now) c.get_one-rate.result c.requires c.get_one-rate.ensures.none c.get_one-rate.ensures.value)

pub rule_by-requires-clause-first : goal.rule_by-requires-clause-first
rule_by-requires-clause-first c =
    low_enough _ _ c.get_one-first.result (fail_from_is _ (λ bs r. ParsesUnsigned 32 10 bs r × ExplainsUnsignedError 10 bs r × HasUnsignedDigitsIfOk bs r) (λ u x g. g.0)
    (found_of c.args.options.now) c.get_one-first.result c.requires c.get_one-first.ensures.none c.get_one-first.ensures.value)

pub returns-clause-ok : goal.returns-clause-ok
returns-clause-ok c =
    let read = rule_read _ (λ bs r. ParsesUnsigned 32 10 bs r × ExplainsUnsignedError 10 bs r × HasUnsignedDigitsIfOk bs r) (λ u x g. g.0) (found_of c.args.options.now)
    c.get_one-limit.result c.get_one-number.result c.get_one-rate.result c.get_one-first.result c.requires
    c.get_one-limit.ensures.none c.get_one-limit.ensures.value c.get_one-number.ensures.none c.get_one-number.ensures.value
    c.get_one-rate.ensures.none c.get_one-rate.ensures.value c.get_one-first.ensures.none c.get_one-first.ensures.value in
    subst (λ (is : Rule). IfOk c.rule_by.result (λ rule. rule ≡ is)) (rule_as read) c.rule_by.ensures.ok

pub returns-clause-alone : goal.returns-clause-alone
returns-clause-alone c =
    let read = rule_read _ (λ bs r. ParsesUnsigned 32 10 bs r × ExplainsUnsignedError 10 bs r × HasUnsignedDigitsIfOk bs r) (λ u x g. g.0) (found_of c.args.options.now)
    c.get_one-limit.result c.get_one-number.result c.get_one-rate.result c.get_one-first.result c.requires
    c.get_one-limit.ensures.none c.get_one-limit.ensures.value c.get_one-number.ensures.none c.get_one-number.ensures.value
    c.get_one-rate.ensures.none c.get_one-rate.ensures.value c.get_one-first.ensures.none c.get_one-first.ensures.value in
    subst (λ (b : Bool). OnOk c.rule_by.result (b ≡ false)) (several_as read) c.rule_by.ensures.alone

pub returns-clause-both : goal.returns-clause-both
returns-clause-both c =
    let read = rule_read _ (λ bs r. ParsesUnsigned 32 10 bs r × ExplainsUnsignedError 10 bs r × HasUnsignedDigitsIfOk bs r) (λ u x g. g.0) (found_of c.args.options.now)
    c.get_one-limit.result c.get_one-number.result c.get_one-rate.result c.get_one-first.result c.requires
    c.get_one-limit.ensures.none c.get_one-limit.ensures.value c.get_one-number.ensures.none c.get_one-number.ensures.value
    c.get_one-rate.ensures.none c.get_one-rate.ensures.value c.get_one-first.ensures.none c.get_one-first.ensures.value in
    subst (λ (b : Bool). OnErr c.rule_by.result (b ≡ true)) (several_as read) c.rule_by.ensures.both
