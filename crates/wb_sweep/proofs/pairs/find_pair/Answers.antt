-- Proof: find_pair. The least set of at most two attempts is the least pair, since no single failure shows anything.
use Rattle.std.proofs.Common.{rules, ◌≡◌, Err, ap, ◌∙◌, sym, subst}
use Rattle.wb_runs.specs.declared.failures.Failing.{Failing}
use Rattle.wb_runs.specs.declared.failures.Failures.TheVariants.{Pairs}
use Rattle.wb_runs.specs.Parts.{IsFoundIn, IsLeastCutIn}
use Rattle.wb_runs.proofs.FewSets.{paired-none, single-none}
use Rattle.wb_sweep.specs.declared.fault.Unswept.TheVariants.{Cut}
use Rattle.wb_sweep.specs.SetSearch.{IsFoundAsSet}
use Rattle.wb_sweep.proofs.PairSets.{pair-cut, pair-found}
use Rattle.wb_sweep.proofs.pairs.find_pair.Goals as goal

pub find_larger-requires-clause-single : goal.find_larger-requires-clause-single
find_larger-requires-clause-single g c = (single-none c.args.part c.args.script.now c.args.conditions.budget c.args.conditions.shape).1 c.requires.single

pub returns-in-Ok-None-clause-none : goal.returns-in-Ok-None-clause-none
returns-in-Ok-None-clause-none g c e =
    (paired-none c.args.part c.args.script.now c.args.conditions.budget c.args.conditions.shape).0
    (record { uncut = c.requires.single.uncut; fine = c.in-Ok-None.ensures.none (search rules) })

pub returns-in-Ok-Some-clause-found : goal.returns-in-Ok-Some-clause-found
returns-in-Ok-Some-clause-found g c =
    let part = c.args.part in
    let script = c.args.script.now in
    let set = c.in-Ok-Some.found in
    let single = (single-none part script c.args.conditions.budget c.args.conditions.shape).1 c.requires.single in
    let found : IsFoundAsSet part 2 script c.args.conditions.budget c.args.conditions.shape set.at set.result = search rules in
    subst (λ (f : Failing). IsFoundIn Pairs part script c.args.conditions.budget c.args.conditions.shape f set.result) (sym c.as_pair-pair.ensures)
    (pair-found part script c.args.conditions.budget c.args.conditions.shape single set.at set.result found)

pub returns-in-Err-Cut-clause-cut : goal.returns-in-Err-Cut-clause-cut
returns-in-Err-Cut-clause-cut g c at why e =
    let part = c.args.part in
    let script = c.args.script.now in
    let set = c.in-Err-Cut in
    let single = (single-none part script c.args.conditions.budget c.args.conditions.shape).1 c.requires.single in
    let named : c.as_pair-cut.result ≡ at = cc in
    let whys : set.why ≡ why = cc in
    let told = c.find_larger.ensures.cut set.at set.why (search rules) in
    let cut = pair-cut part script c.args.conditions.budget c.args.conditions.shape single set.at set.why told in
    let pair = subst (λ (f : Failing). IsLeastCutIn Pairs part script c.args.conditions.budget c.args.conditions.shape f set.why) (sym c.as_pair-cut.ensures ∙ named) cut in
    subst (λ w. IsLeastCutIn Pairs part script c.args.conditions.budget c.args.conditions.shape at w) whys pair
