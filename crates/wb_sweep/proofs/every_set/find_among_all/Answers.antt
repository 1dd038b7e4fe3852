-- Proof: find_among_all. A cut is that of a sweep over single numbers, or of the search through all sets.
use Rattle.std.proofs.Common.{rules, ◌≡◌, Err}
use Rattle.wb_runs.specs.Sweeps.{set_of}
use Rattle.wb_sweep.specs.declared.fault.Unswept.TheVariants.{Cut}
use Rattle.wb_sweep.proofs.SetPartLemmas.{cut-of-any-size}
use Rattle.wb_sweep.proofs.every_set.find_among_all.Goals as goal

pub returns-in_err-single-clause-cut : goal.returns-in_err-single-clause-cut
returns-in_err-single-clause-cut g c at why e =
    let told : c.find_least_set.result ≡ Err (Cut at why) = search rules in
    let cut = c.find_least_set.ensures.cut at why told in
    (cut.0, cut-of-any-size c.args.part c.args.script.now c.args.conditions.budget c.args.conditions.shape 1 (set_of at) why cut.1)

pub returns-in_err-found-clause-cut : goal.returns-in_err-found-clause-cut
returns-in_err-found-clause-cut g c at why e = c.search_every_set.ensures.cut at why (search rules)
