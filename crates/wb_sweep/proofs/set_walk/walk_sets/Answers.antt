-- Proof: walk_sets. What is cut of so many numbers is so of at most as many as are asked for.
use Rattle.std.proofs.Common.{rules, ◌≡◌, ◌+◌, Err, arith}
use Rattle.wb_sweep.specs.declared.fault.Unswept.TheVariants.{Cut}
use Rattle.wb_runs.specs.Sweeps.{set_of}
use Rattle.wb_sweep.proofs.SetPartLemmas.{cut-weaker}
use Rattle.wb_sweep.proofs.set_walk.walk_sets.Goals as goal

pub returns-in_err-found-clause-cut : goal.returns-in_err-found-clause-cut
returns-in_err-found-clause-cut g c at why e =
    let is : c.find_of_many.result ≡ Err (Cut at why) = search rules in
    let told = c.find_of_many.ensures.cut at why is in
    (told.0, cut-weaker c.args.part c.args.script.now c.args.conditions.budget c.args.conditions.shape (c.loop-fewer.fewer + 1) c.args.most (omega (arith, c.loop-fewer-test.true)) (set_of at) why told.1)
