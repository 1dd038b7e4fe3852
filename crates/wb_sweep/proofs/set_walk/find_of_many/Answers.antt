-- Proof: find_of_many. The lead is of the script, the budget and the shape that are given.
use Rattle.std.proofs.Common.{◌≡◌, ◌+◌, Err, None, IfOk, IfSome, sym, subst}
use Rattle.wb_machine.specs.Seen.{Seen}
use Rattle.wb_meaning.specs.declared.run.Why.{Why}
use Rattle.wb_runs.specs.declared.failures.Failing.{Failing}
use Rattle.wb_runs.specs.SetParts.{AreSetsFineIn}
use Rattle.wb_sweep.specs.SetSearch.{IsCutAsSet, IsFoundAsSet}
use Rattle.wb_sweep.specs.declared.fault.Unswept.TheVariants.{Cut}
use Rattle.wb_sweep.proofs.set_walk.find_of_many.Goals as goal

pub find_among_sets-requires-clause-fine : goal.find_among_sets-requires-clause-fine
find_among_sets-requires-clause-fine g c =
    subst (λ (s : Seen). AreSetsFineIn c.args.part c.args.fewer s.script s.budget s.shape) (sym c.in_ok-lead.ensures) c.requires.fine

pub returns-clause-none : goal.returns-clause-none
returns-clause-none g c =
    subst (λ (s : Seen). IfOk c.find_among_sets.result (λ found. found ≡ None → AreSetsFineIn c.args.part (c.args.fewer + 1) s.script s.budget s.shape))
    c.in_ok-lead.ensures c.find_among_sets.ensures.none

pub returns-clause-found : goal.returns-clause-found
returns-clause-found g c =
    subst (λ (s : Seen). IfOk c.find_among_sets.result (λ found. IfSome found (λ bad.
    IsFoundAsSet c.args.part (c.args.fewer + 1) s.script s.budget s.shape bad.at bad.result)))
    c.in_ok-lead.ensures c.find_among_sets.ensures.found

pub returns-clause-cut : goal.returns-clause-cut
returns-clause-cut g c =
    subst (λ (s : Seen). (at : Failing) (why : Why) → c.find_among_sets.result ≡ Err (Cut at why) →
    IsCutAsSet c.args.part (c.args.fewer + 1) s.script s.budget s.shape at why)
    c.in_ok-lead.ensures c.find_among_sets.ensures.cut
