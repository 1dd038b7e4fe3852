-- Proof: find_later. Where no number of the part shows anything there is nothing, but for pairs, which come next.
use Rattle.std.proofs.Common.{rules, ◌≡◌, Err, None, IfOk, subst, sym, ◌∙◌}
use Rattle.wb_runs.specs.declared.failures.Failures.{Failures}
use Rattle.wb_runs.specs.Parts.{last_attempt, IsLeastCutIn, IsNoneIn, IsUncut}
use Rattle.wb_runs.specs.Sweeps.{runs_of}
use Rattle.wb_sweep.specs.declared.fault.Unswept.TheVariants.{Cut}
use Rattle.wb_sweep.specs.Stretches.{AreNumbersFine}
use Rattle.wb_sweep.proofs.AnswerLemmas.{nothing}
use Rattle.wb_sweep.proofs.PartFound.{none-persistent, none-rates, none-single}
use Rattle.wb_sweep.proofs.sweeping.find_later.Goals as goal

pub returns-in_err-found-clause-cut : goal.returns-in_err-found-clause-cut
returns-in_err-found-clause-cut g c at why e =
    let is : c.try_numbers.result ≡ Err (Cut at why) = search rules in
    c.try_numbers.ensures.cut at why is

pub returns-in-Single-clause-none : goal.returns-in-Single-clause-none
returns-in-Single-clause-none g c e =
    let none = nothing c.in_ok-found.found (sym c.is_some.ensures ∙ c.if-is_some.false) in
    let uncut = subst (λ (f : Failures). IsUncut f c.args.script.now c.args.conditions.budget c.args.conditions.shape) c.in-Single.is c.requires.uncut in
    let fine = subst (λ (f : Failures). AreNumbersFine (runs_of f c.args.script.now c.args.conditions.budget c.args.conditions.shape) c.args.part (last_attempt f c.args.script.now c.args.conditions.budget c.args.conditions.shape))
    c.in-Single.is (c.in_ok-found.ensures.fine none) in
    subst (λ (f : Failures). IsNoneIn f c.args.part c.args.script.now c.args.conditions.budget c.args.conditions.shape) (sym c.in-Single.is)
    (none-single c.args.part c.args.script.now c.args.conditions.budget c.args.conditions.shape uncut fine)

pub returns-in-Every-clause-none : goal.returns-in-Every-clause-none
returns-in-Every-clause-none g c e =
    let none = nothing c.in_ok-found.found (sym c.is_some.ensures ∙ c.if-is_some.false) in
    let uncut = subst (λ (f : Failures). IsUncut f c.args.script.now c.args.conditions.budget c.args.conditions.shape) c.in-Every.is c.requires.uncut in
    let fine = subst (λ (f : Failures). AreNumbersFine (runs_of f c.args.script.now c.args.conditions.budget c.args.conditions.shape) c.args.part (last_attempt f c.args.script.now c.args.conditions.budget c.args.conditions.shape))
    c.in-Every.is (c.in_ok-found.ensures.fine none) in
    subst (λ (f : Failures). IsNoneIn f c.args.part c.args.script.now c.args.conditions.budget c.args.conditions.shape) (sym c.in-Every.is)
    (none-rates c.args.part c.args.script.now c.args.conditions.budget c.args.conditions.shape uncut fine)

pub returns-in-Persistent-clause-none : goal.returns-in-Persistent-clause-none
returns-in-Persistent-clause-none g c e =
    let none = nothing c.in_ok-found.found (sym c.is_some.ensures ∙ c.if-is_some.false) in
    let uncut = subst (λ (f : Failures). IsUncut f c.args.script.now c.args.conditions.budget c.args.conditions.shape) c.in-Persistent.is c.requires.uncut in
    let fine = subst (λ (f : Failures). AreNumbersFine (runs_of f c.args.script.now c.args.conditions.budget c.args.conditions.shape) c.args.part (last_attempt f c.args.script.now c.args.conditions.budget c.args.conditions.shape))
    c.in-Persistent.is (c.in_ok-found.ensures.fine none) in
    subst (λ (f : Failures). IsNoneIn f c.args.part c.args.script.now c.args.conditions.budget c.args.conditions.shape) (sym c.in-Persistent.is)
    (none-persistent c.args.part c.args.script.now c.args.conditions.budget c.args.conditions.shape uncut fine)

pub find_pair-requires-clause-single : goal.find_pair-requires-clause-single
find_pair-requires-clause-single g c =
    let none = nothing c.in_ok-found.found (sym c.is_some.ensures ∙ c.if-is_some.false) in
    let uncut = subst (λ (f : Failures). IsUncut f c.args.script.now c.args.conditions.budget c.args.conditions.shape) c.in-Pairs.is c.requires.uncut in
    let fine = subst (λ (f : Failures). AreNumbersFine (runs_of f c.args.script.now c.args.conditions.budget c.args.conditions.shape) c.args.part (last_attempt f c.args.script.now c.args.conditions.budget c.args.conditions.shape))
    c.in-Pairs.is (c.in_ok-found.ensures.fine none) in
    none-single c.args.part c.args.script.now c.args.conditions.budget c.args.conditions.shape uncut fine

pub returns-clause-none : goal.returns-clause-none
returns-clause-none g c =
    subst (λ (f : Failures). IfOk c.find_pair.result (λ found. found ≡ None → IsNoneIn f c.args.part c.args.script.now c.args.conditions.budget c.args.conditions.shape)) (sym c.in-Pairs.is)
    c.find_pair.ensures.none

pub returns-clause-cut : goal.returns-clause-cut
returns-clause-cut g c at why e =
    subst (λ (f : Failures). IsLeastCutIn f c.args.part c.args.script.now c.args.conditions.budget c.args.conditions.shape at why) (sym c.in-Pairs.is) (c.find_pair.ensures.cut at why e)
