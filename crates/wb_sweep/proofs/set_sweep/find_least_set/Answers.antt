-- Proof: find_least_set. What single numbers show, the sets of at most one number do.
use Rattle.std.proofs.Common.{rules, ◌≡◌, ◌+◌, ◌≤◌, Err, is_some, refl, ap, ◌∙◌, subst, sym}
use Rattle.std.proofs.lemmas.Bool.{false≢true}
use Rattle.wb_runs.specs.Sweeps.{set_of}
use Rattle.wb_runs.proofs.FewSets.{single-cut, single-found, single-none}
use Rattle.wb_sweep.specs.declared.fault.Unswept.TheVariants.{Cut}
use Rattle.wb_sweep.proofs.AnswerLemmas.{map_some, nothing}
use Rattle.wb_sweep.proofs.SetPartLemmas.{any-cut-weaker, cut-as-named, cut-named, found-named, found-weaker, number-named}
use Rattle.wb_sweep.proofs.set_sweep.find_least_set.Goals as goal

pub find_larger-requires-clause-single : goal.find_larger-requires-clause-single
find_larger-requires-clause-single g c =
    let none = nothing c.in_ok-single.single.found (sym c.is_some.ensures ∙ c.if-is_some.false) in
    (single-none c.args.part c.args.script.now c.args.conditions.budget c.args.conditions.shape).1 (c.in_ok-single.ensures.swept.none none)

pub returns-in_err-single-clause-cut : goal.returns-in_err-single-clause-cut
returns-in_err-single-clause-cut g c at why e =
    let part = c.args.part in
    let script = c.args.script.now in
    let is : c.find_least.result ≡ Err (Cut at why) = search rules in
    let cut = c.find_least.ensures.cut at why is in (
      cut-named part script c.args.conditions.budget c.args.conditions.shape at why cut,
      any-cut-weaker part script c.args.conditions.budget c.args.conditions.shape 1 c.args.most c.requires.most (set_of at) why
          ((single-cut part script c.args.conditions.budget c.args.conditions.shape (set_of at) why).1 (at, refl, cut)),
    )

pub returns-in_err-single-clause-few_cut : goal.returns-in_err-single-clause-few_cut
returns-in_err-single-clause-few_cut g c at why e = c.find_least.ensures.few_cut at why (search rules)

pub returns-then-is_some-clause-swept : goal.returns-then-is_some-clause-swept
returns-then-is_some-clause-swept g c =
    let part = c.args.part in
    let script = c.args.script.now in
    let single = c.in_ok-single.single in
    let swept = c.in_ok-single.ensures.swept in
    record {
      attempts = swept.attempts;
      few = subst (λ n. n ≤ c.args.conditions.budget + 1) (sym swept.attempts) c.in_ok-single.ensures.few;
      found = map_some single.found (λ found is. (
        number-named part script c.args.conditions.budget c.args.conditions.shape found.at is.tried,
        found-weaker part script c.args.conditions.budget c.args.conditions.shape 1 c.args.most c.requires.most (set_of found.at) found.result
            ((single-found part script c.args.conditions.budget c.args.conditions.shape (set_of found.at) found.result).1 (found.at, refl, is)),
      )) swept.found;
      none = λ e. absurd (false≢true (sym (ap is_some e) ∙ sym c.is_some.ensures ∙ c.if-is_some.true));
    }

pub returns-in_err-found-clause-cut : goal.returns-in_err-found-clause-cut
returns-in_err-found-clause-cut g c at why e =
    let none = nothing c.in_ok-single.single.found (sym c.is_some.ensures ∙ c.if-is_some.false) in
    let single = (single-none c.args.part c.args.script.now c.args.conditions.budget c.args.conditions.shape).1 (c.in_ok-single.ensures.swept.none none) in
    let is : c.find_larger.result ≡ Err (Cut at why) = search rules in
    cut-as-named c.args.part c.args.script.now c.args.conditions.budget c.args.conditions.shape single.fine c.args.most at why (c.find_larger.ensures.cut at why is)

pub returns-in_err-found-clause-few_cut : goal.returns-in_err-found-clause-few_cut
returns-in_err-found-clause-few_cut g c at why e = c.in_ok-single.ensures.few

pub returns-clause-swept : goal.returns-clause-swept
returns-clause-swept g c =
    let part = c.args.part in
    let script = c.args.script.now in
    let swept = c.in_ok-single.ensures.swept in
    let none = nothing c.in_ok-single.single.found (sym c.is_some.ensures ∙ c.if-is_some.false) in
    let single = (single-none part script c.args.conditions.budget c.args.conditions.shape).1 (swept.none none) in
    record {
      attempts = swept.attempts;
      few = subst (λ n. n ≤ c.args.conditions.budget + 1) (sym swept.attempts) c.in_ok-single.ensures.few;
      found = map_some c.in_ok-found.found (λ bad is. found-named part script c.args.conditions.budget c.args.conditions.shape single.fine c.args.most bad.at bad.result is)
          c.in_ok-found.ensures.found;
      none = λ e. record { uncut = single.uncut; fine = c.in_ok-found.ensures.none e };
    }
