-- Proof: find_along, find_next and find_with. What is found among the sets with one more number is the least, since those with a lesser one are fine.
use Rattle.std.proofs.Common.{rules, ◌≡◌, ◌+◌, ◌-◌, ◌<◌, ℕ, List, Err, false, arith, length, sym, subst, ◌∙◌}
use Rattle.std.proofs.lemmas.Bool.{true≢false}
use Rattle.wb_heap_model.specs.declared.heap.Shape.{Shape}
use Rattle.wb_tree.specs.declared.script.Script.{Script}
use Rattle.wb_runs.specs.Sets.{set_run}
use Rattle.wb_sweep.specs.declared.fault.Unswept.TheVariants.{Cut}
use Rattle.wb_sweep.specs.SetSearch.{AreFewerFine, AreFine, IsCutAfter, IsCutWith, IsFoundAfter, IsFoundWith}
use Rattle.wb_sweep.proofs.AnswerLemmas.{map_ok, map_some}
use Rattle.wb_sweep.proofs.Further.{IsOfSameRun, of-same, to-same}
use Rattle.wb_sweep.proofs.SetSearchLemmas.{cut-further, cut-outside, fewer-inside, fine-after, fine-outside, found-further, found-outside}
use Rattle.wb_sweep.proofs.sets.+sets.Goals as goal

pub find_along-returns-in_err-found-clause-cut : goal.find_along-returns-in_err-found-clause-cut
find_along-returns-in_err-found-clause-cut g t c at why e =
    let old = c.args.lead.now in
    let lead = c.loop-lead.lead in
    let before = c.loop-lead.invariant in
    let number = c.attempts-number.result + 1 in
    let made = c.attempts-number.ensures.so_far in
    let same : IsOfSameRun old lead = record { script = before.script; budget = before.budget; shape = before.shape } in
    let is : c.find_next.result ≡ Err (Cut at why) = search rules in
    let (later, cut) = c.find_next.ensures.cut at why is in
    let with_it = of-same old lead same (λ (s : Script) (b : ℕ) (h : Shape). IsCutWith (set_run s b h) c.args.set.now number c.args.more at why) cut in
    cut-further (set_run old.script old.budget old.shape) c.args.set.now c.args.past lead.attempts c.args.more number (omega (arith, made)) later before.fine at why with_it

pub find_along-returns-then-is_some-clause-found :
    goal.find_along-returns-then-is_some-clause-found
find_along-returns-then-is_some-clause-found g t c =
    let old = c.args.lead.now in
    let lead = c.loop-lead.lead in
    let before = c.loop-lead.invariant in
    let number = c.attempts-number.result + 1 in
    let made = c.attempts-number.ensures.so_far in
    let same : IsOfSameRun old lead = record { script = before.script; budget = before.budget; shape = before.shape } in
    map_some c.in_ok-found.found (λ bad is.
    found-further (set_run old.script old.budget old.shape) c.args.set.now c.args.past lead.attempts c.args.more number (omega (arith, made)) is.0 before.fine bad
    (of-same old lead same (λ (s : Script) (b : ℕ) (h : Shape). IsFoundWith (set_run s b h) c.args.set.now number c.args.more bad) is.1)) c.in_ok-found.ensures.found

pub find_along-returns-clause-fine : goal.find_along-returns-clause-fine
find_along-returns-clause-fine g t c e =
    let old = c.args.lead.now in
    let end = c.loop-lead-test.false in
    let so_far = c.attempts.ensures.so_far in
    fine-after old.script old.budget old.shape c.args.set.now c.args.past c.args.more c.loop-lead.lead.attempts c.requires.more c.requires.fewer
    (omega (arith, end, so_far, c.requires.last)) c.loop-lead.invariant.fine

pub find_with-find_along-requires : goal.find_with-find_along-requires
find_with-find_along-requires g t c κs within =
    let lead = c.args.lead.now in
    let fork = c.in_ok-fork.fork in
    let is = c.in_ok-fork.ensures in
    let numbers = c.in_ok-numbers.numbers in
    let same : IsOfSameRun lead fork = record { script = is.script; budget = is.budget; shape = is.shape } in
    let several : 1 < c.args.more = omega (arith, c.if-more-le1.false) in
    let last = to-same lead fork same (λ (s : Script) (b : ℕ) (h : Shape). c.in_ok-last.last ≡ length (set_run s b h numbers).trace) c.in_ok-last.ensures in
    let fewer = to-same lead fork same (λ (s : Script) (b : ℕ) (h : Shape). AreFewerFine (set_run s b h) numbers c.args.number (c.args.more - 1))
    (subst (λ (xs : List ℕ). AreFewerFine (set_run lead.script lead.budget lead.shape) xs c.args.number (c.args.more - 1)) (sym c.in_ok-numbers.ensures)
    (fewer-inside (set_run lead.script lead.budget lead.shape) c.args.set.now c.args.number c.args.more several c.requires.fewer)) in
    let begun : fork.begun ≡ false → fork.steps ≡ 0 = λ e. absurd (true≢false (sym is.begun ∙ e)) in
    (search rules, (search rules, (is.rule, (begun, (is.within, (is.well, (is.start, (last, (omega (arith, several), fewer)))))))))

pub find_with-returns-clause-fine : goal.find_with-returns-clause-fine
find_with-returns-clause-fine g t c =
    let lead = c.args.lead.now in
    let fork = c.in_ok-fork.fork in
    let is = c.in_ok-fork.ensures in
    let same : IsOfSameRun lead fork = record { script = is.script; budget = is.budget; shape = is.shape } in
    let several : 1 < c.args.more = omega (arith, c.if-more-le1.false) in
    map_ok c.find_along.result (λ found fine none.
    fine-outside (set_run lead.script lead.budget lead.shape) c.args.set.now c.args.number c.args.more several
    (subst (λ (xs : List ℕ). AreFine (set_run lead.script lead.budget lead.shape) xs c.args.number (c.args.more - 1)) c.in_ok-numbers.ensures
    (of-same lead fork same (λ (s : Script) (b : ℕ) (h : Shape). AreFine (set_run s b h) c.in_ok-numbers.numbers c.args.number (c.args.more - 1)) (fine none))))
    c.find_along.ensures.fine

pub find_with-returns-clause-found : goal.find_with-returns-clause-found
find_with-returns-clause-found g t c =
    let lead = c.args.lead.now in
    let fork = c.in_ok-fork.fork in
    let is = c.in_ok-fork.ensures in
    let same : IsOfSameRun lead fork = record { script = is.script; budget = is.budget; shape = is.shape } in
    let several : 1 < c.args.more = omega (arith, c.if-more-le1.false) in
    map_ok c.find_along.result (λ found. map_some found (λ bad told.
    found-outside (set_run lead.script lead.budget lead.shape) c.args.set.now c.args.number c.args.more several bad
    (subst (λ (xs : List ℕ). IsFoundAfter (set_run lead.script lead.budget lead.shape) xs c.args.number (c.args.more - 1) bad) c.in_ok-numbers.ensures
    (of-same lead fork same (λ (s : Script) (b : ℕ) (h : Shape). IsFoundAfter (set_run s b h) c.in_ok-numbers.numbers c.args.number (c.args.more - 1) bad) told))))
    c.find_along.ensures.found

pub find_with-returns-clause-cut : goal.find_with-returns-clause-cut
find_with-returns-clause-cut g t c at why e =
    let lead = c.args.lead.now in
    let fork = c.in_ok-fork.fork in
    let is = c.in_ok-fork.ensures in
    let same : IsOfSameRun lead fork = record { script = is.script; budget = is.budget; shape = is.shape } in
    let several : 1 < c.args.more = omega (arith, c.if-more-le1.false) in
    let told = c.find_along.ensures.cut at why e in
    cut-outside (set_run lead.script lead.budget lead.shape) c.args.set.now c.args.number c.args.more several at why
    (subst (λ (xs : List ℕ). IsCutAfter (set_run lead.script lead.budget lead.shape) xs c.args.number (c.args.more - 1) at why) c.in_ok-numbers.ensures
    (of-same lead fork same (λ (s : Script) (b : ℕ) (h : Shape). IsCutAfter (set_run s b h) c.in_ok-numbers.numbers c.args.number (c.args.more - 1) at why) told))
