-- Proof: try_in_order. What is found along the lead is so of the part.
use Rattle.std.proofs.Common.{◌≡◌, true, arith, min, ap, ◌∙◌, subst}
use Rattle.std.proofs.Math.Nat.{min-le_right}
use Rattle.wb_runs.specs.Parts.{last_attempt}
use Rattle.wb_runs.specs.Sweeps.{is_fine, runs_of}
use Rattle.wb_sweep.proofs.AnswerLemmas.{map_ok, map_some}
use Rattle.wb_sweep.proofs.PartFound.{cut-of-part, fine-of-part, found-of-part}
use Rattle.wb_sweep.proofs.sweeping.try_in_order.Goals as goal

pub find_among-requires-clause-last : goal.find_among-requires-clause-last
find_among-requires-clause-last g c =
    let old = c.args.lead.now in
    let last = last_attempt c.args.failures old.script old.budget old.shape in
    let most = min-le_right c.args.part.to last in
    let end : c.min.result ≡ min c.args.part.to last = c.min.ensures ∙ ap (min c.args.part.to) c.requires.last in
    omega (arith, most, end)

pub find_among-requires-clause-fine : goal.find_among-requires-clause-fine
find_among-requires-clause-fine g c n from lt =
    let old = c.args.lead.now in
    let runs = runs_of c.args.failures old.script old.budget old.shape in
    let none : 0 ≡ n = omega (arith, lt, c.requires.start.1) in
    subst (λ k. is_fine (runs k) ≡ true) none (c.requires.fine (omega (arith, from, lt, c.requires.start.1)))

pub returns-clause-fine : goal.returns-clause-fine
returns-clause-fine g c =
    let old = c.args.lead.now in
    let last = last_attempt c.args.failures old.script old.budget old.shape in
    let end : c.min.result ≡ min c.args.part.to last = c.min.ensures ∙ ap (min c.args.part.to) c.requires.last in
    map_ok c.find_among.result (λ found fine none.
    fine-of-part (runs_of c.args.failures old.script old.budget old.shape) c.args.part last c.min.result end (fine none)) c.find_among.ensures.fine

pub returns-clause-found : goal.returns-clause-found
returns-clause-found g c =
    let old = c.args.lead.now in
    let last = last_attempt c.args.failures old.script old.budget old.shape in
    let end : c.min.result ≡ min c.args.part.to last = c.min.ensures ∙ ap (min c.args.part.to) c.requires.last in
    map_ok c.find_among.result (λ found is. map_some found (λ bad.
    found-of-part c.args.failures c.args.part old.script old.budget old.shape c.min.result end c.requires.uncut bad.at bad.result) is) c.find_among.ensures.found

pub returns-clause-cut : goal.returns-clause-cut
returns-clause-cut g c at why e =
    let old = c.args.lead.now in
    let last = last_attempt c.args.failures old.script old.budget old.shape in
    let end : c.min.result ≡ min c.args.part.to last = c.min.ensures ∙ ap (min c.args.part.to) c.requires.last in
    cut-of-part c.args.failures c.args.part old.script old.budget old.shape c.min.result end c.requires.uncut at why (c.find_among.ensures.cut at why e)
