-- Proof: search_every_set. What the search over states says where it gives up is what the sweep says.
use Rattle.std.proofs.Common.{◌≡◌, ℕ, ◌≤◌, Ok, ap, subst}
use Rattle.wb_runs.specs.SetParts.{IsNoSetIn}
use Rattle.wb_sweep.proofs.every_set.search_every_set.Goals as goal

pub returns-in-ManyStates-clause-many : goal.returns-in-ManyStates-clause-many
returns-in-ManyStates-clause-many g c most e =
    let fine : ℕ = c.in-ManyStates.fine in
    let same : fine ≡ most = cc in
    let is = c.in_ok-searched.ensures.many fine (ap (λ x. Ok x) c.in-ManyStates.is) in
    subst (λ n. (1 ≤ n) × IsNoSetIn c.args.part n c.args.script.now c.args.conditions.budget c.args.conditions.shape) same
    (is.0, record { uncut = c.requires.uncut; fine = is.1 })
