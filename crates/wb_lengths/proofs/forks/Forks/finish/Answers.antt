-- Proof: finish. What the run under its set shows, its result tells.
use Rattle.std.proofs.Common.{sym, ◌∙◌}
use Rattle.wb_lengths.proofs.ForkLemmas.{set-grants-within, set-tells}
use Rattle.wb_lengths.proofs.forks.Forks.finish.Goals as goal

pub shows_run_in-requires : goal.shows_run_in-requires
shows_run_in-requires c =
    let m = c.args.run.machine in
    set-grants-within m.script m.budget m.shape c.in_ok-result.numbers c.in_ok-result.field-0-0.result c.in_ok-result.ensures

pub returns-clause-tells : goal.returns-clause-tells
returns-clause-tells c =
    let m = c.args.run.machine in
    set-tells m.script m.budget m.shape c.args.length c.in_ok-result.numbers c.in_ok-result.field-0-0.result c.in_ok-result.ensures
    (sym c.shows_run_in.ensures ∙ c.if-not-shows_run_in.false)
