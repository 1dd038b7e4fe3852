-- Proof: tell_next. What is told is by the end of the fork's run.
use Rattle.std.proofs.Common.{◌≡◌, ◌+◌, ◌++◌, ap, sym, ◌∙◌}
use Rattle.wb_runs.specs.RunEnds.{end_of}
use Rattle.wb_runs.specs.Sweeps.{runs_of}
use Rattle.wb_sweep.specs.AllOfAPart.{line_if_told, line_of}
use Rattle.wb_sweep.proofs.AnswerLemmas.{map_ok}
use Rattle.wb_sweep.proofs.TellLemmas.{line_by_end}
use Rattle.wb_sweep.proofs.all_numbers.tell_next.Goals as goal

pub returns-clause-told : goal.returns-clause-told
returns-clause-told g c =
    let lead = c.args.lead.now in
    let ends = c.args.ends.now in
    let number = c.args.number in
    let runs = runs_of c.args.failures lead.script lead.budget lead.shape in
    let next = lead.attempts + 1 in
    let end : c.end_of_fork.result ≡ end_of (runs next).outcome = c.end_of_fork.ensures (runs 0) (runs next) c.in_ok-forked.ensures.known c.requires.end in
    map_ok c.tell.result (λ _ told asks begun.
    told ∙ ap (λ e. ends ++ line_if_told c.args.listing number e) end ∙ ap (λ line. ends ++ line) (line_by_end c.args.listing number (runs next))
    ∙ ap (λ n. ends ++ line_of c.args.listing number (runs n)) (sym c.requires.number)) c.tell.ensures
