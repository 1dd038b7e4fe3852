use Rattle.std.proofs.Common.{◌≡◌, Bool, subst, true, false}
use Rattle.std.specs.Prelude.{IfOk, OnErr, OnOk}
use Rattle.clap.specs.Words.{found_of, rows_of}
use Rattle.wb_runs.specs.declared.failures.Failures.{Failures}
use Rattle.wb_command_line.specs.Spelled.{are_too_many, failures_by, failures_of, gives_too_many}
use Rattle.wb_command_line.proofs.MatchesLemmas.{all_is, ends_is, pairs_is, persistent_is, rates_is}
use Rattle.wb_command_line.proofs.command_line.searches.failures_in.Goals as goal

pub returns : goal.returns
returns c =
    let found = found_of c.args.options.now in
    let rates = rates_is found c.get_flag-rates.result c.requires.passed c.get_flag-rates.ensures.none c.get_flag-rates.ensures.value c.get_flag-rates.ensures.other in
    let persistent = persistent_is found c.get_flag-persistent.result c.requires.passed c.get_flag-persistent.ensures.none c.get_flag-persistent.ensures.value c.get_flag-persistent.ensures.other in
    let pairs = pairs_is found c.get_flag-pairs.result c.requires.passed c.get_flag-pairs.ensures.none c.get_flag-pairs.ensures.value c.get_flag-pairs.ensures.other in
    let all = all_is found c.get_flag-all.result c.requires.passed c.get_flag-all.ensures.none c.get_flag-all.ensures.value c.get_flag-all.ensures.other in
    let ends = ends_is found c.get_flag-ends.result c.requires.passed c.get_flag-ends.ensures.none c.get_flag-ends.ensures.value c.get_flag-ends.ensures.other in
    let many : are_too_many c.get_flag-rates.result c.get_flag-persistent.result c.get_flag-pairs.result c.get_flag-all.result c.get_flag-ends.result c.args.is_of_few c.args.is_of_every_set
    ≡ gives_too_many (rows_of found) =
    λ i. are_too_many (rates i) (persistent i) (pairs i) (all i) (ends i) (c.requires.few i) (c.requires.every i) in
    let named : failures_by c.get_flag-rates.result c.get_flag-persistent.result c.get_flag-pairs.result ≡ failures_of (rows_of found) =
    λ i. failures_by (rates i) (persistent i) (pairs i) in
    record {
      ok = subst (λ (f : Failures). IfOk c.failures_or_sets.result (λ failures. failures ≡ f)) named c.failures_or_sets.ensures.ok;
      alone = subst (λ (b : Bool). OnOk c.failures_or_sets.result (b ≡ false)) many c.failures_or_sets.ensures.alone;
      fault = c.failures_or_sets.ensures.fault;
      both = subst (λ (b : Bool). OnErr c.failures_or_sets.result (b ≡ true)) many c.failures_or_sets.ensures.both;
    }
