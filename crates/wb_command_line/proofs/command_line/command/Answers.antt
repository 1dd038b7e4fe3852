use Rattle.std.proofs.Common.{rules, ◌≡◌, ◌∙◌, ap, inr, map, subst}
use Rattle.std.proofs.lemmas.Result.{IfErr-weaker}
use Rattle.clap.specs.Words.{app_of, fault_of, found_of, is_simple_and_free, rows_of, takes, HasKind}
use Rattle.clap.proofs.TakesLemmas.{passed_up}
use Rattle.wb_command_line.specs.CommandLine.{command_line}
use Rattle.wb_command_line.specs.Fault.{IsAfterUsage, IsFaultOf}
use Rattle.wb_command_line.proofs.FaultLemmas.{fault_is, want_of_memory}
use Rattle.wb_command_line.proofs.MatchesLemmas.{after_usage, fault_by, if_spelled, is_parsed, meets_parse}
use Rattle.wb_command_line.proofs.command_line.command.Goals as goal

pub returns-in_err-matches-clause-taken : goal.returns-in_err-matches-clause-taken
returns-in_err-matches-clause-taken g c = λ takes_words is_list.
    let words = map g.S.AsStr.text c.args.words.now in
    let line : app_of c.in_ok-parser.field-0 ≡ command_line = search rules in
    let want = c.in_err-matches.ensures.passes (ap (λ a. takes a words) line ∙ takes_words) in
    passed_up c.from_residual-in_err-matches.result _ IsAfterUsage c.from_residual-in_err-matches.ensures.1 (inr (inr (inr (inr (want_of_memory c.in_err-matches.field-0.0 want)))))

pub returns-in_err-matches-clause-fault : goal.returns-in_err-matches-clause-fault
returns-in_err-matches-clause-fault g c =
    let words = map g.S.AsStr.text c.args.words.now in
    let line : app_of c.in_ok-parser.field-0 ≡ command_line = search rules in
    let kinds = c.in_err-matches.ensures.kinds (ap is_simple_and_free line) in
    passed_up c.from_residual-in_err-matches.result _ (IsFaultOf words) c.from_residual-in_err-matches.ensures.1
    (fault_is words c.in_err-matches.field-0.0 (subst (λ a. HasKind (fault_of a words) c.in_err-matches.field-0.0) line kinds))

pub command_in-requires : goal.command_in-requires
command_in-requires g c =
    let words = map g.S.AsStr.text c.args.words.now in
    let line : app_of c.in_ok-parser.field-0 ≡ command_line = search rules in
    let parse = c.in_ok-matches in
    let met = is_parsed words parse.matches (meets_parse words _ parse.matches line parse.ensures.kinds parse.ensures.matches) c.unwrap.result.0.now (rows_of (found_of c.unwrap.result.1.now))
    (rw c.unwrap.ensures at c.subcommand.ensures.name) (rw c.unwrap.ensures at c.subcommand.ensures.rows) in
    record { named = met.named; passed = met.passed }

pub returns : goal.returns
returns g c =
    let words = map g.S.AsStr.text c.args.words.now in
    let line : app_of c.in_ok-parser.field-0 ≡ command_line = search rules in
    let parse = c.in_ok-matches in
    let name = c.unwrap.result.0.now in
    let rows = rows_of (found_of c.unwrap.result.1.now) in
    let met = is_parsed words parse.matches (meets_parse words _ parse.matches line parse.ensures.kinds parse.ensures.matches) name rows
    (rw c.unwrap.ensures at c.subcommand.ensures.name) (rw c.unwrap.ensures at c.subcommand.ensures.rows) in
    let read = c.command_in.result in
    record {
      spelled = if_spelled words parse.matches name rows met read c.command_in.ensures.meant;
      numbers = c.command_in.ensures.numbers;
      taken = λ takes_words is_list. IfErr-weaker read _ _ (after_usage words parse.matches name rows met is_list) c.command_in.ensures.fault;
      fault = IfErr-weaker read _ _ (fault_by words parse.matches name rows met) c.command_in.ensures.fault;
    }
