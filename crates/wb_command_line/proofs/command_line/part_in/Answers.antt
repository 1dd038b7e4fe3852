use Rattle.std.proofs.Common.{◌≡◌, arith, codes}
use Rattle.std.specs.Str.Parse.{ExplainsUnsignedError, HasUnsignedDigitsIfOk, ParsesUnsigned}
use Rattle.clap.specs.Words.{found_of, rows_of}
use Rattle.wb_basics.specs.declared.limits.TheConstants.{CEILING}
use Rattle.wb_runs.specs.declared.part.Part.{Part}
use Rattle.wb_command_line.specs.Spelled.{part_of}
use Rattle.wb_command_line.proofs.MatchesLemmas.{from_is, given_or, to_is}
use Rattle.wb_command_line.proofs.command_line.part_in.Goals as goal

pub returns : goal.returns
returns c =
    let from = given_or (codes "from") (rows_of (found_of c.args.options.now)) 0 CEILING 0 c.unwrap_or-from.result c.get_one.result
    (from_is _ (λ bs r. ParsesUnsigned 32 10 bs r × ExplainsUnsignedError 10 bs r × HasUnsignedDigitsIfOk bs r) (λ u x g. g.0) (found_of c.args.options.now) c.get_one.result c.requires c.get_one.ensures.none c.get_one.ensures.value) (omega arith) (omega arith) c.unwrap_or-from.ensures in
    let to = given_or (codes "to") (rows_of (found_of c.args.options.now)) 0 CEILING CEILING c.unwrap_or-to.result c.get_one-2.result
    (to_is _ (λ bs r. ParsesUnsigned 32 10 bs r × ExplainsUnsignedError 10 bs r × HasUnsignedDigitsIfOk bs r) (λ u x g. g.0) (found_of c.args.options.now) c.get_one-2.result c.requires c.get_one-2.ensures.none c.get_one-2.ensures.value) (omega arith) (omega arith) c.unwrap_or-to.ensures in
    let part : ◌≡◌ {A = Part} (record { from = c.unwrap_or-from.result; to = c.unwrap_or-to.result }) (part_of (rows_of (found_of c.args.options.now))) =
    λ i. record { from = from.is i; to = to.is i } in
    record { is = part; most = to.most }
