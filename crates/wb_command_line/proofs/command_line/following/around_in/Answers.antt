use Rattle.std.specs.Str.Parse.{ExplainsUnsignedError, HasUnsignedDigitsIfOk, ParsesUnsigned}
use Rattle.clap.specs.Words.{found_of}
use Rattle.wb_command_line.proofs.MatchesLemmas.{follow_around_is}
use Rattle.wb_command_line.proofs.command_line.following.around_in.Goals as goal

pub returns : goal.returns
returns c =
    let read = follow_around_is _ (λ bs r. ParsesUnsigned 32 10 bs r × ExplainsUnsignedError 10 bs r × HasUnsignedDigitsIfOk bs r) (λ u x g. g.0) (found_of c.args.options.now)
    c.get_one.result c.requires c.get_one.ensures.none c.get_one.ensures.value in
    record { is = read.is; range = read.within }
