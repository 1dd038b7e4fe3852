use Rattle.clap.specs.Words.{found_of}
use Rattle.wb_command_line.proofs.MatchesLemmas.{brief_is}
use Rattle.wb_command_line.proofs.command_line.brief_in.Goals as goal

pub returns : goal.returns
returns c = brief_is (found_of c.args.options.now) c.get_flag.result c.requires c.get_flag.ensures.none c.get_flag.ensures.value c.get_flag.ensures.other
