use Rattle.std.proofs.Common.{arith, codes}
use Rattle.std.specs.Str.Parse.{ExplainsUnsignedError, HasUnsignedDigitsIfOk, ParsesUnsigned}
use Rattle.clap.specs.Words.{found_of, rows_of}
use Rattle.wb_basics.specs.declared.limits.TheConstants.{DEFAULT_BUDGET, LARGEST_BUDGET}
use Rattle.wb_command_line.proofs.MatchesLemmas.{budget_is, given_or}
use Rattle.wb_command_line.proofs.command_line.budget_in.Goals as goal

pub returns-clause-is : goal.returns-clause-is
returns-clause-is c =
    (given_or (codes "budget") (rows_of (found_of c.args.options.now)) 1 LARGEST_BUDGET DEFAULT_BUDGET c.unwrap_or.result c.get_one.result
    (budget_is _ (λ bs r. ParsesUnsigned 32 10 bs r × ExplainsUnsignedError 10 bs r × HasUnsignedDigitsIfOk bs r) (λ u x g. g.0) (found_of c.args.options.now) c.get_one.result c.requires c.get_one.ensures.none c.get_one.ensures.value)
    (omega arith) (omega arith) c.unwrap_or.ensures).is

pub returns-clause-least : goal.returns-clause-least
returns-clause-least c =
    (given_or (codes "budget") (rows_of (found_of c.args.options.now)) 1 LARGEST_BUDGET DEFAULT_BUDGET c.unwrap_or.result c.get_one.result
    (budget_is _ (λ bs r. ParsesUnsigned 32 10 bs r × ExplainsUnsignedError 10 bs r × HasUnsignedDigitsIfOk bs r) (λ u x g. g.0) (found_of c.args.options.now) c.get_one.result c.requires c.get_one.ensures.none c.get_one.ensures.value)
    (omega arith) (omega arith) c.unwrap_or.ensures).least

pub returns-clause-most : goal.returns-clause-most
returns-clause-most c =
    (given_or (codes "budget") (rows_of (found_of c.args.options.now)) 1 LARGEST_BUDGET DEFAULT_BUDGET c.unwrap_or.result c.get_one.result
    (budget_is _ (λ bs r. ParsesUnsigned 32 10 bs r × ExplainsUnsignedError 10 bs r × HasUnsignedDigitsIfOk bs r) (λ u x g. g.0) (found_of c.args.options.now) c.get_one.result c.requires c.get_one.ensures.none c.get_one.ensures.value)
    (omega arith) (omega arith) c.unwrap_or.ensures).most
