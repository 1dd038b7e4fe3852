-- Proof: find_lengths. The table is the right one, and says which lengths are bad and which runs are cut.
use Rattle.std.proofs.Common.{rules, sym, ◌∙◌}
use Rattle.wb_runs.specs.Lengths.{IsLengthTable}
use Rattle.wb_lengths.proofs.TableLemmas.{none_cut, some_cut}
use Rattle.wb_lengths.proofs.all_lengths.find_lengths.Goals as goal

pub returns : goal.returns
returns g c =
    let table : IsLengthTable c.args.script.now c.args.conditions.budget c.args.conditions.shape c.in-Some.table = search rules in
    record {
      table = table;
      bad = c.in_ok-find_bad-in-Some.ensures.bad;
      none = c.in_ok-find_bad-in-Some.ensures.none;
      cut = λ is. some_cut c.args.script.now c.args.conditions.budget c.args.conditions.shape c.in-Some.table table (sym c.has_cut.ensures ∙ is);
      uncut = λ is. none_cut c.args.script.now c.args.conditions.budget c.args.conditions.shape c.in-Some.table table (sym c.has_cut.ensures ∙ is);
    }
