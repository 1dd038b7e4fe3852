use Rattle.std.proofs.Common.{◌∙◌, ◌-◌, arith}
use Rattle.wb_script.proofs.names.Tables.{all_named, one_more_named}
use Rattle.wb_script.proofs.checks.tables.names_of.Goals as goal

pub loop-at-preserved : goal.loop-at-preserved
loop-at-preserved c =
    let at = c.loop-at.at in
    let some = c.loop-at-test.true in
    let within = c.loop-at.invariant.within in
    record {
      within = omega (arith, within);
      so_far = λ name. c.in_ok-insert.ensures.updates.0 name
          ∙ one_more_named c.args.items.now at (at - 1) c.index-items-at.result name.now _ (omega (arith, some)) within (c.loop-at.invariant.so_far name);
    }

pub returns : goal.returns
returns c = λ name. c.loop-at.invariant.so_far name ∙ all_named c.args.items.now c.loop-at.at name.now c.loop-at-test.false
