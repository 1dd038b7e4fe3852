use Rattle.std.proofs.Common.{◌++◌, ◌<◌, [], ◌∷◌, length, take, sym, ap, subst, ◌∙◌, arith, append_assoc}
use Rattle.std.proofs.lemmas.List.{take_all, take_more}
use Rattle.std.proofs.lemmas.List.Elements.{All-push}
use Rattle.wb_heap_model.specs.Texts.{AreUnits}
use Rattle.wb_heap_model.proofs.TextCells.{IsUnit}
use Rattle.wb_hbuf.specs.Sources.{source_units}
use Rattle.wb_hbuf.proofs.WrittenUnits.{units-counted}
use Rattle.wb_hbuf.proofs.reading.append_each.Goals as goal

pub loop-i-preserved : goal.loop-i-preserved
loop-i-preserved c =
    let us = source_units c.args.heap.now [] c.args.source in
    let old = c.args.to.now.items in
    let i = c.loop-i.i in
    let u = c.foreign_unit.result in
    let lt : i < length us = omega (arith, units-counted c.args.heap.now [] c.args.source, c.loop-i-test.true, c.count-i-end.ensures) in
    record {
      items = c.push.ensures.items ∙ ap (λ vs. vs ++ u ∷ []) c.loop-i.invariant.items ∙ append_assoc old (take i us) (u ∷ [])
          ∙ ap (λ v. old ++ (take i us ++ v ∷ [])) c.foreign_unit.ensures ∙ ap (λ vs. old ++ vs) (sym (take_more us i 0 lt));
      are_units = λ all. subst AreUnits (sym c.push.ensures.items) (All-push IsUnit c.loop-i.to.items u (c.loop-i.invariant.are_units all) c.foreign_unit.type_inv);
    }

pub returns-clause-items : goal.returns-clause-items
returns-clause-items c =
    let us = source_units c.args.heap.now [] c.args.source in
    c.loop-i.invariant.items
    ∙ ap (λ vs. c.args.to.now.items ++ vs) (take_all c.loop-i.i us (omega (arith, units-counted c.args.heap.now [] c.args.source, c.loop-i-test.false, c.count-i-end.ensures)))
