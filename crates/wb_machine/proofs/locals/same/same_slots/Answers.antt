use Rattle.std.proofs.Common.{arith, ap}
use Rattle.std.proofs.lemmas.List.{drop_all}
use Rattle.wb_renaming.specs.SameButNumbers.{AllBeside, none_beside, one_beside, IsSameValue}
use Rattle.wb_renaming.proofs.SameNumbers.{value-later}
use Rattle.wb_machine.specs.LocalValues.{values_stored}
use Rattle.wb_machine.proofs.likeness.GrownMaps.{by-both, grown-twice}
use Rattle.wb_machine.proofs.locals.same.same_slots.Goals as goal

pub loop-i-preserved : goal.loop-i-preserved
loop-i-preserved c = record {
  lead = λ more f rest.
      c.loop-i.invariant.lead more (λ a b r. f a b (c.same_stored.ensures.grown.pairs a b r))
      (by-both (AllBeside (IsSameValue more)) (ap (values_stored c.args.buffers.now) c.slot_at-slot.ensures) (ap (values_stored c.args.other_buffers.now) c.slot_at-other.ensures)
      (one_beside (value-later f (c.same_stored.ensures.same c.if-not-same_stored.false)) rest));
  grown = grown-twice c.loop-i.invariant.grown c.same_stored.ensures.grown;
}

pub returns-clause-same : goal.returns-clause-same
returns-clause-same c e =
    c.loop-i.invariant.lead c.loop-i.names.names (λ a b r. r)
    (by-both (AllBeside (IsSameValue c.loop-i.names.names))
    (ap (values_stored c.args.buffers.now) (drop_all c.loop-i.i c.args.stored.now (omega (arith, c.loop-i-test.false))))
    (ap (values_stored c.args.other_buffers.now) (drop_all c.loop-i.i c.args.others.now (omega (arith, c.loop-i-test.false, c.if-others-count.false)))) none_beside)
