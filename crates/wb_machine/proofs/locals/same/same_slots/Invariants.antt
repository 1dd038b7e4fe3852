use Rattle.std.proofs.Common.{drop}
use Rattle.wb_renaming.specs.SameButNumbers.{AllBeside, IsSameValue}
use Rattle.wb_machine.specs.Alike.{IsGrown}
use Rattle.wb_machine.specs.LocalValues.{values_stored}
use Rattle.wb_machine.proofs.likeness.GrownMaps.{LeadsTo}
use Rattle.wb_machine.proofs.locals.same.same_slots.Given as goal

abbrev pub invariant-loop-i : goal.invariant-loop-i
invariant-loop-i l = record {
  lead : LeadsTo (λ more. AllBeside (IsSameValue more) (values_stored l.buffers (drop l.i l.stored)) (values_stored l.other_buffers (drop l.i l.others)))
      (λ more. AllBeside (IsSameValue more) (values_stored l.buffers l.stored) (values_stored l.other_buffers l.others)) l.names.names;
  grown : IsGrown l.initial.names l.names;
}
