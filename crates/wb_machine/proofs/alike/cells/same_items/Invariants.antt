use Rattle.wb_renaming.specs.SameButNumbers.{AllBeside, IsSameItem}
use Rattle.wb_cleanup.specs.Stacks.{IsStack, count_of, items_of}
use Rattle.wb_machine.specs.Alike.{IsGrown}
use Rattle.wb_machine.proofs.likeness.GrownMaps.{LeadsTo}
use Rattle.wb_machine.proofs.alike.cells.same_items.Given as goal

abbrev pub invariant-loop-item : goal.invariant-loop-item
invariant-loop-item l = record {
  stands : IsStack l.left l.heap;
  other_stands : IsStack l.other_left l.other_heap;
  lead : LeadsTo (λ more. AllBeside (IsSameItem more) (items_of l.left l.heap) (items_of l.other_left l.other_heap))
      (λ more. AllBeside (IsSameItem more) (items_of l.fn.stack l.heap) (items_of l.fn.other l.other_heap)) l.names.names;
  grown : IsGrown l.initial.names l.names;
}

abbrev pub decreases-loop-item : goal.decreases-loop-item
decreases-loop-item l = count_of l.left
