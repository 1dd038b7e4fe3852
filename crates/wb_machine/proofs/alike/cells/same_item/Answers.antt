use Rattle.wb_renaming.specs.SameButNumbers.{IsSameItem, same_free, same_delete, same_call}
use Rattle.std.proofs.Common.{subst}
use Rattle.wb_heap_model.specs.declared.heap.Item.TheVariants as I
use Rattle.wb_machine.proofs.likeness.GrownMaps.{by-both}
use Rattle.wb_machine.proofs.alike.cells.same_item.Goals as goal

pub returns-in-Free-Free-clause-same : goal.returns-in-Free-Free-clause-same
returns-in-Free-Free-clause-same c e =
    by-both (IsSameItem c.relate_pointers.new.self.names) c.in-Free-Free.is-0 c.in-Free-Free.is-1 (same_free (c.relate_pointers.ensures.same e))

pub returns-in-Delete-Delete-clause-same : goal.returns-in-Delete-Delete-clause-same
returns-in-Delete-Delete-clause-same c e =
    by-both (IsSameItem c.relate_pointers-in-Delete-Delete.new.self.names) c.in-Delete-Delete.is-0 c.in-Delete-Delete.is-1
    (same_delete (c.relate_pointers-in-Delete-Delete.ensures.same e))

pub returns-then-operation-other_operation-clause-same : goal.returns-then-operation-other_operation-clause-same
returns-then-operation-other_operation-clause-same c e =
    let names = c.relate_pointers-then-operation-other_operation.new.self.names in
    let w = c.in-Call-Call in
    by-both (IsSameItem names) w.is-0 w.is-1
    (subst (λ n. IsSameItem names (I.Call w.ptr w.operation) (I.Call w.other n)) c.if-operation-other_operation.true
    (same_call w.operation (c.relate_pointers-then-operation-other_operation.ensures.same e)))
