use Rattle.std.proofs.Common.{◌+◌, ◌∷◌, ◌++◌, [], refl, sym, ap, ◌∙◌, arith}
use Rattle.wb_heap_model.specs.Debug.{debug_changed}
use Rattle.wb_cleanup.specs.Stacks.{items_of}
use Rattle.wb_cleanup.proofs.Rewriting.{payload-then}
use Rattle.wb_cleanup.proofs.StackInHeap.{stack-more, Stands, stack-room}
use Rattle.wb_cleanup.proofs.cleanup.Cleanup.put.Goals as goal

pub write-requires-clause-within : goal.write-requires-clause-within
write-requires-clause-within c = omega (arith, stack-room c.args.self.now c.args.heap.now c.requires.stands, c.requires.room)

pub write-requires-clause-bounded : goal.write-requires-clause-bounded
write-requires-clause-bounded c = omega (arith, stack-room c.args.self.now c.args.heap.now c.requires.stands, c.requires.stands.bounded)

-- the stack with the item
after : (c : goal.After-self-1) → Stands (record c.args.self.now { used = c.args.self.now.used + 1 }) (items_of c.args.self.now c.args.heap.now ++ c.args.item ∷ []) c.write.new.heap
after c =
    stack-more c.args.self.now _ c.args.heap.now c.write.new.heap c.args.item c.requires.stands c.write.ensures.item c.requires.room c.write.ensures.written refl refl refl

pub returns-clause-items : goal.returns-clause-items
returns-clause-items c = (after c).items_are

pub returns-clause-heap : goal.returns-clause-heap
returns-clause-heap c =
    let d = c.args.heap.now in
    let p = c.args.self.now.cell in
    c.write.ensures.written
    ∙ ap (debug_changed d p) (sym (payload-then p d c.write.new.heap _ (omega (arith, stack-room c.args.self.now d c.requires.stands, c.requires.room)) c.write.ensures.written))

pub returns-clause-stands : goal.returns-clause-stands
returns-clause-stands c = (after c).is
