use Rattle.std.proofs.Common.{◌<◌, ◌++◌, ◌∷◌, [], ap, sym, ◌∙◌, length, arith}
use Rattle.std.proofs.lemmas.Bool.{eqb-true}
use Rattle.wb_renaming.specs.SameButNumbers.{AllBeside, IsSameItem}
use Rattle.wb_cleanup.specs.Stacks.{items_of}
use Rattle.wb_machine.proofs.likeness.GrownMaps.{grown-twice}
use Rattle.wb_machine.proofs.likeness.ItemsAlike.{newest-last, newest-none, none-there, items-next, items-done}
use Rattle.wb_machine.proofs.alike.cells.same_items.Goals as goal

pub loop-item-preserved : goal.loop-item-preserved
loop-item-preserved c =
    let heap = c.args.heap.now in
    let other_heap = c.args.other_heap.now in
    let now = items_of c.loop-item.left heap in
    let other_now = items_of c.loop-item.other_left other_heap in
    let popped = c.in-Some.ensures.taken in
    let other_popped = c.in-Some-take_top.ensures.taken in
    let last = newest-last now c.in-Some.item (sym c.take_top.ensures.item ∙ c.in-Some.is) in
    let other_last = newest-last other_now c.in-Some-take_top.other_item (sym c.take_top-in-Some.ensures.item ∙ c.in-Some-take_top.is) in
    record {
      stands = popped.stands heap c.loop-item.invariant.stands;
      other_stands = other_popped.stands other_heap c.loop-item.invariant.other_stands;
      lead = items-next now other_now (items_of c.take_top.new.self heap) (items_of c.take_top-in-Some.new.self other_heap) c.in-Some.item c.in-Some-take_top.other_item
          (λ more. AllBeside (IsSameItem more) (items_of c.args.stack heap) (items_of c.args.other other_heap)) c.loop-item.names.names c.same_item.new.names.names
          (last ∙ ap (λ xs. xs ++ c.in-Some.item ∷ []) (sym (popped.items heap c.loop-item.invariant.stands)))
          (other_last ∙ ap (λ xs. xs ++ c.in-Some-take_top.other_item ∷ []) (sym (other_popped.items other_heap c.loop-item.invariant.other_stands)))
          c.same_item.ensures.grown.pairs (c.same_item.ensures.same c.if-not-same_item.false) c.loop-item.invariant.lead;
      grown = grown-twice c.loop-item.invariant.grown c.same_item.ensures.grown;
    }

pub returns-clause-same : goal.returns-clause-same
returns-clause-same c e =
    let heap = c.args.heap.now in
    let other_heap = c.args.other_heap.now in
    let now = items_of c.loop-item.left heap in
    let other_now = items_of c.loop-item.other_left other_heap in
    let none : length other_now < 1 = omega (arith, c.loop-item.invariant.other_stands.counted, c.used.ensures, eqb-true c.used.result 0 e) in
    items-done now other_now (λ more. AllBeside (IsSameItem more) (items_of c.args.stack heap) (items_of c.args.other other_heap)) c.loop-item.names.names
    (newest-none now (sym c.take_top.ensures.item ∙ c.in_default.is)) (none-there other_now none) c.loop-item.invariant.lead
