use Rattle.std.proofs.Common.{true, refl, sym, ap, ◌+◌}
use Rattle.wb_cleanup.specs.Pushes.{cell_by, slots_by}
use Rattle.wb_cleanup.specs.Stacks.{items_of}
use Rattle.wb_cleanup.proofs.Growing.{grown-by}
use Rattle.wb_cleanup.proofs.StackInHeap.{Stands}
use Rattle.wb_cleanup.proofs.cleanup.Cleanup.grow.Goals as goal

-- the stack in a cell that was granted
wider : (c : goal.After-self-1) →
    Stands (record c.args.self.now { cell = c.in-Granted.cell; slots = c.args.self.now.slots + 4 }) (items_of c.args.self.now c.args.heap.now) c.attempt_realloc.new.self
wider c =
    grown-by c.args.self.now _ c.args.heap.now c.attempt_realloc.new.self c.requires.stands c.in_ok-cell.ensures.sound c.in_ok-cell.field-0
    c.in_ok-cell.ensures.gave c.in_ok-cell.ensures.made (sym (ap (cell_by c.args.self.now.cell) c.in-Granted.is))
    (sym (ap (slots_by true c.args.self.now.slots) c.in-Granted.is)) refl

pub returns-in-Granted-clause-items : goal.returns-in-Granted-clause-items
returns-in-Granted-clause-items c = record { items = (wider c).items_are; count = refl }

pub returns-in-Granted-clause-stands : goal.returns-in-Granted-clause-stands
returns-in-Granted-clause-stands c = (wider c).is

pub returns-in-Denied-clause-stands : goal.returns-in-Denied-clause-stands
returns-in-Denied-clause-stands c =
    (grown-by c.args.self.now c.args.self.now c.args.heap.now c.attempt_realloc.new.self c.requires.stands c.in_ok-cell.ensures.sound c.in_ok-cell.field-0
    c.in_ok-cell.ensures.gave c.in_ok-cell.ensures.made (sym (ap (cell_by c.args.self.now.cell) c.in-Denied.is))
    (sym (ap (slots_by true c.args.self.now.slots) c.in-Denied.is)) refl).is

pub returns-in-Ceiling-clause-stands : goal.returns-in-Ceiling-clause-stands
returns-in-Ceiling-clause-stands c =
    (grown-by c.args.self.now c.args.self.now c.args.heap.now c.attempt_realloc.new.self c.requires.stands c.in_ok-cell.ensures.sound c.in_ok-cell.field-0
    c.in_ok-cell.ensures.gave c.in_ok-cell.ensures.made (sym (ap (cell_by c.args.self.now.cell) c.in-Ceiling.is))
    (sym (ap (slots_by true c.args.self.now.slots) c.in-Ceiling.is)) refl).is
