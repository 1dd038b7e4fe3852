use Rattle.std.proofs.Common.{sym}
use Rattle.wb_renaming.specs.SameButNumbers.{AllBeside, IsSamePointer, IsSameValue, IsSameCell}
use Rattle.wb_renaming.proofs.SameNumbers.{Extends, all-weaker, pointer-later, value-later, item-later}
use Rattle.wb_machine.specs.RunState.{RunState, read_row}
use Rattle.wb_machine.proofs.likeness.GrownMaps.{by-both}
use Rattle.wb_machine.proofs.state.State.is_like.Goals as goal

pub returns-clause-callers : goal.returns-clause-callers
returns-clause-callers c e =
    let names = c.same_cells.new.names.names in
    let from_locals : Extends c.are_like.new.names.names names = λ a b r. c.same_cells.ensures.grown.pairs a b (c.has_stack_of.ensures.grown.pairs a b r) in
    by-both (λ (h g : RunState). AllBeside (IsSameValue names) h.callers g.callers) (sym c.self.view_is) (sym c.other.view_is)
    (all-weaker (λ v u r. value-later from_locals r) (c.are_like.ensures.callers c.if-not-are_like.false))

pub returns-clause-state : goal.returns-clause-state
returns-clause-state c e script =
    let names = c.same_cells.new.names.names in
    let from_stack : Extends c.has_stack_of.new.names.names names = c.same_cells.ensures.grown.pairs in
    let from_locals : Extends c.are_like.new.names.names names = λ a b r. from_stack a b (c.has_stack_of.ensures.grown.pairs a b r) in
    let from_this : Extends c.relate_pointers.new.self.names names = λ a b r. from_locals a b (c.are_like.ensures.grown.pairs a b r) in
    let h = c.args.self.now in
    let g = c.args.other.now in
    record {
      heap = record {
        row = by-both (λ (x y : RunState). AllBeside (IsSameCell names) (read_row script x.debug.heap.row) (read_row script y.debug.heap.row)) (sym c.self.view_is) (sym c.other.view_is)
            (c.same_cells.ensures.same e script);
        level = c.has_counts_of.ensures.level c.if-not-has_counts_of.false;
        setting = c.has_counts_of.ensures.setting c.if-not-has_counts_of.false;
        placement = c.has_counts_of.ensures.placement c.if-not-has_counts_of.false;
      };
      cleanup = pointer-later from_stack (c.has_stack_of.ensures.cell c.if-not-has_stack_of.false);
      items = all-weaker (λ i j r. item-later from_stack r) (c.has_stack_of.ensures.items c.if-not-has_stack_of.false);
      slots = c.has_stack_of.ensures.slots c.if-not-has_stack_of.false;
      frame = record {
        this = by-both (λ (x y : RunState). IsSamePointer names x.this y.this) (sym c.self.view_is) (sym c.other.view_is)
            (pointer-later from_this (c.relate_pointers.ensures.same c.if-not-relate_pointers.false));
        locals = by-both (λ (x y : RunState). AllBeside (IsSameValue names) x.locals y.locals) (sym c.self.view_is) (sym c.other.view_is)
            (all-weaker (λ v u r. value-later from_locals r) (c.are_like.ensures.locals c.if-not-are_like.false));
      };
    }
