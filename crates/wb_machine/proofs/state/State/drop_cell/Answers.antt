use Rattle.std.proofs.Common.{◌≡◌, subst, sym, false, IsSome, IfSome}
use Rattle.wb_heap_model.specs.Row.{cell_at, without}
use Rattle.wb_heap_model.specs.Heap.{is_cleanup}
use Rattle.wb_heap_model.specs.Debug.{Debug, with_row}
use Rattle.wb_machine.specs.RunState.{RunState}
use Rattle.wb_machine.specs.StackInvariant.{StandsIn}
use Rattle.wb_machine.specs.TextInvariant.{AreTexts}
use Rattle.wb_machine.proofs.kept.StackBeside.{Stays, becomes, dropped_as, dropped_beside}
use Rattle.wb_machine.proofs.kept.TextInvariant.{texts_without}
use Rattle.wb_machine.proofs.state.State.drop_cell.Goals as goal

pub invariant_of-self : goal.invariant_of-self
invariant_of-self c =
    let d = c.self.inside.heap in
    let p = c.args.ptr in
    let live = subst (λ (x : RunState). IsSome (cell_at p x.debug.heap.row)) (sym c.self.view_is) c.requires.live in
    let other = subst (λ (x : RunState). IfSome (cell_at p x.debug.heap.row) (λ c. is_cleanup c.head.kind ≡ false)) (sym c.self.view_is) c.requires.other in
    let is = dropped_as d c.release.new.self p c.requires.number c.in-Ok.ensures.released in
    record {
      sound = c.release.ensures.sound;
      texts = subst (λ (x : Debug). AreTexts x.heap.row) (sym is) (texts_without p d.heap.row c.self.invariant.texts);
      stands = subst (λ (x : Debug). StandsIn c.self.inside.cleanup x.heap.row) (sym is) (dropped_beside c.self.inside.cleanup d p c.self.invariant.stands live other).stands;
    }

pub returns : goal.returns
returns c =
    let d = c.self.inside.heap in
    let p = c.args.ptr in
    let live = subst (λ (x : RunState). IsSome (cell_at p x.debug.heap.row)) (sym c.self.view_is) c.requires.live in
    let other = subst (λ (x : RunState). IfSome (cell_at p x.debug.heap.row) (λ c. is_cleanup c.head.kind ≡ false)) (sym c.self.view_is) c.requires.other in
    let is = dropped_as d c.release.new.self p c.requires.number c.in-Ok.ensures.released in
    becomes c.self.inside c.args.self.now c.release.new.self (λ x. with_row x (without p x.heap.row)) c.self.view_is
    (subst (λ (x : Debug). Stays c.self.inside.cleanup d x) (sym is) (dropped_beside c.self.inside.cleanup d p c.self.invariant.stands live other)) is
