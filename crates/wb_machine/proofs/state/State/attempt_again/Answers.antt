use Rattle.std.proofs.Common.{◌≡◌, subst, sym, refl, IsSome, IfSome}
use Rattle.wb_heap_model.specs.declared.heap.Kind.TheVariants.{Raw}
use Rattle.wb_heap_model.specs.Row.{cell_at}
use Rattle.wb_heap_model.specs.Debug.{realloc_made}
use Rattle.wb_machine.specs.RunState.{RunState}
use Rattle.wb_machine.specs.StateView.{run_state}
use Rattle.wb_machine.proofs.effects.UnchangedByAttempts.{realloc_keeps}
use Rattle.wb_machine.proofs.kept.StackBeside.{becomes_found, keeps_seen, raw_other, remade_beside}
use Rattle.wb_machine.proofs.kept.TextInvariant.{texts_raw_again}
use Rattle.wb_machine.proofs.state.State.attempt_again.Goals as goal

pub invariant_of-self : goal.invariant_of-self
invariant_of-self c =
    let d = c.self.inside.heap in
    let call = c.attempt_realloc in
    let found = cell_at c.args.ptr d.heap.row in
    let live = subst (λ (x : RunState). IsSome (cell_at c.args.ptr x.debug.heap.row)) (sym c.self.view_is) c.requires.live in
    let raw = subst (λ (x : RunState). IfSome (cell_at c.args.ptr x.debug.heap.row) (λ c. c.head.kind ≡ Raw)) (sym c.self.view_is) c.requires.raw in
    record {
      sound = call.ensures.sound;
      texts = texts_raw_again call.result d call.new.self found c.args.bytes live raw call.ensures.made call.ensures.err c.self.invariant.texts;
      stands = (remade_beside call.result c.self.inside.cleanup d call.new.self c.args.ptr found c.args.bytes refl c.self.invariant.sound c.self.invariant.stands live (raw_other found raw)
          call.ensures.made call.ensures.err).stands;
    }

pub returns-clause-made : goal.returns-clause-made
returns-clause-made c =
    let d = c.self.inside.heap in
    let call = c.attempt_realloc in
    let found = cell_at c.args.ptr d.heap.row in
    let live = subst (λ (x : RunState). IsSome (cell_at c.args.ptr x.debug.heap.row)) (sym c.self.view_is) c.requires.live in
    let raw = subst (λ (x : RunState). IfSome (cell_at c.args.ptr x.debug.heap.row) (λ c. c.head.kind ≡ Raw)) (sym c.self.view_is) c.requires.raw in
    becomes_found call.result c.self.inside c.args.self.now c.args.ptr call.new.self (λ x d. (realloc_made d x c.args.bytes).debug) c.self.view_is
    (remade_beside call.result c.self.inside.cleanup d call.new.self c.args.ptr found c.args.bytes refl c.self.invariant.sound c.self.invariant.stands live (raw_other found raw)
    call.ensures.made call.ensures.err) call.ensures.made

pub returns-clause-keeps : goal.returns-clause-keeps
returns-clause-keeps c =
    let h = run_state c.self.inside in
    let call = c.attempt_realloc in
    let found = cell_at c.args.ptr h.debug.heap.row in
    let live = subst (λ (x : RunState). IsSome (cell_at c.args.ptr x.debug.heap.row)) (sym c.self.view_is) c.requires.live in
    let raw = subst (λ (x : RunState). IfSome (cell_at c.args.ptr x.debug.heap.row) (λ c. c.head.kind ≡ Raw)) (sym c.self.view_is) c.requires.raw in
    keeps_seen c.self.inside c.args.self.now call.new.self c.self.view_is
    (remade_beside call.result c.self.inside.cleanup h.debug call.new.self c.args.ptr found c.args.bytes refl c.self.invariant.sound c.self.invariant.stands live (raw_other found raw)
    call.ensures.made call.ensures.err)
    (realloc_keeps call.result h call.new.self found c.args.bytes live call.ensures.made call.ensures.err)
