use Rattle.std.proofs.Common.{◌≡◌, ◌<◌, true, length, slice_set, subst, sym, IfSome}
use Rattle.wb_heap_model.specs.Row.{cell_at}
use Rattle.wb_heap_model.specs.CellRow.{payload_of}
use Rattle.wb_meaning.specs.Statements.{is_raw}
use Rattle.wb_heap_model.specs.Debug.{Debug, debug_changed}
use Rattle.wb_machine.specs.RunState.{RunState}
use Rattle.wb_machine.specs.TextInvariant.{AreTexts}
use Rattle.wb_machine.proofs.kept.StackBeside.{becomes, stored_beside}
use Rattle.wb_machine.proofs.kept.TextInvariant.{texts_stored}
use Rattle.wb_machine.proofs.state.State.set_word.Goals as goal

pub invariant_of-self : goal.invariant_of-self
invariant_of-self c =
    let d = c.self.inside.heap in
    let p = c.args.ptr in
    let within = subst (λ (x : RunState). c.args.word < length (payload_of p x.debug.heap.row)) (sym c.self.view_is) c.requires.within in
    let raw = subst (λ (x : RunState). IfSome (cell_at p x.debug.heap.row) (λ c. is_raw c.head.kind ≡ true)) (sym c.self.view_is) c.requires.raw in
    record {
      sound = c.set_payload.ensures.sound;
      texts = subst (λ (x : Debug). AreTexts x.heap.row) (sym c.set_payload.ensures.changed) (texts_stored p _ d.heap.row raw c.self.invariant.texts);
      stands = (stored_beside c.self.inside.cleanup d c.set_payload.new.self p c.args.word _ c.self.invariant.stands within raw c.set_payload.ensures.changed).stands;
    }

pub returns-clause-changed : goal.returns-clause-changed
returns-clause-changed c =
    let d = c.self.inside.heap in
    let p = c.args.ptr in
    let within = subst (λ (x : RunState). c.args.word < length (payload_of p x.debug.heap.row)) (sym c.self.view_is) c.requires.within in
    let raw = subst (λ (x : RunState). IfSome (cell_at p x.debug.heap.row) (λ c. is_raw c.head.kind ≡ true)) (sym c.self.view_is) c.requires.raw in
    becomes c.self.inside c.args.self.now c.set_payload.new.self (λ x. debug_changed x p (slice_set (payload_of p x.heap.row) c.args.word c.args.value)) c.self.view_is
    (stored_beside c.self.inside.cleanup d c.set_payload.new.self p c.args.word _ c.self.invariant.stands within raw c.set_payload.ensures.changed) c.set_payload.ensures.changed
