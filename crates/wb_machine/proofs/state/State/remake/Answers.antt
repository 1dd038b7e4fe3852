use Rattle.std.proofs.Common.{◌≤◌, ◌+◌, ◌*◌, length, subst, sym, refl, ◌≡◌, None}
use Rattle.wb_heap_model.specs.Row.{cell_at}
use Rattle.wb_heap_model.specs.Debug.{realloc_made}
use Rattle.wb_heap_model.specs.TextCells.{text_at}
use Rattle.wb_machine.specs.RunState.{RunState}
use Rattle.wb_machine.specs.StateView.{run_state}
use Rattle.wb_machine.specs.TextOperands.{text_refusal}
use Rattle.wb_machine.proofs.effects.UnchangedByAttempts.{remade_keeps}
use Rattle.wb_machine.proofs.kept.StackBeside.{becomes_found, is_there, keeps_seen, remade_beside, text_other}
use Rattle.wb_machine.proofs.kept.TextInvariant.{is_text_at, texts_remade}
use Rattle.wb_machine.proofs.state.State.remake.Goals as goal

pub remake-requires-clause-text : goal.remake-requires-clause-text
remake-requires-clause-text c =
    is_text_at c.args.ptr c.self.inside.heap c.self.invariant.texts (subst (λ (x : RunState). text_refusal (cell_at c.args.ptr x.debug.heap.row) ≡ None) (sym c.self.view_is) c.requires.text)

pub invariant_of-self : goal.invariant_of-self
invariant_of-self c =
    let d = c.self.inside.heap in
    let p = c.args.ptr in
    let refused = subst (λ (x : RunState). text_refusal (cell_at p x.debug.heap.row) ≡ None) (sym c.self.view_is) c.requires.text in
    let fits = subst (λ (x : RunState). length (text_at p x.debug) ≤ c.args.units) (sym c.self.view_is) c.requires.fits in
    let is = is_text_at p d c.self.invariant.texts refused in
    record {
      sound = c.remake.ensures.sound;
      texts = texts_remade c.remake.result d c.remake.new.heap p c.args.units is fits c.remake.ensures.made c.remake.ensures.err c.self.invariant.texts;
      stands = (remade_beside c.remake.result c.self.inside.cleanup d c.remake.new.heap p (cell_at p d.heap.row) (4 + 2 * c.args.units) refl c.self.invariant.sound c.self.invariant.stands
          (is_there (cell_at p d.heap.row) is.cell is.found) (text_other p d is) c.remake.ensures.made c.remake.ensures.err).stands;
    }

pub returns-clause-made : goal.returns-clause-made
returns-clause-made c =
    let d = c.self.inside.heap in
    let p = c.args.ptr in
    let refused = subst (λ (x : RunState). text_refusal (cell_at p x.debug.heap.row) ≡ None) (sym c.self.view_is) c.requires.text in
    let is = is_text_at p d c.self.invariant.texts refused in
    becomes_found c.remake.result c.self.inside c.args.self.now p c.remake.new.heap (λ x d. (realloc_made d x (4 + 2 * c.args.units)).debug) c.self.view_is
    (remade_beside c.remake.result c.self.inside.cleanup d c.remake.new.heap p (cell_at p d.heap.row) (4 + 2 * c.args.units) refl c.self.invariant.sound c.self.invariant.stands
    (is_there (cell_at p d.heap.row) is.cell is.found) (text_other p d is) c.remake.ensures.made c.remake.ensures.err) c.remake.ensures.made

pub returns-clause-keeps : goal.returns-clause-keeps
returns-clause-keeps c =
    let h = run_state c.self.inside in
    let p = c.args.ptr in
    let refused = subst (λ (x : RunState). text_refusal (cell_at p x.debug.heap.row) ≡ None) (sym c.self.view_is) c.requires.text in
    let is = is_text_at p h.debug c.self.invariant.texts refused in
    keeps_seen c.self.inside c.args.self.now c.remake.new.heap c.self.view_is
    (remade_beside c.remake.result c.self.inside.cleanup h.debug c.remake.new.heap p (cell_at p h.debug.heap.row) (4 + 2 * c.args.units) refl c.self.invariant.sound c.self.invariant.stands
    (is_there (cell_at p h.debug.heap.row) is.cell is.found) (text_other p h.debug is) c.remake.ensures.made c.remake.ensures.err)
    (remade_keeps c.remake.result h c.remake.new.heap (cell_at p h.debug.heap.row) is.cell (4 + 2 * c.args.units) is.found c.remake.ensures.made c.remake.ensures.err)
