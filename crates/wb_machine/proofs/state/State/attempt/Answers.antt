use Rattle.std.proofs.Common.{ap, ◌∙◌}
use Rattle.wb_heap_model.specs.Debug.{alloc_made}
use Rattle.wb_machine.specs.RunState.{RunState}
use Rattle.wb_machine.specs.StateView.{run_state}
use Rattle.wb_machine.proofs.effects.UnchangedByAttempts.{alloc_level, alloc_stays, called_keeps}
use Rattle.wb_machine.proofs.kept.StackBeside.{alloc_called, becomes_ok, keeps_seen}
use Rattle.wb_machine.proofs.kept.TextInvariant.{texts_called, texts_allocated}
use Rattle.wb_machine.proofs.state.State.attempt.Goals as goal

pub invariant_of-self : goal.invariant_of-self
invariant_of-self c =
    let d = c.self.inside.heap in
    let call = c.attempt_alloc in
    record {
      sound = call.ensures.sound;
      texts = texts_called call.result d (alloc_made d c.args.bytes c.args.kind).debug call.new.self (texts_allocated d c.args.bytes c.args.kind c.requires.text c.self.invariant.texts) c.self.invariant.texts
          call.ensures.made call.ensures.err;
      stands = (alloc_called call.result c.self.inside.cleanup d call.new.self c.args.bytes c.args.kind c.self.invariant call.ensures.made call.ensures.err).stands;
    }

pub returns-clause-made : goal.returns-clause-made
returns-clause-made c =
    let call = c.attempt_alloc in
    becomes_ok call.result c.self.inside c.args.self.now call.new.self (λ d. (alloc_made d c.args.bytes c.args.kind).debug) c.self.view_is
    (alloc_called call.result c.self.inside.cleanup c.self.inside.heap call.new.self c.args.bytes c.args.kind c.self.invariant call.ensures.made call.ensures.err) call.ensures.made

pub returns-clause-keeps : goal.returns-clause-keeps
returns-clause-keeps c =
    let h = run_state c.self.inside in
    let call = c.attempt_alloc in
    keeps_seen c.self.inside c.args.self.now call.new.self c.self.view_is
    (alloc_called call.result c.self.inside.cleanup h.debug call.new.self c.args.bytes c.args.kind c.self.invariant call.ensures.made call.ensures.err)
    (called_keeps call.result h (alloc_made h.debug c.args.bytes c.args.kind).debug call.new.self (alloc_stays h c.args.bytes c.args.kind) call.ensures.made call.ensures.err)

pub returns-clause-level : goal.returns-clause-level
returns-clause-level c =
    alloc_level c.attempt_alloc.result c.self.inside.heap c.attempt_alloc.new.self c.args.bytes c.args.kind c.attempt_alloc.ensures.made c.attempt_alloc.ensures.err
    ∙ ap (λ (h : RunState). h.debug.heap.level) c.self.view_is
