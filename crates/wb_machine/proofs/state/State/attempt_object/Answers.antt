use Rattle.wb_tree.specs.Bodies.{class_at}
use Rattle.wb_objects.specs.Objects.{object_made}
use Rattle.wb_machine.specs.StateView.{run_state}
use Rattle.wb_machine.proofs.effects.UnchangedByAttempts.{called_keeps}
use Rattle.wb_machine.proofs.kept.StackBeside.{becomes_ok, keeps_seen}
use Rattle.wb_machine.proofs.effects.ObjectsMade.{object_called, object_stays, texts_with_object}
use Rattle.wb_machine.proofs.turns.Scripts.{object_fits}
use Rattle.wb_machine.proofs.kept.TextInvariant.{texts_called}
use Rattle.wb_machine.proofs.state.State.attempt_object.Goals as goal

pub make-requires-clause-bytes : goal.make-requires-clause-bytes
make-requires-clause-bytes c = object_fits c.args.script.now c.requires.script c.args.class

pub invariant_of-self : goal.invariant_of-self
invariant_of-self c =
    let d = c.self.inside.heap in
    let call = c.make in
    let class = class_at c.args.script.now c.args.class in
    record {
      sound = call.ensures.sound;
      texts = texts_called call.result d (object_made d c.args.class class).debug call.new.heap (texts_with_object d c.args.class class c.self.invariant.texts) c.self.invariant.texts
          call.ensures.made call.ensures.err;
      stands = (object_called d c.args.class class call.result c.self.inside.cleanup call.new.heap c.self.invariant call.ensures.made call.ensures.err).stands;
    }

pub returns-clause-made : goal.returns-clause-made
returns-clause-made c =
    let call = c.make in
    let class = class_at c.args.script.now c.args.class in
    becomes_ok call.result c.self.inside c.args.self.now call.new.heap (λ d. (object_made d c.args.class class).debug) c.self.view_is
    (object_called c.self.inside.heap c.args.class class call.result c.self.inside.cleanup call.new.heap c.self.invariant call.ensures.made call.ensures.err) call.ensures.made

pub returns-clause-keeps : goal.returns-clause-keeps
returns-clause-keeps c =
    let h = run_state c.self.inside in
    let call = c.make in
    let class = class_at c.args.script.now c.args.class in
    keeps_seen c.self.inside c.args.self.now call.new.heap c.self.view_is
    (object_called h.debug c.args.class class call.result c.self.inside.cleanup call.new.heap c.self.invariant call.ensures.made call.ensures.err)
    (called_keeps call.result h (object_made h.debug c.args.class class).debug call.new.heap (object_stays h c.args.class class) call.ensures.made call.ensures.err)
