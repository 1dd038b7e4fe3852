use Rattle.std.proofs.Common.{ap, ◌∙◌, sym}
use Rattle.wb_heap_model.specs.Debug.{Debug}
use Rattle.wb_heap_model.specs.Space.{limit_under}
use Rattle.wb_heap_model.proofs.RuleLemmas.{same-limit}
use Rattle.wb_debug.proofs.DebugFields.{kept-sound}
use Rattle.wb_debug.proofs.debug_heap.DebugHeap.set_rule.Goals as goal

pub returns-clause-sound : goal.returns-clause-sound
returns-clause-sound c =
    let kept = c.self.invariant in
    let same = same-limit c.args.rule c.args.self.now.rule c.args.self.now.attempts c.requires.same in
    kept-sound _ (record {
      sound = kept.sound;
      limit = kept.limit ∙ ap (λ (d : Debug). limit_under d.rule) c.self.view_is ∙ sym same;
      numbered = kept.numbered;
      counted = kept.counted;
      untraced = kept.untraced;
      stepped = kept.stepped;
      reached = kept.reached;
      tallied = kept.tallied;
    })
