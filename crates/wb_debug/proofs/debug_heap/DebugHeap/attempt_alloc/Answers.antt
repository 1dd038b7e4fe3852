use Rattle.std.proofs.Common.{◌≡◌, ◌+◌, Some, is_some, true, refl, ap, subst, sym, ◌∙◌, arith}
use Rattle.wb_heap_model.specs.declared.heap.Attempt.{Attempt}
use Rattle.wb_heap_model.specs.Debug.{Debug, IsSoundDebug, answer_in, number_of_next}
use Rattle.wb_heap_model.specs.Reported.{trace_line}
use Rattle.wb_heap_model.specs.Heap.{after_alloc, alloc_request, request_at}
use Rattle.wb_heap_model.specs.LimitedHeap.{zero_words}
use Rattle.wb_heap_model.specs.Rises.{rises_with}
use Rattle.wb_heap_model.specs.Rules.{Request}
use Rattle.wb_heap_model.specs.Space.{limit_under}
use Rattle.wb_debug.specs.declared.debug_heap.DebugHeap.TheInside.{Inside}
use Rattle.wb_debug.specs.Debug.{IsKept}
use Rattle.wb_debug.proofs.DebugFields.{kept-sound, tally-room, set-kept, granted-kept, refused-kept, on-ok, on-err}
use Rattle.wb_debug.proofs.Rises.{rises-same, granted-within, no_want, allocation, end-of-grant}
use Rattle.wb_debug.proofs.debug_heap.DebugHeap.attempt_alloc.Goals.{in-Granted+in_ok-gave-in-Granted, in-Simulated}
use Rattle.wb_debug.proofs.debug_heap.DebugHeap.attempt_alloc.Goals as goal

pub returns-in_default-clause-sound : goal.returns-in_default-clause-sound
returns-in_default-clause-sound c = subst IsSoundDebug c.self.view_is (kept-sound c.self.inside c.self.invariant)

pub returns-in_err-added-clause-sound : goal.returns-in_err-added-clause-sound
returns-in_err-added-clause-sound c =
    kept-sound _ (set-kept c.self.inside c.self.inside.heap c.self.inside.level c.self.inside.setting c.push.new.self refl c.in_err-added.ensures.err c.self.invariant)

pub returns-in_err-gave-in-Granted-clause-sound : goal.returns-in_err-gave-in-Granted-clause-sound
returns-in_err-gave-in-Granted-clause-sound c =
    kept-sound _ (set-kept c.self.inside c.alloc_at-granted.new.self c.self.inside.level c.self.inside.setting c.answer_or_undo.new.log
    (on-err c.alloc_at-granted.result _ c.in_err-gave-in-Granted.ensures.wanting c.alloc_at-granted.ensures.err)
    (c.in_err-gave-in-Granted.ensures.undone c.self.inside.log c.in-Some.line c.in_ok-added.ensures.pushed (sym c.in_ok-added.ensures.added)) c.self.invariant)

pub returns-in_err-gave-in-Granted-clause-quiet : goal.returns-in_err-gave-in-Granted-clause-quiet
returns-in_err-gave-in-Granted-clause-quiet c measuring same =
    let d = c.args.self.now in
    let inside = c.self.inside in
    let line = c.in-Some.line in
    let t = alloc_request d.heap c.args.bytes in
    let asked = allocation inside d c.args.bytes c.cell_length-length.result c.place_for-place.result c.self.view_is c.cell_length-length.ensures.exact c.place_for-place.ensures.place in
    let answer : answer_in d t ≡ Some line.answer = ap (answer_in d) (sym asked) ∙ sym c.in-Some.ensures.answer in
    let added = c.in-Some.ensures.line ∙ ap (λ t. trace_line (number_of_next d) t line.answer) asked in
    let stays : rises_with d.rises line ≡ d.rises = rises-same d t (after_alloc d.heap t c.args.kind (zero_words t.length)) line answer added same in
    let within = granted-within d.rule (number_of_next d) t (answer ∙ ap Some c.in-Granted.is) in
    let limit = c.self.invariant.limit ∙ ap (λ (x : Debug). limit_under x.rule) c.self.view_is in
    let places = ap (λ (t : Request). t.place + t.length) asked in
    absurd (no_want inside line _ c.alloc_at-granted.result c.self.invariant
    (end-of-grant line (number_of_next d) (request_at d.heap c.place_for-place.result c.cell_length-length.result) c.in-Some.ensures.line c.in-Granted.is ∙ ap (λ p. p + c.cell_length-length.result) c.place_for-place.ensures.place)
    (subst (λ (x : Debug). is_some x.rises ≡ true) (sym c.self.view_is) measuring)
    (subst (λ (x : Debug). rises_with x.rises line ≡ x.rises) (sym c.self.view_is) stays)
    (omega (arith, within, limit, places, c.place_for-place.ensures.place)) c.in_err-gave-in-Granted.ensures.wanting c.alloc_at-granted.ensures.refusals.no_other
    (λ e. c.alloc_at-granted.ensures.refusals.short.0 e) c.alloc_at-granted.ensures.refusals.no_growth)

pub invariant_of-self-2 : goal.invariant_of-self-2
invariant_of-self-2 c =
    let next = ap (λ (a : Attempt). a.number) c.in-Some.ensures.line ∙ ap (λ (d : Debug). d.attempts + 1) (sym c.self.view_is) in
    elim c.match-line.branch [
      | in-Granted+in_ok-gave-in-Granted w ↦
          subst (λ (x : Inside). IsKept (record x { setting = c.after_attempt-self-inside.result; attempts = c.in-Some.line.number })) (sym w.self-inside-is)
          (granted-kept c.self.inside w.alloc_at-granted.new.self c.after_attempt-self-inside.result w.answer_or_undo.new.log w.grant.new.self c.in-Some.line _ _ _ _
          (on-ok w.alloc_at-granted.result _ _ w.in_ok-gave-in-Granted.ensures.granted w.alloc_at-granted.ensures.granted)
          next c.place_for-place.ensures.place
          (end-of-grant c.in-Some.line _ (request_at c.args.self.now.heap c.place_for-place.result c.cell_length-length.result) c.in-Some.ensures.line w.in-Granted.is)
          w.alloc_at-granted.ensures.sound
          (w.in_ok-gave-in-Granted.ensures.kept ∙ c.in_ok-added.ensures.pushed) w.grant.ensures c.self.invariant)
      | in-Simulated w ↦
          subst (λ (x : Inside). IsKept (record x { setting = c.after_attempt-self-inside.result; attempts = c.in-Some.line.number })) (sym w.self-inside-is)
          (refused-kept c.self.inside c.after_attempt-self-inside.result c.push.new.self c.in-Some.line c.in_ok-added.ensures.pushed next w.in-Simulated.is c.self.invariant)
    ]

pub returns-clause-sound : goal.returns-clause-sound
returns-clause-sound c = kept-sound _ (invariant_of-self-2 c)

pub grant-requires : goal.grant-requires
grant-requires c = record { room = tally-room c.self.inside c.self.invariant }
