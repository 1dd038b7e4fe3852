use Rattle.std.proofs.Common.{◌≡◌, IfSome, IsOk, true, refl, ap, subst, sym, ◌∙◌, arith}
use Rattle.wb_heap_model.specs.declared.heap.Attempt.{Attempt}
use Rattle.wb_heap_model.specs.declared.heap.Gave.{Gave}
use Rattle.wb_heap_model.specs.declared.heap.Gave.TheVariants.{Granted}
use Rattle.wb_heap_model.specs.Debug.{Debug, IsSoundDebug, keeps_rises, realloc_made}
use Rattle.wb_heap_model.specs.Row.{cell_at}
use Rattle.wb_heap_model.specs.Rules.{after_attempt}
use Rattle.wb_debug.specs.declared.debug_heap.DebugHeap.TheInside.{Inside}
use Rattle.wb_debug.specs.Debug.{debug_of, IsKept}
use Rattle.wb_debug.specs.Setting.{setting_of}
use Rattle.wb_debug.proofs.DebugFields.{kept-sound, set-kept, refused-kept, on-ok, on-err, ok-value}
use Rattle.wb_rheap.proofs.Growing.{own-named}
use Rattle.wb_debug.proofs.Longer.{IsAsked, asked, granted-debug, granted-gave, denied-debug, denied-gave, grown-kept, grown-quiet, shortened-kept, shortened-gave, shortened-debug, asked-cell}
use Rattle.wb_debug.proofs.debug_heap.DebugHeap.attempt_realloc.Goals.{in-Granted+in_ok-gave-in-Granted, in-Simulated}
use Rattle.wb_debug.proofs.debug_heap.DebugHeap.attempt_realloc.Goals as goal

pub returns-in_default-clause-sound : goal.returns-in_default-clause-sound
returns-in_default-clause-sound c = subst IsSoundDebug c.self.view_is (kept-sound c.self.inside c.self.invariant)

pub returns-in_err-added-clause-sound : goal.returns-in_err-added-clause-sound
returns-in_err-added-clause-sound c =
    kept-sound _ (set-kept c.self.inside c.self.inside.heap c.self.inside.level c.self.inside.setting c.push.new.self refl c.in_err-added.ensures.err c.self.invariant)

pub invariant_of-self-in_err-gave-in-Granted : goal.invariant_of-self-in_err-gave-in-Granted
invariant_of-self-in_err-gave-in-Granted c =
    set-kept c.self.inside c.lengthen-granted.new.self c.self.inside.level c.self.inside.setting c.answer_or_undo.new.log
    (on-err c.lengthen-granted.result _ c.in_err-gave-in-Granted.ensures.wanting c.lengthen-granted.ensures.err)
    (c.in_err-gave-in-Granted.ensures.undone c.self.inside.log c.in-Some.line c.in_ok-added.ensures.pushed (sym c.in_ok-added.ensures.added)) c.self.invariant

pub returns-in_err-gave-in-Granted-clause-sound : goal.returns-in_err-gave-in-Granted-clause-sound
returns-in_err-gave-in-Granted-clause-sound c = kept-sound _ (invariant_of-self-in_err-gave-in-Granted c)

pub returns-in_err-gave-in-Granted-clause-quiet : goal.returns-in_err-gave-in-Granted-clause-quiet
returns-in_err-gave-in-Granted-clause-quiet c =
    let inside = c.self.inside in
    let Quiet : Debug → Type 0 = λ d. keeps_rises d ≡ true →
    IfSome (cell_at c.args.ptr d.heap.row) (λ x. (realloc_made d x c.args.bytes).debug.rises ≡ d.rises → IsOk c.from_residual-in_err-gave-in-Granted.result) in
    let is = asked inside c.args.self.now c.args.ptr c.unwrap-cell.result c.args.bytes c.cell_length-length.result c.place_to_grow-place.result c.in-Some.line
    c.self.view_is c.self.invariant (sym c.header.ensures.header ∙ c.unwrap-cell.ensures) c.cell_length-length.ensures.exact (omega (arith, c.if-length-cell.false))
    c.place_to_grow-place.ensures.place c.in-Some.ensures.answer c.in-Some.ensures.line in
    subst Quiet c.self.view_is (λ measuring.
    subst (λ o. IfSome o (λ x. (realloc_made (debug_of inside) x c.args.bytes).debug.rises ≡ inside.log.rises → IsOk c.from_residual-in_err-gave-in-Granted.result)) (sym is.found) (λ same.
    absurd (grown-quiet inside c.args.ptr (asked-cell inside c.unwrap-cell.result) c.args.bytes c.cell_length-length.result c.in-Some.line c.lengthen-granted.result is c.in-Granted.is measuring same
    c.in_err-gave-in-Granted.ensures.wanting c.lengthen-granted.ensures.refusals.no_other (λ e. c.lengthen-granted.ensures.refusals.short.0 e)
    c.lengthen-granted.ensures.refusals.no_growth c.self.invariant)))

-- what was asked, and what was answered
asked-for : (c : goal.After-self-2-1) → IsAsked c.self.inside c.args.ptr (asked-cell c.self.inside c.unwrap-cell.result) c.args.bytes c.cell_length-length.result c.in-Some.line
asked-for c =
    asked c.self.inside c.args.self.now c.args.ptr c.unwrap-cell.result c.args.bytes c.cell_length-length.result c.place_to_grow-place.result c.in-Some.line
    c.self.view_is c.self.invariant (sym c.header.ensures.header ∙ c.unwrap-cell.ensures) c.cell_length-length.ensures.exact (omega (arith, c.if-length-cell.false))
    c.place_to_grow-place.ensures.place c.in-Some.ensures.answer c.in-Some.ensures.line

pub invariant_of-self-2 : goal.invariant_of-self-2
invariant_of-self-2 c =
    elim c.match-line.branch [
      | in-Granted+in_ok-gave-in-Granted w ↦
          subst (λ (x : Inside). IsKept (record x { setting = c.after_attempt-self-inside.result; attempts = c.in-Some.line.number })) (sym w.self-inside-is)
          (grown-kept c.self.inside c.args.ptr (asked-cell c.self.inside c.unwrap-cell.result) c.args.bytes c.cell_length-length.result c.in-Some.line w.lengthen-granted.new.self
          c.after_attempt-self-inside.result w.answer_or_undo.new.log c.place_to_grow-place.result w.put_at.new.self (asked-for c) w.in-Granted.is
          (on-ok w.lengthen-granted.result _ _ w.in_ok-gave-in-Granted.ensures.granted w.lengthen-granted.ensures.grown) w.lengthen-granted.ensures.sound
          (w.in_ok-gave-in-Granted.ensures.kept ∙ c.in_ok-added.ensures.pushed) c.place_to_grow-place.ensures.place w.put_at.ensures c.self.invariant)
      | in-Simulated w ↦
          subst (λ (x : Inside). IsKept (record x { setting = c.after_attempt-self-inside.result; attempts = c.in-Some.line.number })) (sym w.self-inside-is)
          (refused-kept c.self.inside c.after_attempt-self-inside.result c.push.new.self c.in-Some.line c.in_ok-added.ensures.pushed (ap (λ (a : Attempt). a.number) (asked-for c).added) w.in-Simulated.is c.self.invariant)
    ]

pub returns-clause-sound : goal.returns-clause-sound
returns-clause-sound c = kept-sound _ (invariant_of-self-2 c)

pub returns-clause-gave : goal.returns-clause-gave
returns-clause-gave c =
    let P : Gave → Type 0 = λ g. IfSome (cell_at c.args.ptr c.self.inside.heap.row) (λ x. g ≡ (realloc_made (debug_of c.self.inside) x c.args.bytes).gave) in
    subst (λ (d : Debug). IfSome (cell_at c.args.ptr d.heap.row) (λ x. c.match-line.gave ≡ (realloc_made d x c.args.bytes).gave)) c.self.view_is
    (elim c.match-line.branch [
      | in-Granted+in_ok-gave-in-Granted w ↦
          let given = ok-value w.lengthen-granted.result _ _ w.in_ok-gave-in-Granted.ensures.granted w.lengthen-granted.ensures.pointer in
          granted-gave c.self.inside c.args.ptr (asked-cell c.self.inside c.unwrap-cell.result) c.args.bytes c.cell_length-length.result c.in-Some.line c.match-line.gave given.0 (asked-for c)
          w.in-Granted.is (w.gave-is ∙ given.1) given.2
      | in-Simulated w ↦
          subst P (sym w.gave-is) (denied-gave c.self.inside c.args.ptr (asked-cell c.self.inside c.unwrap-cell.result) c.args.bytes c.cell_length-length.result c.in-Some.line (asked-for c) w.in-Simulated.is)
    ])

pub returns-clause-made : goal.returns-clause-made
returns-clause-made c =
    let P : Inside → Type 0 = λ i. IfSome (cell_at c.args.ptr c.self.inside.heap.row)
    (λ x. debug_of (record i { setting = c.after_attempt-self-inside.result; attempts = c.in-Some.line.number }) ≡ (realloc_made (debug_of c.self.inside) x c.args.bytes).debug) in
    subst (λ (d : Debug). IfSome (cell_at c.args.ptr d.heap.row)
    (λ x. debug_of (record c.match-line.self-inside { setting = c.after_attempt-self-inside.result; attempts = c.in-Some.line.number }) ≡ (realloc_made d x c.args.bytes).debug)) c.self.view_is
    (elim c.match-line.branch [
      | in-Granted+in_ok-gave-in-Granted w ↦
          subst P (sym w.self-inside-is) (granted-debug c.self.inside c.args.ptr (asked-cell c.self.inside c.unwrap-cell.result) c.args.bytes c.cell_length-length.result c.in-Some.line
          w.lengthen-granted.new.self c.after_attempt-self-inside.result w.answer_or_undo.new.log (asked-for c) w.in-Granted.is
          (on-ok w.lengthen-granted.result _ _ w.in_ok-gave-in-Granted.ensures.granted w.lengthen-granted.ensures.grown)
          (w.in_ok-gave-in-Granted.ensures.kept ∙ c.in_ok-added.ensures.pushed)
          (c.after_attempt-self-inside.ensures ∙ ap (λ (i : Inside). after_attempt (setting_of i.setting)) w.self-inside-is) c.self.invariant)
      | in-Simulated w ↦
          subst P (sym w.self-inside-is) (denied-debug c.self.inside c.args.ptr (asked-cell c.self.inside c.unwrap-cell.result) c.args.bytes c.cell_length-length.result c.in-Some.line
          c.after_attempt-self-inside.result c.push.new.self (asked-for c) w.in-Simulated.is c.in_ok-added.ensures.pushed
          (c.after_attempt-self-inside.ensures ∙ ap (λ (i : Inside). after_attempt (setting_of i.setting)) w.self-inside-is))
    ])

pub shorten-requires-clause-live : goal.shorten-requires-clause-live
shorten-requires-clause-live c =
    own-named c.self.inside.heap c.args.ptr c.unwrap-cell.result c.header.ensures.sound (sym c.header.ensures.header ∙ c.unwrap-cell.ensures)

pub place_to_grow-place-requires-clause-live : goal.place_to_grow-place-requires-clause-live
place_to_grow-place-requires-clause-live c =
    own-named c.self.inside.heap c.args.ptr c.unwrap-cell.result c.header.ensures.sound (sym c.header.ensures.header ∙ c.unwrap-cell.ensures)

pub lengthen-granted-requires-clause-live : goal.lengthen-granted-requires-clause-live
lengthen-granted-requires-clause-live c =
    own-named c.self.inside.heap c.args.ptr c.unwrap-cell.result c.header.ensures.sound (sym c.header.ensures.header ∙ c.unwrap-cell.ensures)

pub invariant_of-self : goal.invariant_of-self
invariant_of-self c =
    shortened-kept c.self.inside c.args.ptr c.unwrap-cell.result c.cell_length-length.result c.shorten.new.self (sym c.header.ensures.header ∙ c.unwrap-cell.ensures)
    c.if-length-cell.true c.shorten.ensures.shortened c.self.invariant c.shorten.ensures.sound

pub returns-then-length-cell-clause-sound : goal.returns-then-length-cell-clause-sound
returns-then-length-cell-clause-sound c = kept-sound _ (invariant_of-self c)

pub returns-then-length-cell-clause-gave : goal.returns-then-length-cell-clause-gave
returns-then-length-cell-clause-gave c =
    subst (λ (d : Debug). IfSome (cell_at c.args.ptr d.heap.row) (λ x. Granted c.args.ptr ≡ (realloc_made d x c.args.bytes).gave)) c.self.view_is
    (shortened-gave c.self.inside c.args.ptr c.unwrap-cell.result c.cell_length-length.result c.shorten.new.self
    (sym c.header.ensures.header ∙ c.unwrap-cell.ensures) c.if-length-cell.true c.shorten.ensures.shortened c.self.invariant c.args.bytes c.cell_length-length.ensures.exact)

pub returns-then-length-cell-clause-made : goal.returns-then-length-cell-clause-made
returns-then-length-cell-clause-made c =
    subst (λ (d : Debug). IfSome (cell_at c.args.ptr d.heap.row)
    (λ x. debug_of (record c.self.inside { heap = c.shorten.new.self }) ≡ (realloc_made d x c.args.bytes).debug)) c.self.view_is
    (shortened-debug c.self.inside c.args.ptr c.unwrap-cell.result c.cell_length-length.result c.shorten.new.self
    (sym c.header.ensures.header ∙ c.unwrap-cell.ensures) c.if-length-cell.true c.shorten.ensures.shortened c.self.invariant c.args.bytes c.cell_length-length.ensures.exact)
