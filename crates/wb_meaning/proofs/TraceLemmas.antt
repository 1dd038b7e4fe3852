-- Each line of a run's trace is that of an attempt which the run asked for, answered by the script's own setting or the rule.
use Rattle.std.proofs.Common.{◌≡◌, ◌≢◌, ℕ, zero, suc, ◌+◌, ◌<◌, ◌≤◌, inl, inr, arith, Bool, true, false, List, [], ◌∷◌, ◌++◌, length, append-nil, append_assoc, refl, sym, ◌∙◌, ap, subst, Option, Some, None, cond}
use Rattle.std.specs.Prelude.{nat_lt, slice_get}
use Rattle.std.proofs.lemmas.Bool.{ltb-true, ltb-false}
use Rattle.wb_basics.specs.declared.limits.TheConstants.{CEILING}
use Rattle.wb_heap_model.specs.declared.heap.Rule.{Rule}
use Rattle.wb_heap_model.specs.declared.heap.Rule.TheVariants.{Unlimited, Limit}
use Rattle.wb_heap_model.specs.declared.heap.Shape.{Shape}
use Rattle.wb_heap_model.specs.declared.heap.Answer.{Answer}
use Rattle.wb_heap_model.specs.declared.heap.Answer.TheVariants.{Granted, Simulated, Refused}
use Rattle.wb_heap_model.specs.declared.heap.Attempt.{Attempt}
use Rattle.wb_meaning.specs.declared.run.Why.TheVariants.{Ceiling}
use Rattle.wb_tree.specs.declared.script.Script.{Script}
use Rattle.wb_heap_model.specs.Placement.{placement_of}
use Rattle.wb_heap_model.specs.Rules.{limit_of, simulates, refusal_past, refusal_of, unless_refused, answer_to, Request}
use Rattle.wb_meaning.specs.State.{is_cut, Query, heap_note, available_note, compress_note, Process, ends, stops, asks, notes}
use Rattle.wb_heap_model.specs.Space.{Space, space_of}
use Rattle.wb_meaning.specs.Account.{stopped, Account, settled, on_answer, recorded, noted, next_number}
use Rattle.wb_heap_model.specs.Reported.{trace_line, end_of_attempt}
use Rattle.wb_meaning.specs.Run.{process, before, run, required}
use Rattle.wb_heap_model.specs.Rises.{granted_end, highest_end}
use Rattle.wb_meaning.proofs.AccountLemmas.{KeepsLines, before-lines, recorded-trace, recorded-lines, noted-lines}
use Rattle.wb_meaning.specs.Traces.{asked_before, asked_for, IsLine, AreAnsweredLines}

-- what a rule refuses, by the answer
record IsRefusal (rule : Rule) (number end : ℕ) (w : Answer) : Type 0 where
  granted : w ≢ Granted
  refused : w ≡ Refused → (limit : ℕ) × (limit_of rule ≡ Some limit) × (limit < end)

refusal-is : (rule : Rule) (number end : ℕ) (w : Answer) → refusal_of rule number end ≡ Some w → IsRefusal rule number end w
refusal-is rule number end w = simulated (simulates rule number)
  where
    limited : (o : Option ℕ) → limit_of rule ≡ o → refusal_past o end ≡ Some w → IsRefusal rule number end w
    limited None l e = cc
    limited (Some limit) l e = by (nat_lt limit end) refl e
      where
        by : (b : Bool) → nat_lt limit end ≡ b → cond b (Some Refused) None ≡ Some w → IsRefusal rule number end w
        by true t f = record { granted = λ g. cc; refused = λ r. (limit, l, ltb-true _ _ t) }
        by false t f = cc

    simulated : (b : Bool) → cond b (Some Simulated) (refusal_past (limit_of rule) end) ≡ Some w → IsRefusal rule number end w
    simulated true e = record { granted = λ g. cc; refused = λ r. cc }
    simulated false e = limited (limit_of rule) refl e

pub line-is : (rule : Rule) (made : ℕ) (asked : Request) (w : Answer) → answer_to rule (made + 1) asked ≡ Some w → IsLine rule made asked (trace_line (made + 1) asked w)
line-is rule made asked w = due asked.due refl
  where
    end : ℕ
    end = asked.place + asked.length

    open_to : (b : Bool) → nat_lt CEILING end ≡ b → cond b None (Some Granted) ≡ Some w → (w ≡ Granted) × (end ≤ CEILING)
    open_to true c e = cc
    open_to false c e = (cc, ltb-false _ _ c)

    left : (o : Option Answer) → refusal_of rule (made + 1) end ≡ o → asked.due ≡ false → unless_refused o end ≡ Some w → IsLine rule made asked (trace_line (made + 1) asked w)
    left (Some v) f undue e =
        let same : v ≡ w = cc in
        let is = refusal-is rule (made + 1) end w (f ∙ ap Some same) in
        record { number = refl; length = refl; place = refl; granted = λ g. absurd (is.granted g); refused = is.refused; simulated = λ s. inr (f ∙ ap Some (same ∙ s)); due = λ d. cc }
    left None f undue e =
        let is = open_to (nat_lt CEILING end) refl e in
        let granted : w ≡ Granted = is.0 in
        record { number = refl; length = refl; place = refl; granted = λ g. (f, is.1); refused = λ r. cc; simulated = λ s. cc; due = λ d. cc }

    due : (b : Bool) → asked.due ≡ b → cond b (Some Simulated) (unless_refused (refusal_of rule (made + 1) end) end) ≡ Some w → IsLine rule made asked (trace_line (made + 1) asked w)
    due true d e =
        let simulated : w ≡ Simulated = cc in
        record { number = refl; length = refl; place = refl; granted = λ g. cc; refused = λ r. cc; simulated = λ s. inl d; due = λ _. simulated }
    due false d e = left (refusal_of rule (made + 1) end) refl d e

-- one more line
lines_push : (rule : Rule) (made : ℕ) (qs : List Request) (ts : List Attempt) (asked : Request) (t : Attempt) → AreAnsweredLines rule made qs ts →
    IsLine rule (made + length ts) asked t → AreAnsweredLines rule made (qs ++ asked ∷ []) (ts ++ t ∷ [])
lines_push rule made [] [] asked t are is = let z : made + 0 ≡ made = omega arith in (subst (λ m. IsLine rule m asked t) z is, tt)
lines_push rule made [] (u ∷ ts) asked t are is = absurd are
lines_push rule made (q ∷ qs) [] asked t are is = absurd are
lines_push rule made (q ∷ qs) (u ∷ ts) asked t are is =
    let z : made + length (u ∷ ts) ≡ made + 1 + length ts = omega arith in
    (are.0, lines_push rule (made + 1) qs ts asked t are.1 (subst (λ m. IsLine rule m asked t) z is))

settled-lines : (rule : Rule) (space : Space) (p : Process) (a : Account) (qs : List Request) → KeepsLines a → AreAnsweredLines rule 0 qs a.trace →
    AreAnsweredLines rule 0 (qs ++ asked_for rule a.attempts p) (settled rule space p a).account.trace
settled-lines rule space (ends way st) a qs k are = subst (λ l. AreAnsweredLines rule 0 l a.trace) (sym (append-nil qs)) are
settled-lines rule space (stops stop st) a qs k are = subst (λ l. AreAnsweredLines rule 0 l a.trace) (sym (append-nil qs)) are
settled-lines rule space (asks t cut go) a qs k are =
    told (answer_to rule n t) refl (λ w e.
    let grown = recorded space n t w a in
    let line = trace_line n t w in
    let at : a.attempts ≡ 0 + length a.trace = omega (arith, k.lines) in
    subst (λ l. AreAnsweredLines rule 0 l (settled rule space (go n w) grown).account.trace) (append_assoc qs (t ∷ []) (asked_for rule n (go n w)))
    (settled-lines rule space (go n w) grown (qs ++ t ∷ []) (recorded-lines space t w a k)
    (subst (AreAnsweredLines rule 0 (qs ++ t ∷ [])) (sym (recorded-trace space n t w a k.no_rises))
    (lines_push rule 0 qs a.trace t line are (subst (λ m. IsLine rule m t line) at (line-is rule a.attempts t w e))))))
  where
    n : ℕ
    n = next_number a

    told : (o : Option Answer) → answer_to rule n t ≡ o →
        ((w : Answer) → answer_to rule n t ≡ Some w →
        AreAnsweredLines rule 0 (qs ++ t ∷ asked_for rule n (go n w)) (settled rule space (go n w) (recorded space n t w a)).account.trace) →
        AreAnsweredLines rule 0 (qs ++ asked_before o t (λ w. asked_for rule n (go n w)))
        (on_answer o (record { end = stopped (is_cut Ceiling); state = cut; account = a }) (λ w. settled rule space (go n w) (recorded space n t w a))).account.trace
    told None e h = subst (λ l. AreAnsweredLines rule 0 l a.trace) (sym (append-nil qs)) are
    told (Some w) e h = h w e
settled-lines rule space (notes q p) a qs k are = by q (λ q. settled-lines rule space p (noted space q a) qs (noted-lines space q a k))
  where
    by : (q : Query) →
        ((q : Query) → AreAnsweredLines rule 0 qs (noted space q a).trace →
        AreAnsweredLines rule 0 (qs ++ asked_for rule (noted space q a).attempts p) (settled rule space p (noted space q a)).account.trace) →
        AreAnsweredLines rule 0 (qs ++ asked_for rule a.attempts p) (settled rule space p (noted space q a)).account.trace
    by (heap_note count total) h = h (heap_note count total) are
    by (available_note row) h = h (available_note row) are
    by (compress_note top) h = h (compress_note top) are

-- of whole runs
pub run-lines : (script : Script) (budget : ℕ) (shape : Shape) (rule : Rule) →
    AreAnsweredLines rule 0 (asked_for rule 0 (process script budget (placement_of shape))) (run script rule budget shape).trace
run-lines script budget shape rule = settled-lines rule (space_of rule shape) (process script budget (placement_of shape)) (before (space_of rule shape)) [] (before-lines (space_of rule shape)) tt

-- without a limit no line is refused
pub unlimited_refuses_none : (made : ℕ) (asked : Request) (t : Attempt) → IsLine Unlimited made asked t → t.answer ≢ Refused
unlimited_refuses_none made asked t is e = let limit = (is.refused e).1 in cc

-- and with one none that is granted ends past it
pub limit_grants_within : (limit made : ℕ) (asked : Request) (t : Attempt) → IsLine (Limit limit) made asked t → t.answer ≡ Granted → end_of_attempt t ≤ limit
limit_grants_within limit made asked t is e = by (nat_lt limit (end_of_attempt t)) refl (is.granted e).0
  where
    by : (b : Bool) → nat_lt limit (end_of_attempt t) ≡ b → cond b (Some Refused) None ≡ None → end_of_attempt t ≤ limit
    by true c f = cc
    by false c f = ltb-false _ _ c

highest_end-within : (rule : Rule) (made : ℕ) (qs : List Request) (ts : List Attempt) → AreAnsweredLines rule made qs ts → highest_end ts ≤ CEILING
highest_end-within rule made [] [] are = omega arith
highest_end-within rule made [] (t ∷ ts) are = absurd are
highest_end-within rule made (q ∷ qs) [] are = absurd are
highest_end-within rule made (q ∷ qs) (t ∷ ts) are =
    let rest = highest_end-within rule (made + 1) qs ts are.1 in
    let first = by t.answer refl in omega arith
  where
    by : (w : Answer) → t.answer ≡ w → granted_end t w ≤ CEILING
    by Granted e = (are.0.granted e).1
    by Simulated e = omega arith
    by Refused e = omega arith

-- no script needs more than the ceiling
pub required-within : (script : Script) (budget : ℕ) (shape : Shape) → required script budget shape ≤ CEILING
required-within script budget shape = highest_end-within Unlimited 0 _ _ (run-lines script budget shape Unlimited)

-- each line by its index
pub line_at : (rule : Rule) (made : ℕ) (qs : List Request) (ts : List Attempt) (k : ℕ) (t : Attempt) → AreAnsweredLines rule made qs ts → slice_get ts k ≡ Some t →
    (asked : Request) × (slice_get qs k ≡ Some asked) × IsLine rule (made + k) asked t
line_at rule made [] [] k t are e = cc
line_at rule made [] (u ∷ ts) k t are e = absurd are
line_at rule made (q ∷ qs) [] k t are e = absurd are
line_at rule made (q ∷ qs) (u ∷ ts) zero t are e =
    let same : u ≡ t = cc in
    let z : made ≡ made + 0 = omega arith in
    (q, refl, subst (λ m. IsLine rule m q t) z (subst (IsLine rule made q) same are.0))
line_at rule made (q ∷ qs) (u ∷ ts) (suc k) t are e =
    let there = line_at rule (made + 1) qs ts k t are.1 e in
    let z : made + 1 + k ≡ made + suc k = omega arith in
    (there.0, there.1, subst (λ m. IsLine rule m there.0 t) z there.2)

pub run-numbered : (script : Script) (budget : ℕ) (shape : Shape) (rule : Rule) (k : ℕ) (t : Attempt) → slice_get (run script rule budget shape).trace k ≡ Some t →
    t.number ≡ k + 1
run-numbered script budget shape rule k t there = let line = line_at rule 0 _ _ k t (run-lines script budget shape rule) there in let numbered = line.2.number in omega arith
