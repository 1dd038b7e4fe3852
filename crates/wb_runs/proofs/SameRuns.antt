-- Where a rule refuses at least what another without a limit does, but nothing that is granted in the other's run, its run is the
-- same; so are the runs under the failures past the last attempt.
use Rattle.std.proofs.Common.{◌≡◌, ◌≢◌, inl, inr, ℕ, suc, ◌+◌, ◌<◌, ◌≤◌, arith, Bool, true, false, List, [], ◌∷◌, ◌++◌, length, refl, sym, ◌∙◌, ap, Option, Some, None, is_some, IsSome, cond}
use Rattle.std.specs.Prelude.{nat_lt, slice_get}
use Rattle.std.proofs.lemmas.Bool.{le-ltb}
use Rattle.std.proofs.lemmas.Option.{slice_get_within}
use Rattle.wb_basics.specs.declared.limits.TheConstants.{CEILING}
use Rattle.wb_runs.specs.declared.failures.Failures.{Failures}
use Rattle.wb_heap_model.specs.declared.heap.Rule.{Rule}
use Rattle.wb_heap_model.specs.declared.heap.Shape.{Shape}
use Rattle.wb_heap_model.specs.declared.heap.Answer.{Answer}
use Rattle.wb_heap_model.specs.declared.heap.Answer.TheVariants.{Granted, Simulated, Refused}
use Rattle.wb_heap_model.specs.declared.heap.Attempt.{Attempt}
use Rattle.wb_meaning.specs.declared.run.Why.TheVariants.{Ceiling}
use Rattle.wb_meaning.specs.declared.run.Outcome.TheVariants.{Cut}
use Rattle.wb_tree.specs.declared.script.Script.{Script}
use Rattle.wb_heap_model.specs.Rules.{limit_of, simulates, refusal_past, refusal_of, unless_refused}
use Rattle.wb_meaning.specs.Run.{run}
use Rattle.wb_meaning.specs.Agreement.{RefusesAtLeast, RefusesNoGrant, IsSameRun, PartsAt}
use Rattle.wb_heap_model.specs.SameRules.{IsNoLimit}
use Rattle.wb_runs.specs.Sweeps.{rule_of, runs_of}
use Rattle.wb_meaning.specs.Traces.{refusal_by}
use Rattle.wb_heap_model.specs.Reported.{end_of_attempt}
use Rattle.wb_meaning.proofs.AgreementLemmas.{rules_agree-law}
use Rattle.wb_runs.proofs.FailureRules.{failures-no_limit, later-refuses_none, zero-refuses_none}
use Rattle.wb_meaning.proofs.TraceLemmas.{run-numbered}

-- A rule without a limit refuses a number whatever the end, so one that refuses at least as much simulates it too; what both
-- refuse they refuse alike.
same_refusal : (r s : Rule) → IsNoLimit r → RefusesAtLeast r s → (n end : ℕ) (v w : Answer) → 1 ≤ n → refusal_of r n end ≡ Some v → refusal_of s n end ≡ Some w → w ≡ v
same_refusal r s no_limit h n end v w one e f = by (simulates r n) refl (simulates s n) refl e f
  where
    nothing_at_0 : (o : Option ℕ) → refusal_past o 0 ≡ None
    nothing_at_0 None = refl
    nothing_at_0 (Some l) = ap (λ b. cond b (Some Refused) None) (le-ltb l 0 (omega arith))

    open_at_0 : simulates s n ≡ false → is_some (refusal_of s n 0) ≡ false
    open_at_0 left = ap (λ b. is_some (cond b (Some Simulated) (refusal_past (limit_of s) 0))) left ∙ ap is_some (nothing_at_0 (limit_of s))

    by : (a : Bool) → simulates r n ≡ a → (b : Bool) → simulates s n ≡ b → cond a (Some Simulated) (refusal_past (limit_of r) end) ≡ Some v →
        cond b (Some Simulated) (refusal_past (limit_of s) end) ≡ Some w → w ≡ v
    by true a true b e f = cc
    by true a false b e f =
        let refused : IsSome (refusal_of r n 0) = ap (λ b. is_some (cond b (Some Simulated) (refusal_past (limit_of r) 0))) a in
        let too = h n 0 one refused in
        let left = open_at_0 b in cc
    by false a b c e f = let none : refusal_past (limit_of r) end ≡ None = ap (λ o. refusal_past o end) no_limit in cc

pub get_after : {A : Type 0} (xs : List A) (x : A) (ys : List A) → slice_get (xs ++ x ∷ ys) (length xs) ≡ Some x
get_after [] x ys = refl
get_after (y ∷ ys) x zs =
    let z : length (y ∷ ys) ≡ suc (length ys) = omega arith in
    ap (λ k. slice_get (y ∷ ys ++ x ∷ zs) k) z ∙ get_after ys x zs

-- no attempt parts the runs then
parts_nowhere : (r s : Rule) (x y : List Attempt) → IsNoLimit r → RefusesAtLeast r s → RefusesNoGrant s x → PartsAt r s x y → ⊥
parts_nowhere r s x y no_limit h no_grant p = by (refusal_by r p.one) refl
  where
    there : slice_get x (length p.before) ≡ Some p.one
    there = ap (λ l. slice_get l (length p.before)) p.is_one ∙ get_after p.before p.one p.after_one

    end : ℕ
    end = end_of_attempt p.one

    -- the second rule says that of the first run's attempt too
    refused : refusal_by s p.one ≡ Some p.other.answer
    refused = sym (ap (λ n. refusal_of s n (p.other.place + p.other.length)) p.number
        ∙ ap (λ a. refusal_of s p.one.number (a + p.other.length)) p.place ∙ ap (λ b. refusal_of s p.one.number (p.one.place + b)) p.length) ∙ p.refused

    granted : (b : Bool) → cond b None (Some Granted) ≡ Some p.one.answer → p.one.answer ≡ Granted
    granted true e = cc
    granted false e = cc

    by : (o : Option Answer) → refusal_by r p.one ≡ o → ⊥
    by None e =
        let left : unless_refused None end ≡ Some p.one.answer = sym (ap (λ o. unless_refused o end) e) ∙ p.answered in
        let open_to = no_grant (length p.before) p.one there (granted (nat_lt CEILING end) left) in cc
    by (Some v) e =
        let said : unless_refused (Some v) end ≡ Some p.one.answer = sym (ap (λ o. unless_refused o end) e) ∙ p.answered in
        let first : v ≡ p.one.answer = cc in
        p.answer (same_refusal r s no_limit h p.one.number end v p.other.answer (omega (arith, p.counted)) e refused ∙ first)

pub same_run : (script : Script) (budget : ℕ) (shape : Shape) (r s : Rule) → IsNoLimit r → RefusesAtLeast r s → (run script r budget shape).outcome ≢ Cut Ceiling →
    RefusesNoGrant s (run script r budget shape).trace → IsSameRun r s (run script r budget shape) (run script s budget shape)
same_run script budget shape r s no_limit h uncut no_grant =
    elim (rules_agree-law script budget shape r s h uncut) [
      | inl is ↦ is
      | inr part ↦ absurd (parts_nowhere r s _ _ no_limit h no_grant part)
    ]

-- failure 0 refuses nothing, so each refuses at least as much
pub zero-least : (failures : Failures) (s : Rule) → RefusesAtLeast (rule_of failures 0) s
zero-least failures s number end one h = let e = zero-refuses_none failures number end one in cc

pub past_the_last : (failures : Failures) (script : Script) (budget : ℕ) (shape : Shape) (n : ℕ) → (runs_of failures script budget shape 0).outcome ≢ Cut Ceiling →
    length (runs_of failures script budget shape 0).trace < n → runs_of failures script budget shape n ≡ runs_of failures script budget shape 0
past_the_last failures script budget shape n uncut past =
    (same_run script budget shape (rule_of failures 0) (rule_of failures n) (failures-no_limit failures 0) (zero-least failures (rule_of failures n)) uncut no_grant).notes_too
    (failures-no_limit failures 0) (failures-no_limit failures n)
  where
    no_grant : RefusesNoGrant (rule_of failures n) (runs_of failures script budget shape 0).trace
    no_grant k t there granted =
        let numbered = run-numbered script budget shape (rule_of failures 0) k t there in
        let within = slice_get_within (runs_of failures script budget shape 0).trace k t there in
        later-refuses_none failures n t.number (end_of_attempt t) (omega (arith, numbered)) (omega (arith, numbered, within, past))
