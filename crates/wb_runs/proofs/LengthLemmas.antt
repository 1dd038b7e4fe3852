-- Runs in heaps of two lengths: where the longer heap grants nothing past the shorter one's end, they are the same but for notes.
use Rattle.std.proofs.Common.{◌≡◌, ◌≢◌, inl, inr, ℕ, ◌+◌, ◌≤◌, arith, Bool, true, false, List, [], ◌∷◌, refl, sym, ◌∙◌, ap, Option, Some, None, is_some, IsSome, length, cond}
use Rattle.std.specs.Prelude.{nat_lt, slice_get}
use Rattle.std.proofs.lemmas.Bool.{ltb-true, ltb-false, lt-ltb}
use Rattle.wb_basics.specs.declared.limits.TheConstants.{CEILING}
use Rattle.wb_heap_model.specs.declared.heap.Rule.TheVariants.{Limit}
use Rattle.wb_heap_model.specs.declared.heap.Shape.{Shape}
use Rattle.wb_heap_model.specs.declared.heap.Answer.{Answer}
use Rattle.wb_heap_model.specs.declared.heap.Answer.TheVariants.{Granted, Simulated, Refused}
use Rattle.wb_heap_model.specs.declared.heap.Attempt.{Attempt}
use Rattle.wb_meaning.specs.declared.run.Outcome.TheVariants.{Cut}
use Rattle.wb_meaning.specs.declared.run.Why.TheVariants.{Budget, Ceiling}
use Rattle.wb_tree.specs.declared.script.Script.{Script}
use Rattle.wb_heap_model.specs.Placement.{placement_of}
use Rattle.wb_heap_model.specs.Rules.{Request, answer_to, unless_refused}
use Rattle.wb_heap_model.specs.Space.{Space, space_of}
use Rattle.wb_meaning.specs.State.{State, panics, is_cut, no_cleanup, Process, ends, stops, asks, notes}
use Rattle.wb_meaning.specs.Account.{over, stopped, End, Account, Settled, settled, on_answer, recorded, noted, next_number}
use Rattle.wb_meaning.specs.Agreement.{RefusesAtLeast, IsSameButNotes, PartsAt}
use Rattle.wb_runs.specs.Lengths.{run_in}
use Rattle.wb_meaning.specs.Run.{process, before, outcome_of}
use Rattle.wb_heap_model.specs.Rises.{granted_end, end_of_line, highest_end}
use Rattle.wb_heap_model.specs.Reported.{end_of_attempt}
use Rattle.wb_meaning.proofs.AgreementLemmas.{rules_agree-law}
use Rattle.wb_meaning.proofs.AlikeLemmas.{Shows}
use Rattle.wb_meaning.proofs.MeaningLemmas.{anything}
use Rattle.wb_runs.proofs.Measures.{highest_end-greatest}
use Rattle.wb_runs.proofs.SameRuns.{get_after}
use Rattle.wb_runs.proofs.SizeLemmas.{end_within}
use Rattle.wb_meaning.proofs.ThroughoutLemmas.{process-keeps}
use Rattle.wb_meaning.proofs.TraceLemmas.{limit_grants_within, line_at, run-lines}

-- a limit up to the ceiling refuses whatever would pass the ceiling
limit_answers : (l number : ℕ) (t : Request) → l ≤ CEILING → IsSome (answer_to (Limit l) number t)
limit_answers l number t le = due t.due
  where
    end : ℕ
    end = t.place + t.length

    past : (b c : Bool) → nat_lt l end ≡ b → nat_lt CEILING end ≡ c → IsSome (unless_refused (cond b (Some Refused) None) end)
    past true c d e = refl
    past false true d e = absurd (omega (arith, le, ltb-true CEILING end e, ltb-false l end d))
    past false false d e = ap (λ b. is_some (cond b None (Some Granted))) e

    due : (b : Bool) → IsSome (cond b (Some Simulated) (unless_refused (cond (nat_lt l end) (Some Refused) None) end))
    due true = refl
    due false = past (nat_lt l end) (nat_lt CEILING end) refl refl

-- so the ceiling doesn't cut a process under it that doesn't stop so of itself
settled_uncut : (P : List ℕ → State → Type 0) (l : ℕ) (space : Space) (ns : List ℕ) (p : Process) (a : Account) → l ≤ CEILING → Shows P ns p →
    (settled (Limit l) space p a).end ≢ stopped (is_cut Ceiling)
settled_uncut P l space ns (ends way st) a le k e = cc
settled_uncut P l space ns (stops (panics panic) st) a le k e = cc
settled_uncut P l space ns (stops (is_cut Budget) st) a le k e = cc
settled_uncut P l space ns (stops (is_cut Ceiling) st) a le k e = absurd k.1
settled_uncut P l space ns (stops no_cleanup st) a le k e = cc
settled_uncut P l space ns (asks t cut go) a le k e =
    let n = next_number a in
    answered (answer_to (Limit l) n t) (limit_answers l n t le) (λ w. settled_uncut P l space (n ∷ ns) (go n w) (recorded space n t w a) le (k.3 n w)) e
  where
    answered : (o : Option Answer) → IsSome o →
        ((w : Answer) → (settled (Limit l) space (go (next_number a) w) (recorded space (next_number a) t w a)).end ≢ stopped (is_cut Ceiling)) →
        (on_answer o (record { end = stopped (is_cut Ceiling); state = cut; account = a })
        (λ w. settled (Limit l) space (go (next_number a) w) (recorded space (next_number a) t w a))).end ≢ stopped (is_cut Ceiling)
    answered None some rest = cc
    answered (Some w) some rest = rest w
settled_uncut P l space ns (notes q p) a le k e = settled_uncut P l space ns p (noted space q a) le k.1 e

pub heap-uncut : (script : Script) (budget : ℕ) (shape : Shape) (l : ℕ) → l ≤ CEILING → (run_in script budget shape l).outcome ≢ Cut Ceiling
heap-uncut script budget shape l le = by last.end refl
  where
    last : Settled
    last = settled (Limit l) (space_of (Limit l) shape) (process script budget (placement_of shape)) (before (space_of (Limit l) shape))

    uncut : last.end ≢ stopped (is_cut Ceiling)
    uncut = settled_uncut _ l _ [] (process script budget (placement_of shape)) _ le (process-keeps (anything script) budget (placement_of shape) tt tt)

    by : (end : End) → last.end ≡ end → outcome_of end last.state ≢ Cut Ceiling
    by (over way) is e = cc
    by (stopped (panics panic)) is e = cc
    by (stopped (is_cut Budget)) is e = cc
    by (stopped (is_cut Ceiling)) is e = uncut is
    by (stopped no_cleanup) is e = cc

-- a shorter heap refuses at least what a longer one does
shorter_refuses : (l longer : ℕ) → l ≤ longer → RefusesAtLeast (Limit longer) (Limit l)
shorter_refuses l longer le number end one h = by (nat_lt longer end) refl h
  where
    by : (b : Bool) → nat_lt longer end ≡ b → IsSome (cond b (Some Refused) None) → IsSome (cond (nat_lt l end) (Some Refused) None)
    by true c some = ap (λ b. is_some (cond b (Some Refused) None)) (lt-ltb l end (omega (arith, le, ltb-true longer end c)))
    by false c some = cc

-- nothing parts them where the longer one grants nothing past the shorter one's end
parts_nowhere : (l longer : ℕ) (x y : List Attempt) → l ≤ longer → highest_end x ≤ l → PartsAt (Limit longer) (Limit l) x y → ⊥
parts_nowhere l longer x y le within p = by (nat_lt longer end) (nat_lt l end) (nat_lt CEILING end) refl refl p.answered refused
  where
    end : ℕ
    end = end_of_attempt p.one

    there : slice_get x (length p.before) ≡ Some p.one
    there = ap (λ ts. slice_get ts (length p.before)) p.is_one ∙ get_after p.before p.one p.after_one

    same_end : end_of_attempt p.other ≡ end
    same_end = omega (arith, p.place, p.length)

    refused : cond (nat_lt l end) (Some Refused) None ≡ Some p.other.answer
    refused = sym (ap (λ e. cond (nat_lt l e) (Some Refused) None) same_end) ∙ p.refused

    by : (a b c : Bool) → nat_lt longer end ≡ a → nat_lt l end ≡ b → unless_refused (cond a (Some Refused) None) end ≡ Some p.one.answer →
        cond b (Some Refused) None ≡ Some p.other.answer → ⊥
    by a false c d e f g = cc
    by true true c d e f g = p.answer cc
    by false true c d e f g = granted (nat_lt CEILING end) f
      where
        granted : (b : Bool) → cond b None (Some Granted) ≡ Some p.one.answer → ⊥
        granted true h = cc
        granted false h =
            let is : p.one.answer ≡ Granted = cc in
            let own : end_of_line p.one ≡ end = ap (granted_end p.one) is in
            let top = end_within (length p.before) x p.one there in
            omega (arith, within, own, top, ltb-true l end e)

pub heaps-same : (script : Script) (budget : ℕ) (shape : Shape) (l longer : ℕ) → l ≤ longer → longer ≤ CEILING →
    highest_end (run_in script budget shape longer).trace ≤ l → IsSameButNotes (run_in script budget shape longer) (run_in script budget shape l)
heaps-same script budget shape l longer le most within =
    elim (rules_agree-law script budget shape (Limit longer) (Limit l) (shorter_refuses l longer le) (heap-uncut script budget shape longer most)) [
      | inl is ↦ is.but_notes
      | inr part ↦ absurd (parts_nowhere l longer _ _ le within part)
    ]

-- what a heap grants ends within it
pub heap-grants-within : (script : Script) (budget : ℕ) (shape : Shape) (l k : ℕ) (t : Attempt) → slice_get (run_in script budget shape l).trace k ≡ Some t →
    t.answer ≡ Granted → end_of_attempt t ≤ l
heap-grants-within script budget shape l k t there granted =
    let line = line_at (Limit l) 0 _ (run_in script budget shape l).trace k t (run-lines script budget shape (Limit l)) there in
    limit_grants_within l _ line.0 t line.2 granted

pub heap-within : (script : Script) (budget : ℕ) (shape : Shape) (l : ℕ) → highest_end (run_in script budget shape l).trace ≤ l
heap-within script budget shape l =
    elim ((highest_end-greatest (run_in script budget shape l).trace).reached) [
      | inl none ↦ omega (arith, none)
      | inr is ↦ let within = heap-grants-within script budget shape l is.at is.line is.there is.granted in omega (arith, is.ends, within)
    ]
