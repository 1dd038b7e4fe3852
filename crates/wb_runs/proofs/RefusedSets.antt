-- A run under any rule is the run under the set of the attempts that weren't granted, but for notes and for how refusals are named.
use Rattle.std.proofs.Common.{◌≡◌, ℕ, zero, suc, ◌+◌, ◌<◌, arith, Bool, true, false, List, [], ◌∷◌, ◌++◌, length, map, append_assoc, refl, sym, ◌∙◌, ap, subst, Option, Some, None, cond}
use Rattle.std.specs.Prelude.{nat_eq, nat_lt, not, ◌&&◌, ◌||◌, slice_get}
use Rattle.std.proofs.lemmas.Bool.{eq-eqb, le-ltb, ne_eqb}
use Rattle.std.proofs.lemmas.List.{length-map, map-append}
use Rattle.wb_basics.specs.declared.limits.TheConstants.{CEILING}
use Rattle.wb_heap_model.specs.declared.heap.Answer.{Answer}
use Rattle.wb_heap_model.specs.declared.heap.Answer.TheVariants.{Granted, Simulated, Refused}
use Rattle.wb_heap_model.specs.declared.heap.Attempt.{Attempt}
use Rattle.wb_heap_model.specs.declared.heap.Rule.{Rule}
use Rattle.wb_heap_model.specs.declared.heap.Rule.TheVariants.{Set}
use Rattle.wb_heap_model.specs.declared.heap.Shape.{Shape}
use Rattle.wb_meaning.specs.declared.run.Why.TheVariants.{Ceiling}
use Rattle.wb_tree.specs.declared.script.Script.{Script}
use Rattle.wb_heap_model.specs.Placement.{placement_of}
use Rattle.wb_heap_model.specs.Rules.{Request, answer_to, refusal_of, unless_refused}
use Rattle.wb_heap_model.specs.Space.{Space, space_of}
use Rattle.wb_meaning.specs.State.{State, Process, ends, stops, asks, notes, is_cut}
use Rattle.wb_meaning.specs.Account.{Account, Settled, settled, stopped, on_answer, recorded, noted, next_number}
use Rattle.wb_heap_model.specs.Reported.{trace_line}
use Rattle.wb_meaning.specs.Run.{before, is_bad_outcome, outcome_of, process, run}
use Rattle.wb_runs.specs.Sets.{AreAllSetsFine, AscendsPast, IsSameButRefusals, IsSet, as_simulated, is_granted, refused_numbers, set_run, simulated_too, with_number_if_refused}
use Rattle.wb_runs.specs.Sweeps.{is_cut_outcome, is_fine}
use Rattle.wb_meaning.proofs.AccountLemmas.{KeepsLines, before-lines, recorded-trace, recorded-lines, noted-lines}
use Rattle.wb_meaning.proofs.AgreementLemmas.{noted-trace, settled_extends}
use Rattle.wb_runs.proofs.SameRuns.{get_after}
use Rattle.wb_runs.proofs.SetLemmas.{ascends-weaker, is_in, not-before}
use Rattle.wb_meaning.proofs.ThroughoutLemmas.{TakesRefusalsAlike, process-takes-alike}
use Rattle.wb_meaning.proofs.TraceLemmas.{line-is, run-numbered}

-- a set has the numbers of the lines that weren't granted, and no later one
record Tells (numbers : List ℕ) (trace : List Attempt) : Type 0 where
  each : (k : ℕ) (t : Attempt) → slice_get trace k ≡ Some t → is_in t.number numbers ≡ not (is_granted t.answer)
  past : (n : ℕ) → length trace < n → is_in n numbers ≡ false

module _ (r : Rule) (numbers : List ℕ) where
  in_set : (n : ℕ) (t : Request) (b : Bool) → is_in n numbers ≡ b →
      answer_to (Set numbers) n t ≡ cond t.due (Some Simulated) (unless_refused (cond b (Some Simulated) None) (t.place + t.length))
  in_set n t b e = ap (λ b. cond t.due (Some Simulated) (unless_refused (cond b (Some Simulated) None) (t.place + t.length))) e

  -- the answer under the set
  answered : (made : ℕ) (t : Request) (w : Answer) → answer_to r (made + 1) t ≡ Some w → is_in (made + 1) numbers ≡ not (is_granted w) →
      answer_to (Set numbers) (made + 1) t ≡ Some (simulated_too w)
  answered made t Granted e is =
      let line = line-is r made t Granted e in
      in_set (made + 1) t false is ∙ by t.due (λ d. let never = line.due d in cc) (le-ltb _ _ (line.granted refl).1)
    where
      by : (b : Bool) → (b ≡ true → ⊥) → nat_lt CEILING (t.place + t.length) ≡ false →
          cond b (Some Simulated) (unless_refused None (t.place + t.length)) ≡ Some Granted
      by true never within = absurd (never refl)
      by false never within = ap (λ b. cond b None (Some Granted)) within
  answered made t Simulated e is = in_set (made + 1) t true is ∙ by t.due
    where
      by : (b : Bool) → cond b (Some Simulated) (unless_refused (Some Simulated) (t.place + t.length)) ≡ Some Simulated
      by true = refl
      by false = refl
  answered made t Refused e is = in_set (made + 1) t true is ∙ by t.due
    where
      by : (b : Bool) → cond b (Some Simulated) (unless_refused (Some Simulated) (t.place + t.length)) ≡ Some Simulated
      by true = refl
      by false = refl

  -- the ceiling cuts both
  cut-too : (n : ℕ) (t : Request) → answer_to r n t ≡ None → is_in n numbers ≡ false → answer_to (Set numbers) n t ≡ None
  cut-too n t e is = in_set n t false is ∙ by t.due (refusal_of r n (t.place + t.length)) e
    where
      by : (b : Bool) (o : Option Answer) → cond b (Some Simulated) (unless_refused o (t.place + t.length)) ≡ None →
          cond b (Some Simulated) (unless_refused None (t.place + t.length)) ≡ None
      by true o e = e
      by false None e = e
      by false (Some v) e = cc

-- the same end, and lines that are the same but for refusals
record IsSame (x y : Settled) : Type 0 where
  end : y.end ≡ x.end
  state : y.state ≡ x.state
  trace : y.account.trace ≡ map as_simulated x.account.trace

record AreBeside (a b : Account) : Type 0 where
  one : KeepsLines a
  other : KeepsLines b
  trace : b.trace ≡ map as_simulated a.trace

same_number : (a b : Account) → AreBeside a b → next_number b ≡ next_number a
same_number a b e = omega (arith, e.one.lines, e.other.lines, ap length e.trace, length-map a.trace as_simulated)

recorded_beside : (x_space y_space : Space) (t : Request) (w : Answer) (a b : Account) → AreBeside a b →
    AreBeside (recorded x_space (next_number a) t w a) (recorded y_space (next_number a) t (simulated_too w) b)
recorded_beside x_space y_space t w a b e =
    let n = next_number a in
    record {
      one = recorded-lines x_space t w a e.one;
      other = subst (λ m. KeepsLines (recorded y_space m t (simulated_too w) b)) (same_number a b e) (recorded-lines y_space t (simulated_too w) b e.other);
      trace = recorded-trace y_space n t (simulated_too w) b e.other.no_rises ∙ ap (λ l. l ++ trace_line n t (simulated_too w) ∷ []) e.trace
          ∙ sym (map-append as_simulated a.trace (trace_line n t w ∷ [])) ∙ ap (map as_simulated) (sym (recorded-trace x_space n t w a e.one.no_rises));
    }

module _ (r : Rule) (numbers : List ℕ) (x_space y_space : Space) where
  abbrev here : Process → Account → Settled
  here p a = settled r x_space p a

  abbrev there : Process → Account → Settled
  there p b = settled (Set numbers) y_space p b

  -- the line of an attempt that was answered is in the whole trace
  its-line : (p : Process) (n : ℕ) (t : Request) (w : Answer) (a : Account) → KeepsLines a →
      slice_get (here p (recorded x_space n t w a)).account.trace (length a.trace) ≡ Some (trace_line n t w)
  its-line p n t w a lines =
      let more = settled_extends r x_space p (recorded x_space n t w a) in
      ap (λ l. slice_get l (length a.trace))
      (more.is ∙ ap (λ l. l ++ more.more) (recorded-trace x_space n t w a lines.no_rises) ∙ append_assoc a.trace (trace_line n t w ∷ []) more.more)
      ∙ get_after a.trace (trace_line n t w) more.more

  as-set : (p : Process) (a b : Account) → AreBeside a b → TakesRefusalsAlike p → Tells numbers (here p a).account.trace → IsSame (here p a) (there p b)
  as-set (ends way st) a b e alike tells = record { end = refl; state = refl; trace = e.trace }
  as-set (stops stop st) a b e alike tells = record { end = refl; state = refl; trace = e.trace }
  as-set (notes q p) a b e alike tells =
      let beside : AreBeside (noted x_space q a) (noted y_space q b) = record {
        one = noted-lines x_space q a e.one;
        other = noted-lines y_space q b e.other;
        trace = noted-trace y_space q b ∙ e.trace ∙ ap (map as_simulated) (sym (noted-trace x_space q a));
      } in
      as-set p (noted x_space q a) (noted y_space q b) beside alike tells
  as-set (asks t cut go) a b e alike tells =
      let n = next_number a in
      subst (λ m. IsSame (here (asks t cut go) a)
      (on_answer (answer_to (Set numbers) m t) (ended b) (λ w. there (go m w) (recorded y_space m t w b)))) (sym (same_number a b e))
      (by (answer_to r n t) refl (λ w. as-set (go n w) (recorded x_space n t w a) (recorded y_space n t (simulated_too w) b) (recorded_beside x_space y_space t w a b e) (alike.1 n w)) tells)
    where
      n : ℕ
      n = next_number a

      ended : Account → Settled
      ended c = record { end = stopped (is_cut Ceiling); state = cut; account = c }

      denied : (w : Answer) → go n (simulated_too w) ≡ go n w
      denied Granted = refl
      denied Simulated = refl
      denied Refused = sym (alike.0 n)

      by : (o : Option Answer) → answer_to r n t ≡ o →
          ((w : Answer) → Tells numbers (here (go n w) (recorded x_space n t w a)).account.trace →
          IsSame (here (go n w) (recorded x_space n t w a)) (there (go n w) (recorded y_space n t (simulated_too w) b))) →
          Tells numbers (on_answer o (ended a) (λ w. here (go n w) (recorded x_space n t w a))).account.trace →
          IsSame (on_answer o (ended a) (λ w. here (go n w) (recorded x_space n t w a)))
          (on_answer (answer_to (Set numbers) n t) (ended b) (λ w. there (go n w) (recorded y_space n t w b)))
      by None is rest tells =
          let later : length a.trace < n = omega (arith, e.one.lines) in
          subst (λ o. IsSame (ended a) (on_answer o (ended b) (λ w. there (go n w) (recorded y_space n t w b))))
          (sym (cut-too r numbers n t is (tells.past n later))) (record { end = refl; state = refl; trace = e.trace })
      by (Some w) is rest tells =
          let told = tells.each (length a.trace) (trace_line n t w) (its-line (go n w) n t w a e.one) in
          subst (λ o. IsSame (here (go n w) (recorded x_space n t w a)) (on_answer o (ended b) (λ w. there (go n w) (recorded y_space n t w b))))
          (sym (answered r numbers a.attempts t w is told))
          (subst (λ p. IsSame (here (go n w) (recorded x_space n t w a)) (there p (recorded y_space n t (simulated_too w) b))) (sym (denied w)) (rest w tells))

-- ---- the numbers that a trace tells as refused

abbrev IsNumberedFrom : ℕ → List Attempt → Type 0
IsNumberedFrom made trace = (k : ℕ) (t : Attempt) → slice_get trace k ≡ Some t → t.number ≡ made + k + 1

later-numbered : (made : ℕ) (t : Attempt) (ts : List Attempt) → IsNumberedFrom made (t ∷ ts) → IsNumberedFrom (made + 1) ts
later-numbered made t ts is k u at = omega (arith, is (suc k) u at)

refused-ascend : (made : ℕ) (ts : List Attempt) → IsNumberedFrom made ts → AscendsPast made (refused_numbers ts)
refused-ascend made [] is = tt
refused-ascend made (t ∷ ts) is = by t.answer (refused-ascend (made + 1) ts (later-numbered made t ts is))
  where
    first : t.number ≡ made + 0 + 1
    first = is 0 t refl

    denied : AscendsPast (made + 1) (refused_numbers ts) → AscendsPast made (t.number ∷ refused_numbers ts)
    denied up = (omega (arith, first), ascends-weaker t.number (made + 1) (refused_numbers ts) (omega (arith, first)) up)

    by : (w : Answer) → AscendsPast (made + 1) (refused_numbers ts) → AscendsPast made (with_number_if_refused w t.number (refused_numbers ts))
    by Granted up = ascends-weaker made (made + 1) (refused_numbers ts) (omega arith) up
    by Simulated up = denied up
    by Refused up = denied up

refused-tells : (made : ℕ) (ts : List Attempt) → IsNumberedFrom made ts → (k : ℕ) (t : Attempt) → slice_get ts k ≡ Some t →
    is_in t.number (refused_numbers ts) ≡ not (is_granted t.answer)
refused-tells made [] is k t at = cc
refused-tells made (u ∷ us) is zero t at = ap (λ (t : Attempt). is_in t.number (refused_numbers (u ∷ us))) same ∙ by u.answer ∙ ap (λ (t : Attempt). not (is_granted t.answer)) (sym same)
  where
    same : t ≡ u
    same = cc

    first : u.number ≡ made + 0 + 1
    first = is 0 u refl

    by : (w : Answer) → is_in u.number (with_number_if_refused w u.number (refused_numbers us)) ≡ not (is_granted w)
    by Granted = not-before (made + 1) u.number (refused_numbers us) (refused-ascend (made + 1) us (later-numbered made u us is)) (omega (arith, first))
    by Simulated = ap (λ b. b || is_in u.number (refused_numbers us)) (eq-eqb u.number u.number refl)
    by Refused = ap (λ b. b || is_in u.number (refused_numbers us)) (eq-eqb u.number u.number refl)
refused-tells made (u ∷ us) is (suc k) t at = by u.answer ∙ refused-tells (made + 1) us (later-numbered made u us is) k t at
  where
    other : nat_eq u.number t.number ≡ false
    other = ne_eqb u.number t.number (λ z. omega (arith, z, is 0 u refl, is (suc k) t at))

    by : (w : Answer) → is_in t.number (with_number_if_refused w u.number (refused_numbers us)) ≡ is_in t.number (refused_numbers us)
    by Granted = refl
    by Simulated = ap (λ b. b || is_in t.number (refused_numbers us)) other
    by Refused = ap (λ b. b || is_in t.number (refused_numbers us)) other

refused-past : (made : ℕ) (ts : List Attempt) → IsNumberedFrom made ts → (n : ℕ) → made + length ts < n → is_in n (refused_numbers ts) ≡ false
refused-past made [] is n past = refl
refused-past made (t ∷ ts) is n past = by t.answer ∙ refused-past (made + 1) ts (later-numbered made t ts is) n (omega (arith, past))
  where
    other : nat_eq t.number n ≡ false
    other = ne_eqb t.number n (λ z. omega (arith, z, is 0 t refl, past))

    by : (w : Answer) → is_in n (with_number_if_refused w t.number (refused_numbers ts)) ≡ is_in n (refused_numbers ts)
    by Granted = refl
    by Simulated = ap (λ b. b || is_in n (refused_numbers ts)) other
    by Refused = ap (λ b. b || is_in n (refused_numbers ts)) other

module _ (script : Script) (budget : ℕ) (shape : Shape) (r : Rule) where
  abbrev trace : List Attempt
  trace = (run script r budget shape).trace

  numbered : IsNumberedFrom 0 trace
  numbered k t at = omega (arith, run-numbered script budget shape r k t at)

  pub refused-ascending : IsSet (refused_numbers trace)
  refused-ascending = refused-ascend 0 trace numbered

  same : IsSame (settled r (space_of r shape) (process script budget (placement_of shape)) (before (space_of r shape)))
      (settled (Set (refused_numbers trace)) (space_of (Set (refused_numbers trace)) shape) (process script budget (placement_of shape)) (before (space_of (Set (refused_numbers trace)) shape)))
  same =
      as-set r (refused_numbers trace) (space_of r shape) (space_of (Set (refused_numbers trace)) shape) (process script budget (placement_of shape)) _ _
      (record { one = before-lines (space_of r shape); other = before-lines (space_of (Set (refused_numbers trace)) shape); trace = refl })
      (process-takes-alike script budget (placement_of shape))
      (record { each = refused-tells 0 trace numbered; past = λ n later. refused-past 0 trace numbered n (omega (arith, later)) })

  pub refused-same : IsSameButRefusals (run script r budget shape) (set_run script budget shape (refused_numbers trace))
  refused-same = record {
    outcome = ap (λ w. outcome_of w y.state) same.end ∙ ap (λ st. outcome_of x.end st) same.state;
    trace = same.trace;
    lines = ap (λ (st : State). st.lines) same.state;
    steps = ap (λ (st : State). st.steps) same.state;
  }
    where
      x : Settled
      x = settled r (space_of r shape) (process script budget (placement_of shape)) (before (space_of r shape))

      y : Settled
      y = settled (Set (refused_numbers trace)) (space_of (Set (refused_numbers trace)) shape) (process script budget (placement_of shape)) (before (space_of (Set (refused_numbers trace)) shape))

  -- where all sets are fine, so is the run under any rule
  pub fine-by-sets : AreAllSetsFine script budget shape → is_fine (run script r budget shape) ≡ true
  fine-by-sets fine =
      ap (λ o. not (is_bad_outcome o) && not (is_cut_outcome o)) (sym refused-same.outcome) ∙ fine (refused_numbers trace) refused-ascending
