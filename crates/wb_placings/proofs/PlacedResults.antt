-- What two processes that go alike come to, where the first is fine: the same but for places.
use Rattle.std.proofs.Common.{◌≡◌, ◌≢◌, ℕ, ℤ, ◌+◌, Bool, true, false, not, ◌&&◌, ◌||◌, List, [], ◌∷◌, ◌++◌, length, map, refl, sym, ap, ◌∙◌, subst, arith, cond, Option, Some, None}
use Rattle.std.specs.Prelude.{nat_lt}
use Rattle.std.proofs.lemmas.Bool.{false≢true}
use Rattle.wb_basics.specs.declared.limits.TheConstants.{CEILING}
use Rattle.wb_heap_model.specs.declared.heap.Answer.{Answer}
use Rattle.wb_heap_model.specs.declared.heap.Answer.TheVariants.{Granted, Simulated, Refused}
use Rattle.wb_heap_model.specs.declared.heap.Attempt.{Attempt}
use Rattle.wb_heap_model.specs.declared.heap.Header.{Header}
use Rattle.wb_heap_model.specs.declared.heap.Rule.TheVariants.{Set}
use Rattle.wb_heap_model.specs.declared.heap.Shape.{Shape}
use Rattle.wb_meaning.specs.declared.run.Outcome.{Outcome}
use Rattle.wb_meaning.specs.declared.run.Outcome.TheVariants.{Ended, Cut}
use Rattle.wb_meaning.specs.declared.run.Why.TheVariants.{Ceiling}
use Rattle.wb_tree.specs.declared.script.Script.{Script}
use Rattle.wb_heap_model.specs.declared.size.Rise.{Rise}
use Rattle.wb_heap_model.specs.Heap.{cells_of_all_levels}
use Rattle.wb_heap_model.specs.Placement.{Placement, first_fit, placement_of}
use Rattle.wb_heap_model.specs.Row.{headers}
use Rattle.wb_heap_model.specs.Rules.{Request, answer_to, simulates, unless_refused}
use Rattle.wb_heap_model.specs.Space.{Space, space_of}
use Rattle.wb_meaning.specs.State.{State, Way, is_cut, Query, heap_note, available_note, compress_note, Process, ends, stops, asks, notes}
use Rattle.wb_meaning.specs.Agreement.{IsSameButNotes}
use Rattle.wb_meaning.specs.Account.{stopped, Account, Settled, settled, on_answer, recorded, noted, next_number}
use Rattle.wb_heap_model.specs.Reported.{trace_line, leak_of}
use Rattle.wb_meaning.specs.Run.{before, is_bad_outcome, left_by, outcome_of, process, result_of}
use Rattle.wb_heap_model.specs.Rises.{rises_with}
use Rattle.wb_renaming.specs.SameButNumbers.{AllBeside, none_beside, one_beside}
use Rattle.wb_runs.specs.Sets.{AreAllSetsFine, IsSet, set_run}
use Rattle.wb_runs.specs.Sweeps.{is_cut_outcome, is_fine}
use Rattle.wb_meaning.proofs.AccountLemmas.{recorded-trace}
use Rattle.wb_renaming.proofs.SameNumbers.{ap_two, append-beside}
use Rattle.wb_placings.specs.PlacedRuns.{answer_under, settled_under, no_space, placed_run, IsSameAttempt, IsSameButPlaces}
use Rattle.wb_placings.proofs.Partners.{PointerPairs, Partners, after_answer, IsSameWay, same_plain, same_return, same_leave}
use Rattle.wb_placings.proofs.PlacedHeaps.{all_levels-counted}
use Rattle.wb_placings.proofs.PlacedProcesses.{GoesAlike, both_end, both_lack, panics_first, cut_first, both_ask, both_note}
use Rattle.wb_placings.proofs.PlacedPieces.{at_first, process-alike}

abbrev is_fine_outcome : Outcome → Bool
is_fine_outcome o = not (is_bad_outcome o) && not (is_cut_outcome o)

-- ---- answers

-- where the ceiling doesn't cut a run, it has the answer that it has without one
answer-uncut : (numbers : List ℕ) (n : ℕ) (t : Request) (answer : Answer) → answer_to (Set numbers) n t ≡ Some answer → answer_under numbers n t ≡ answer
answer-uncut numbers n t answer e = by t.due (simulates (Set numbers) n) e
  where
    granted : (past : Bool) → cond past None (Some Granted) ≡ Some answer → Granted ≡ answer
    granted true e = cc
    granted false e = cc

    by : (due simulated : Bool) → cond due (Some Simulated) (unless_refused (cond simulated (Some Simulated) None) (t.place + t.length)) ≡ Some answer →
        cond (due || simulated) Simulated Granted ≡ answer
    by true simulated e = cc
    by false true e = cc
    by false false e = granted (nat_lt CEILING (t.place + t.length)) e

-- ---- accounts

-- an account of so many attempts, with these lines of them
record Keeps (made : ℕ) (lines : List Attempt) (a : Account) : Type 0 where
  attempts : a.attempts ≡ made
  no_rises : a.rises ≡ None
  trace : a.trace ≡ lines

keeps-noted : {made : ℕ} {trace : List Attempt} {a : Account} (space : Space) (q : Query) → Keeps made trace a → Keeps made trace (noted space q a)
keeps-noted space (heap_note count total) k = record { attempts = k.attempts; no_rises = k.no_rises; trace = k.trace }
keeps-noted space (available_note row) k = record { attempts = k.attempts; no_rises = k.no_rises; trace = k.trace }
keeps-noted space (compress_note top) k = record { attempts = k.attempts; no_rises = k.no_rises; trace = k.trace }

keeps-recorded : {made : ℕ} {trace : List Attempt} {a : Account} (space : Space) (t : Request) (answer : Answer) → Keeps made trace a →
    Keeps (made + 1) (trace ++ trace_line (made + 1) t answer ∷ []) (recorded space (made + 1) t answer a)
keeps-recorded {made} {trace} {a} space t answer k = record {
  attempts = refl;
  no_rises = ap (λ (o : Option (List Rise)). rises_with o (trace_line (made + 1) t answer)) k.no_rises;
  trace = recorded-trace space (made + 1) t answer a k.no_rises ∙ ap (λ l. l ++ trace_line (made + 1) t answer ∷ []) k.trace;
}

-- ---- ends

-- without a leak there are no cells, so that there are none in the other run
no-leaks : (left : Option ℤ) (hs gs : List Header) → length gs ≡ length hs → is_fine_outcome (Ended left (map leak_of hs)) ≡ true → map leak_of gs ≡ map leak_of hs
no-leaks left [] [] same fine = refl
no-leaks left [] (g ∷ gs) same fine = absurd (omega (arith, same))
no-leaks left (h ∷ hs) gs same fine = absurd (false≢true fine)

left-same : {pairs : PointerPairs} {way other_way : Way} → IsSameWay pairs way other_way → left_by other_way ≡ left_by way
left-same same_plain = refl
left-same (same_return s) = refl
left-same (same_leave code) = refl

module _ (numbers : List ℕ) (space other_space : Space) where
  abbrev one : Process → Account → Settled
  one p a = settled (Set numbers) space p a

  abbrev other : Process → Account → Settled
  other p a = settled_under numbers other_space p a

  abbrev SameIfFine : Settled → Settled → Type 0
  SameIfFine x y = is_fine (result_of x) ≡ true → IsSameButPlaces (result_of x) (result_of y)

  -- after an attempt with these numbers and answers
  abbrev Answered : (Settled → Settled → Type 0) → Request → Request → (ℕ → Answer → Process) → (ℕ → Answer → Process) → Account → Account → ℕ → ℕ → Answer → Answer → Type 0
  Answered Alike t u go other_go a b n m x y = Alike (one (go n x) (recorded space n t x a)) (other (other_go m y) (recorded other_space m u y b))

  settles : {w : Partners} {p q : Process} {ts us : List Attempt} → GoesAlike w p q → (a b : Account) → Keeps w.made ts a → Keeps w.made us b → AllBeside IsSameAttempt ts us →
      SameIfFine (one p a) (other q b)
  settles {ts = ts} {us = us} (both_end {way = way} {other_way = other_way} {st = st} {other = st'} same beside) a b k l lines fine = record {
    outcome =
        ap_two Ended (left-same same)
        (no-leaks (left_by way) (cells_of_all_levels (headers st.heap.row)) (cells_of_all_levels (headers st'.heap.row)) (all_levels-counted beside.heap) fine);
    trace = subst (λ xs. AllBeside IsSameAttempt xs b.trace) (sym k.trace) (subst (AllBeside IsSameAttempt ts) (sym l.trace) lines);
    lines = beside.lines;
    steps = beside.steps;
  }
  settles {ts = ts} {us = us} (both_lack beside) a b k l lines fine = record {
    outcome = refl;
    trace = subst (λ xs. AllBeside IsSameAttempt xs b.trace) (sym k.trace) (subst (AllBeside IsSameAttempt ts) (sym l.trace) lines);
    lines = beside.lines;
    steps = beside.steps;
  }
  settles panics_first a b k l lines fine = absurd (false≢true fine)
  settles cut_first a b k l lines fine = absurd (false≢true fine)
  settles (both_note {q = q} {other_q = u} follow) a b k l lines fine = settles follow (noted space q a) (noted other_space u b) (keeps-noted space q k) (keeps-noted other_space u l) lines fine
  settles {w} {ts = ts} {us = us} (both_ask {t = t} {u = u} {cut = cut} {other_cut = other_cut} {go = go} {other_go = other_go} p q long due follow) a b k l lines fine =
      by (answer_to (Set numbers) (next_number a) t) refl
      (λ answer.
      settles (follow answer) (recorded space (w.made + 1) t answer a) (recorded other_space (w.made + 1) u answer b)
      (subst (λ n. Keeps n (ts ++ trace_line (w.made + 1) t answer ∷ []) (recorded space (w.made + 1) t answer a)) (sym (answer-made answer)) (keeps-recorded space t answer k))
      (subst (λ n. Keeps n (us ++ trace_line (w.made + 1) u answer ∷ []) (recorded other_space (w.made + 1) u answer b)) (sym (answer-made answer)) (keeps-recorded other_space u answer l))
      (append-beside lines (one_beside (record { number = refl; length = long; answer = refl }) none_beside)))
      fine
    where
      answer-made : (answer : Answer) → (after_answer w p q answer).made ≡ w.made + 1
      answer-made Granted = refl
      answer-made Simulated = refl
      answer-made Refused = refl

      ended : Settled
      ended = record { end = stopped (is_cut Ceiling); state = cut; account = a }

      mine : next_number a ≡ w.made + 1
      mine = ap (λ n. n + 1) k.attempts

      its : next_number b ≡ w.made + 1
      its = ap (λ n. n + 1) l.attempts

      by : (o : Option Answer) → answer_to (Set numbers) (next_number a) t ≡ o → ((answer : Answer) → Answered SameIfFine t u go other_go a b (w.made + 1) (w.made + 1) answer answer) →
          SameIfFine (on_answer o ended (λ x. one (go (next_number a) x) (recorded space (next_number a) t x a))) (other (asks u other_cut other_go) b)
      by None e rest fine = absurd (false≢true fine)
      by (Some x) e rest fine =
          let same : answer_under numbers (next_number b) u ≡ x =
          ap_two (λ (n : ℕ) (d : Bool). cond (d || simulates (Set numbers) n) Simulated Granted) (its ∙ sym mine) due ∙ answer-uncut numbers (next_number a) t x e in
          subst (Answered SameIfFine t u go other_go a b (next_number a) (next_number b) x) (sym same)
          (subst (λ n. Answered SameIfFine t u go other_go a b n (next_number b) x x) (sym mine)
          (subst (λ m. Answered SameIfFine t u go other_go a b (w.made + 1) m x x) (sym its) (rest x))) fine

  -- ---- one process, cut by the ceiling or not

  record IsSame (x y : Settled) : Type 0 where
    end : y.end ≡ x.end
    state : y.state ≡ x.state
    trace : y.account.trace ≡ x.account.trace

  abbrev SameIfUncut : Settled → Settled → Type 0
  SameIfUncut x y = outcome_of x.end x.state ≢ Cut Ceiling → IsSame x y

  uncut : (p : Process) (made : ℕ) (ts : List Attempt) (a b : Account) → Keeps made ts a → Keeps made ts b → SameIfUncut (one p a) (other p b)
  uncut (ends way st) made ts a b k l whole = record { end = refl; state = refl; trace = l.trace ∙ sym k.trace }
  uncut (stops stop st) made ts a b k l whole = record { end = refl; state = refl; trace = l.trace ∙ sym k.trace }
  uncut (notes q p) made ts a b k l whole = uncut p made ts (noted space q a) (noted other_space q b) (keeps-noted space q k) (keeps-noted other_space q l) whole
  uncut (asks t cut go) made ts a b k l whole =
      by (answer_to (Set numbers) (next_number a) t) refl
      (λ answer. uncut (go (made + 1) answer) (made + 1) (ts ++ trace_line (made + 1) t answer ∷ []) (recorded space (made + 1) t answer a) (recorded other_space (made + 1) t answer b) (keeps-recorded space t answer k) (keeps-recorded other_space t answer l))
      whole
    where
      ended : Settled
      ended = record { end = stopped (is_cut Ceiling); state = cut; account = a }

      mine : next_number a ≡ made + 1
      mine = ap (λ n. n + 1) k.attempts

      its : next_number b ≡ made + 1
      its = ap (λ n. n + 1) l.attempts

      by : (o : Option Answer) → answer_to (Set numbers) (next_number a) t ≡ o → ((answer : Answer) → Answered SameIfUncut t t go go a b (made + 1) (made + 1) answer answer) →
          SameIfUncut (on_answer o ended (λ x. one (go (next_number a) x) (recorded space (next_number a) t x a))) (other (asks t cut go) b)
      by None e rest whole = absurd (whole refl)
      by (Some x) e rest whole =
          let same : answer_under numbers (next_number b) t ≡ x = ap (λ n. answer_under numbers n t) (its ∙ sym mine) ∙ answer-uncut numbers (next_number a) t x e in
          subst (Answered SameIfUncut t t go go a b (next_number a) (next_number b) x) (sym same)
          (subst (λ n. Answered SameIfUncut t t go go a b n (next_number b) x x) (sym mine)
          (subst (λ m. Answered SameIfUncut t t go go a b (made + 1) m x x) (sym its) (rest x))) whole

-- ---- runs

first-kept : (space : Space) → Keeps 0 [] (before space)
first-kept space = record { attempts = refl; no_rises = refl; trace = refl }

pub same-but-places : (script : Script) (budget : ℕ) (shape : Shape) (numbers : List ℕ) (placement : Placement) → shape.moving ≡ true →
    is_fine (set_run script budget shape numbers) ≡ true → IsSameButPlaces (set_run script budget shape numbers) (placed_run script budget numbers placement)
same-but-places script budget shape numbers placement moving fine =
    let space = space_of (Set numbers) shape in
    settles numbers space no_space
    (subst (λ m. GoesAlike at_first (process script budget (first_fit m)) (process script budget placement)) (sym moving) (process-alike script budget placement))
    (before space) (before no_space) (first-kept space) (first-kept no_space) none_beside fine

pub every-placing-fine : (script : Script) (budget : ℕ) (shape : Shape) → shape.moving ≡ true → AreAllSetsFine script budget shape →
    (numbers : List ℕ) → IsSet numbers → (placement : Placement) → is_fine (placed_run script budget numbers placement) ≡ true
every-placing-fine script budget shape moving fine numbers set placement =
    let same = same-but-places script budget shape numbers placement moving (fine numbers set) in
    ap is_fine_outcome same.outcome ∙ fine numbers set

pub first_fit-placed : (script : Script) (budget : ℕ) (shape : Shape) (numbers : List ℕ) → (set_run script budget shape numbers).outcome ≢ Cut Ceiling →
    IsSameButNotes (set_run script budget shape numbers) (placed_run script budget numbers (placement_of shape))
first_fit-placed script budget shape numbers whole = record {
  outcome = ap_two outcome_of is.end is.state;
  trace = is.trace;
  lines = ap (λ (st : State). st.lines) is.state;
  steps = ap (λ (st : State). st.steps) is.state;
}
  where
    is : IsSame numbers (space_of (Set numbers) shape) no_space (settled (Set numbers) (space_of (Set numbers) shape) (process script budget (placement_of shape)) (before (space_of (Set numbers) shape)))
        (settled_under numbers no_space (process script budget (placement_of shape)) (before no_space))
    is = uncut numbers (space_of (Set numbers) shape) no_space (process script budget (placement_of shape)) 0 [] (before (space_of (Set numbers) shape)) (before no_space)
        (first-kept (space_of (Set numbers) shape)) (first-kept no_space) whole

pub in-place-fine : (script : Script) (budget : ℕ) (shape still : Shape) → shape.moving ≡ true → AreAllSetsFine script budget shape →
    ((numbers : List ℕ) → IsSet numbers → (set_run script budget still numbers).outcome ≢ Cut Ceiling) → AreAllSetsFine script budget still
in-place-fine script budget shape still moving fine whole numbers set =
    let same = first_fit-placed script budget still numbers (whole numbers set) in
    ap is_fine_outcome (sym same.outcome) ∙ every-placing-fine script budget shape moving fine numbers set (placement_of still)
