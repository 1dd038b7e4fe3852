-- A run in which the attempts of a set fail is the run in a heap that has room for what was granted, and for nothing else.
use Rattle.std.proofs.Common.{◌≡◌, ◌≢◌, ℕ, ◌+◌, ◌-◌, ◌≤◌, ◌<◌, arith, Bool, true, false, List, [], ◌∷◌, ◌++◌, length, map, append_assoc, refl, sym, ◌∙◌, ap, subst, Option, Some, None, cond}
use Rattle.std.specs.Prelude.{nat_eq, nat_le, nat_lt, ◌||◌, slice_get}
use Rattle.std.proofs.lemmas.Bool.{eqb-true, false≢true, leb-true, ltb-true, le-ltb, lt-ltb}
use Rattle.std.proofs.lemmas.List.{length-map, map-append}
use Rattle.wb_basics.specs.declared.limits.TheConstants.{CEILING}
use Rattle.wb_heap_model.specs.declared.heap.Answer.{Answer}
use Rattle.wb_heap_model.specs.declared.heap.Answer.TheVariants.{Granted, Simulated, Refused}
use Rattle.wb_heap_model.specs.declared.heap.Attempt.{Attempt}
use Rattle.wb_heap_model.specs.declared.heap.Rule.TheVariants.{Limit, Set}
use Rattle.wb_heap_model.specs.declared.heap.Shape.{Shape}
use Rattle.wb_meaning.specs.declared.run.Why.TheVariants.{Ceiling}
use Rattle.wb_tree.specs.declared.script.Script.{Script}
use Rattle.wb_heap_model.specs.Placement.{placement_of}
use Rattle.wb_heap_model.specs.Reported.{end_of_attempt, trace_line}
use Rattle.wb_heap_model.specs.Rises.{granted_end, end_of_line, highest_end}
use Rattle.wb_heap_model.specs.Rules.{Request, answer_to, unless_refused}
use Rattle.wb_heap_model.specs.Space.{Space, space_of}
use Rattle.wb_meaning.specs.State.{State, Process, ends, stops, asks, notes, is_cut}
use Rattle.wb_meaning.specs.Account.{Account, Settled, settled, stopped, on_answer, recorded, noted, next_number}
use Rattle.wb_meaning.specs.Run.{before, outcome_of, process}
use Rattle.wb_runs.specs.Sets.{as_simulated, set_run, simulated_too}
use Rattle.wb_meaning.proofs.AccountLemmas.{KeepsLines, before-lines, recorded-trace, recorded-lines, noted-lines}
use Rattle.wb_meaning.proofs.AgreementLemmas.{noted-trace, settled_extends}
use Rattle.wb_meaning.proofs.ThroughoutLemmas.{TakesRefusalsAlike, process-takes-alike}
use Rattle.wb_meaning.proofs.TraceLemmas.{run-numbered}
use Rattle.wb_runs.proofs.SameRuns.{get_after}
use Rattle.wb_runs.proofs.SetLemmas.{is_in}
use Rattle.wb_runs.proofs.SizeLemmas.{end_within}
use Rattle.wb_lengths.specs.SetHeaps.{TellsRunIn, are_past, is_cut_at_ceiling, is_past, shows_run_in}

-- what a line says of a heap's length, where the attempts of a set fail: a granted cell ends within it, and one of the set would end past it
record Fits (numbers : List ℕ) (l : ℕ) (t : Attempt) : Type 0 where
  granted : t.answer ≡ Granted → end_of_attempt t ≤ l
  refused : is_in t.number numbers ≡ true → l < end_of_attempt t

-- the answer in a heap, which differs at most in how a refusal is named
record Answered (l n : ℕ) (t : Request) (w : Answer) : Type 0 where
  answer : Answer
  is : answer_to (Limit l) n t ≡ Some answer
  same : w ≡ simulated_too answer

module _ (numbers : List ℕ) (l : ℕ) where
  answered : (n : ℕ) (t : Request) (w : Answer) → answer_to (Set numbers) n t ≡ Some w → Fits numbers l (trace_line n t w) → Answered l n t w
  answered n t w e fits = due t.due refl e
    where
      end : ℕ
      end = t.place + t.length

      limited : Bool → Bool → Bool → Option Answer
      limited d past ceiling = cond d (Some Simulated) (unless_refused (cond past (Some Refused) None) end)

      open_to : (c : Bool) → nat_lt CEILING end ≡ c → cond c None (Some Granted) ≡ Some w → (w ≡ Granted) × (cond c None (Some Granted) ≡ Some Granted)
      open_to true f g = cc
      open_to false f g = (cc, refl)

      in_set : (b : Bool) → is_in n numbers ≡ b → t.due ≡ false → unless_refused (cond b (Some Simulated) None) end ≡ Some w → Answered l n t w
      in_set true is undue f =
          let past = fits.refused is in
          record {
            answer = Refused;
            is = ap (λ d. cond d (Some Simulated) (unless_refused (cond (nat_lt l end) (Some Refused) None) end)) undue
                ∙ ap (λ b. unless_refused (cond b (Some Refused) None) end) (lt-ltb l end past);
            same = cc;
          }
      in_set false is undue f =
          let granted = open_to (nat_lt CEILING end) refl f in
          record {
            answer = Granted;
            is = ap (λ d. cond d (Some Simulated) (unless_refused (cond (nat_lt l end) (Some Refused) None) end)) undue
                ∙ ap (λ b. unless_refused (cond b (Some Refused) None) end) (le-ltb l end (fits.granted granted.0)) ∙ granted.1;
            same = granted.0;
          }

      due : (d : Bool) → t.due ≡ d → cond d (Some Simulated) (unless_refused (cond (is_in n numbers) (Some Simulated) None) end) ≡ Some w → Answered l n t w
      due true is f = record {
        answer = Simulated;
        is = ap (λ d. cond d (Some Simulated) (unless_refused (cond (nat_lt l end) (Some Refused) None) end)) is;
        same = cc;
      }
      due false is f = in_set (is_in n numbers) refl is f

-- the same end, and lines that are the same but for refusals
record IsSame (x y : Settled) : Type 0 where
  end : y.end ≡ x.end
  state : y.state ≡ x.state
  trace : y.account.trace ≡ map as_simulated x.account.trace

-- an account under a limit, and one under a set beside it
record AreBeside (a b : Account) : Type 0 where
  one : KeepsLines a
  other : KeepsLines b
  trace : b.trace ≡ map as_simulated a.trace

same_number : (a b : Account) → AreBeside a b → next_number b ≡ next_number a
same_number a b e = omega (arith, e.one.lines, e.other.lines, ap length e.trace, length-map a.trace as_simulated)

recorded_beside : (x_space y_space : Space) (t : Request) (w : Answer) (a b : Account) → AreBeside a b →
    AreBeside (recorded x_space (next_number a) t w a) (recorded y_space (next_number a) t (simulated_too w) b)
recorded_beside x_space y_space t w a b e =
    let n = next_number a in
    record {
      one = recorded-lines x_space t w a e.one;
      other = subst (λ m. KeepsLines (recorded y_space m t (simulated_too w) b)) (same_number a b e) (recorded-lines y_space t (simulated_too w) b e.other);
      trace = recorded-trace y_space n t (simulated_too w) b e.other.no_rises ∙ ap (λ l. l ++ trace_line n t (simulated_too w) ∷ []) e.trace
          ∙ sym (map-append as_simulated a.trace (trace_line n t w ∷ [])) ∙ ap (map as_simulated) (sym (recorded-trace x_space n t w a e.one.no_rises));
    }

-- what is asked of a run under a set
record Shows (numbers : List ℕ) (l : ℕ) (y : Settled) : Type 0 where
  uncut : y.end ≢ stopped (is_cut Ceiling)
  lines : (k : ℕ) (t : Attempt) → slice_get y.account.trace k ≡ Some t → Fits numbers l t

module _ (numbers : List ℕ) (l : ℕ) (x_space y_space : Space) where
  -- in the heap
  abbrev here : Process → Account → Settled
  here p a = settled (Limit l) x_space p a

  -- under the set
  abbrev there : Process → Account → Settled
  there p b = settled (Set numbers) y_space p b

  -- the line of an attempt that was answered is in the whole trace
  its-line : (p : Process) (n : ℕ) (t : Request) (w : Answer) (b : Account) → KeepsLines b →
      slice_get (there p (recorded y_space n t w b)).account.trace (length b.trace) ≡ Some (trace_line n t w)
  its-line p n t w b lines =
      let more = settled_extends (Set numbers) y_space p (recorded y_space n t w b) in
      ap (λ l. slice_get l (length b.trace))
      (more.is ∙ ap (λ l. l ++ more.more) (recorded-trace y_space n t w b lines.no_rises) ∙ append_assoc b.trace (trace_line n t w ∷ []) more.more)
      ∙ get_after b.trace (trace_line n t w) more.more

  as-limit : (p : Process) (a b : Account) → AreBeside a b → TakesRefusalsAlike p → Shows numbers l (there p b) → IsSame (here p a) (there p b)
  as-limit (ends way st) a b e alike shows = record { end = refl; state = refl; trace = e.trace }
  as-limit (stops stop st) a b e alike shows = record { end = refl; state = refl; trace = e.trace }
  as-limit (notes q p) a b e alike shows =
      let beside : AreBeside (noted x_space q a) (noted y_space q b) = record {
        one = noted-lines x_space q a e.one;
        other = noted-lines y_space q b e.other;
        trace = noted-trace y_space q b ∙ e.trace ∙ ap (map as_simulated) (sym (noted-trace x_space q a));
      } in
      as-limit p (noted x_space q a) (noted y_space q b) beside alike shows
  as-limit (asks t cut go) a b e alike shows =
      subst (λ m. Shows numbers l (on_answer (answer_to (Set numbers) m t) (ended b) (λ w. there (go m w) (recorded y_space m t w b))) →
      IsSame (here (asks t cut go) a) (on_answer (answer_to (Set numbers) m t) (ended b) (λ w. there (go m w) (recorded y_space m t w b)))) (sym (same_number a b e))
      (by (answer_to (Set numbers) n t) refl (λ v. as-limit (go n v) (recorded x_space n t v a) (recorded y_space n t (simulated_too v) b) (recorded_beside x_space y_space t v a b e) (alike.1 n v)))
      shows
    where
      n : ℕ
      n = next_number a

      ended : Account → Settled
      ended c = record { end = stopped (is_cut Ceiling); state = cut; account = c }

      denied : (v : Answer) → go n (simulated_too v) ≡ go n v
      denied Granted = refl
      denied Simulated = refl
      denied Refused = sym (alike.0 n)

      later : Answer → Settled
      later w = there (go n w) (recorded y_space n t w b)

      by : (o : Option Answer) → answer_to (Set numbers) n t ≡ o →
          ((v : Answer) → Shows numbers l (there (go n v) (recorded y_space n t (simulated_too v) b)) →
          IsSame (here (go n v) (recorded x_space n t v a)) (there (go n v) (recorded y_space n t (simulated_too v) b))) →
          Shows numbers l (on_answer o (ended b) later) →
          IsSame (here (asks t cut go) a) (on_answer o (ended b) later)
      by None is rest shows = absurd (shows.uncut refl)
      by (Some w) is rest shows =
          let told = shows.lines (length b.trace) (trace_line n t w) (its-line (go n w) n t w b e.other) in
          let found = answered numbers l n t w is told in
          let v = found.answer in
          let same_go : go n w ≡ go n v = ap (go n) found.same ∙ denied v in
          let as_later : later w ≡ there (go n v) (recorded y_space n t (simulated_too v) b) =
          ap (λ p. there p (recorded y_space n t w b)) same_go ∙ ap (λ w. there (go n v) (recorded y_space n t w b)) found.same in
          subst (λ o. IsSame (on_answer o (ended a) (λ v. here (go n v) (recorded x_space n t v a))) (later w)) (sym found.is)
          (subst (λ y. IsSame (here (go n v) (recorded x_space n t v a)) y) (sym as_later)
          (rest v (subst (Shows numbers l) as_later shows)))

-- ---- whole runs

same_end : (t : Attempt) → end_of_line (as_simulated t) ≡ end_of_line t
same_end t = by t.answer
  where
    by : (w : Answer) → granted_end (as_simulated t) (simulated_too w) ≡ granted_end t w
    by Granted = refl
    by Simulated = refl
    by Refused = refl

same_top : (ts : List Attempt) → highest_end (map as_simulated ts) ≡ highest_end ts
same_top [] = refl
same_top (t ∷ ts) = let first = same_end t in let rest = same_top ts in cc

-- a number of the set is one of its members
past_each : (l : ℕ) (trace : List Attempt) (numbers : List ℕ) (n : ℕ) (t : Attempt) → are_past l trace numbers ≡ true → is_in n numbers ≡ true →
    slice_get trace (n - 1) ≡ Some t → l < end_of_attempt t
past_each l trace [] n t are is there = absurd (false≢true is)
past_each l trace (m ∷ ms) n t are is there =
    first (is_past l (slice_get trace (m - 1))) refl are (λ rest f. past_each l trace ms n t rest f there)
  where
    here_past : is_past l (slice_get trace (n - 1)) ≡ true → l < end_of_attempt t
    here_past e = ltb-true l (end_of_attempt t) (sym (ap (is_past l) there) ∙ e)

    at : (b : Bool) → nat_eq m n ≡ b → is_past l (slice_get trace (m - 1)) ≡ true → (b || is_in n ms) ≡ true → (is_in n ms ≡ true → l < end_of_attempt t) →
        l < end_of_attempt t
    at true same e f later = here_past (ap (λ k. is_past l (slice_get trace (k - 1))) (sym (eqb-true m n same)) ∙ e)
    at false other e f later = later f

    first : (b : Bool) → is_past l (slice_get trace (m - 1)) ≡ b → cond b (are_past l trace ms) false ≡ true →
        (are_past l trace ms ≡ true → is_in n ms ≡ true → l < end_of_attempt t) → l < end_of_attempt t
    first true e rest later = at (nat_eq m n) refl e is (later rest)
    first false e rest later = absurd (false≢true rest)

module _ (script : Script) (budget : ℕ) (shape : Shape) (l : ℕ) (numbers : List ℕ) where
  abbrev x : Settled
  x = settled (Limit l) (space_of (Limit l) shape) (process script budget (placement_of shape)) (before (space_of (Limit l) shape))

  abbrev y : Settled
  y = settled (Set numbers) (space_of (Set numbers) shape) (process script budget (placement_of shape)) (before (space_of (Set numbers) shape))

  -- what the test says
  parts : (b c : Bool) → is_cut_at_ceiling (outcome_of y.end y.state) ≡ b → nat_le (highest_end y.account.trace) l ≡ c →
      cond b false (cond c (are_past l y.account.trace numbers) false) ≡ true →
      (is_cut_at_ceiling (outcome_of y.end y.state) ≡ false) × (highest_end y.account.trace ≤ l) × (are_past l y.account.trace numbers ≡ true)
  parts true c e f g = absurd (false≢true g)
  parts false true e f g = (e, leb-true _ _ f, g)
  parts false false e f g = absurd (false≢true g)

  shown : shows_run_in l numbers (set_run script budget shape numbers) ≡ true → Shows numbers l y
  shown is =
      let told = parts _ _ refl refl is in
      record {
        uncut = λ e. false≢true (sym told.0 ∙ ap (λ w. is_cut_at_ceiling (outcome_of w y.state)) e);
        lines = λ k t there.
            let numbered = run-numbered script budget shape (Set numbers) k t there in
            record {
              granted = λ granted.
                  let own : end_of_line t ≡ end_of_attempt t = ap (granted_end t) granted in
                  let within = end_within k y.account.trace t there in
                  omega (arith, told.1, own, within);
              refused = λ in_it.
                  let at : t.number - 1 ≡ k = omega (arith, numbered) in
                  past_each l y.account.trace numbers t.number t told.2 in_it (ap (slice_get y.account.trace) at ∙ there);
            };
      }

  -- a run that shows so tells how the run in the heap goes
  pub tells-by-set : shows_run_in l numbers (set_run script budget shape numbers) ≡ true → TellsRunIn script budget shape l (set_run script budget shape numbers)
  tells-by-set is =
      let same : IsSame x y =
      as-limit numbers l (space_of (Limit l) shape) (space_of (Set numbers) shape) (process script budget (placement_of shape)) _ _
      (record { one = before-lines (space_of (Limit l) shape); other = before-lines (space_of (Set numbers) shape); trace = refl })
      (process-takes-alike script budget (placement_of shape)) (shown is) in
      record {
        outcome = ap (λ w. outcome_of w y.state) same.end ∙ ap (λ st. outcome_of x.end st) same.state;
        steps = ap (λ (st : State). st.steps) same.state;
        top = ap highest_end same.trace ∙ same_top x.account.trace;
      }
