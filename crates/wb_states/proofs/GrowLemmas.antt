-- What a search has found stays true as it grows: how the runs that it follows begin, and that each edge is listed for its state.
use Rattle.std.proofs.Common.{◌≡◌, ℕ, ◌+◌, ◌≤◌, zero, suc, arith, false, true, List, [], ◌∷◌, ◌++◌, length, Ok, Err, is_err, OnOk, Result, Some, None, refl, sym, ◌∙◌, ap, subst, inl, inr}
use Rattle.std.proofs.lemmas.List.{length-append}
use Rattle.std.proofs.lemmas.Option.{slice_get_within}
use Rattle.std.specs.Prelude.{slice_get, IfSome}
use Rattle.wb_machine.specs.Seen.{seen_at_start, Seen}
use Rattle.wb_machine.proofs.asking.Made.{asked_at_start}
use Rattle.wb_heap_model.specs.declared.heap.Rule.{Rule}
use Rattle.wb_heap_model.specs.declared.heap.Rule.TheVariants.{Set, Unlimited}
use Rattle.wb_heap_model.specs.SameRules.{SameSoFar}
use Rattle.wb_runs.specs.Sets.{AscendsPast, IsSet}
use Rattle.wb_runs.proofs.SetLemmas.{ascends-first}
use Rattle.wb_states.specs.declared.runs.Runs.{Runs}
use Rattle.wb_states.specs.declared.search.Search.{Search}
use Rattle.wb_states.specs.declared.state.Edge.{Edge}
use Rattle.wb_states.specs.declared.state.Edge.TheVariants.{Untried}
use Rattle.wb_states.specs.declared.state.State.{State}
use Rattle.wb_states.specs.Ground.{past, run_of, turns_of, Ground, IsTriedSet}
use Rattle.wb_runs.specs.Met.{AreWithin}
use Rattle.wb_states.specs.States.{failing_next, ground_of, next_attempt, turns_at, AreOfOr, AreRunsOf, AreStates, BeginsAtTheStart, GoesOn, HasGrown, IsAboutTo, IsKept, IsRunOf, IsShown, IsSound, IsState}
use Rattle.wb_states.proofs.MeetingLemmas.{same-before}
use Rattle.wb_states.proofs.StateLemmas.{failed-next, granted-next}

-- ---- numbers within an attempt

within-later : (m : ℕ) (xs : List ℕ) → AreWithin m xs → AreWithin (m + 1) xs
within-later m [] within = tt
within-later m (x ∷ xs) within = (omega (arith, within.0), within-later m xs within.1)

within-more : (m : ℕ) (xs : List ℕ) → AreWithin m xs → AreWithin (m + 1) (xs ++ (m + 1) ∷ [])
within-more m [] within = (omega arith, tt)
within-more m (x ∷ xs) within = (omega (arith, within.0), within-more m xs within.1)

ascends-more : (from m : ℕ) (xs : List ℕ) → from ≤ m → AscendsPast from xs → AreWithin m xs → AscendsPast from (xs ++ (m + 1) ∷ [])
ascends-more from m [] le up within = (omega (arith, le), tt)
ascends-more from m (x ∷ xs) le up within = (up.0, ascends-more x m xs within.0 up.1 within.1)

-- ---- the runs that are followed from a state

-- the state at an index
pub found-at : (states : List State) (i n : ℕ) (state : State) → Some state ≡ slice_get states i → i ≡ n → slice_get states n ≡ Some state
found-at states i n state found is = ap (slice_get states) (sym is) ∙ sym found

pub same-state : (states : List State) (n : ℕ) (state other : State) → slice_get states n ≡ Some state → slice_get states n ≡ Some other → state ≡ other
same-state states n state other at there = cc

pub set-next : (g : Ground) (state : State) (m : Seen) (numbers : List ℕ) → IsState g state → IsRunOf g state m → numbers ≡ state.numbers ++ (m.attempts + 1) ∷ [] →
    IsSet numbers
set-next g state m numbers is run same =
    subst IsSet (sym same) (ascends-more 0 m.attempts state.numbers (omega arith) is.set run.under_way.made)

-- the rule under which the next attempt fails too refuses the same of those that were made
pub fits-next : (g : Ground) (state : State) (m : Seen) (numbers : List ℕ) → IsRunOf g state m → numbers ≡ state.numbers ++ (m.attempts + 1) ∷ [] →
    SameSoFar (Set numbers) m.rule m.attempts
fits-next g state m numbers run same =
    subst (λ (ns : List ℕ). SameSoFar (Set ns) m.rule m.attempts) (sym same)
    (subst (λ (own : Rule). SameSoFar (Set (state.numbers ++ (m.attempts + 1) ∷ [])) own m.attempts) (sym run.under_way.rule)
    (same-before m.attempts state.numbers ((m.attempts + 1) ∷ []) (omega arith, tt)))

-- that in which its next attempt is granted
pub about-granted : (g : Ground) (state : State) (numbers : List ℕ) (fork : Seen) → IsState g state → IsRunOf g state fork → numbers ≡ state.numbers →
    IsAboutTo g numbers fork
about-granted g state numbers fork is run same =
    subst (λ ns. IsAboutTo g ns fork) (sym same) (record {
      rule = run.under_way.rule;
      script = run.under_way.script;
      budget = run.under_way.budget;
      shape = run.under_way.shape;
      well = run.under_way.well;
      begun = run.begun;
      going = run.going;
      asks = run.asks;
      set = is.set;
      made = within-later fork.attempts state.numbers run.under_way.made;
      steps = run.under_way.steps;
      tried = is.tried;
    })

-- and that in which it fails
pub about-failed : (g : Ground) (state : State) (numbers : List ℕ) (m fork : Seen) → IsRunOf g state m → numbers ≡ state.numbers ++ (m.attempts + 1) ∷ [] →
    fork ≡ record m { rule = Set numbers } → IsTriedSet g numbers → IsAboutTo g numbers fork
about-failed g state numbers m fork run same copied tried = subst (IsAboutTo g numbers) (sym copied) (record {
  rule = refl;
  script = run.under_way.script;
  budget = run.under_way.budget;
  shape = run.under_way.shape;
  well = run.under_way.well;
  begun = run.begun;
  going = run.going;
  asks = run.asks;
  set = tried.set;
  made = subst (AreWithin (m.attempts + 1)) (sym same) (within-more m.attempts state.numbers run.under_way.made);
  steps = run.under_way.steps;
  tried = inr tried;
})

-- a set that isn't empty is tried if one is that begins with it
tried-before : (g : Ground) (numbers : List ℕ) (n : ℕ) (more : List ℕ) → IsTriedSet g ((numbers ++ n ∷ []) ++ more) → IsTriedSet g (numbers ++ n ∷ [])
tried-before g [] n more is = record { set = ascends-first 0 (n ∷ []) more is.set; least = is.least }
tried-before g (x ∷ xs) n more is = record { set = ascends-first 0 (x ∷ xs ++ n ∷ []) more is.set; least = is.least }

pub untried-failed : (g : Ground) (states : List State) (turns : ℕ) (set : List ℕ) (next : ℕ) (numbers : List ℕ) → numbers ≡ set ++ next ∷ [] →
    (IsTriedSet g numbers → ⊥) → GoesOn g states turns (set ++ next ∷ []) next Untried
untried-failed g states turns set next numbers same untried more up tried =
    untried (subst (IsTriedSet g) (sym same) (tried-before g set next (past next more) tried))

module _ (g : Ground) (states : List State) (state other : State) (one : state ≡ other) (m : Seen) (attempts : m.attempts ≡ state.attempts) (steps : m.steps ≡ state.steps)
    (numbers : List ℕ) (same : numbers ≡ state.numbers) (edge : Edge) where
  -- the run under the set that has a state's next attempt, too, goes on from there
  pub goes-failed : GoesOn g states (turns_of m.attempts m.steps) (numbers ++ (m.attempts + 1) ∷ []) (m.attempts + 1) edge →
      GoesOn g states (turns_at other) (failing_next other) (next_attempt other) edge
  goes-failed goes =
      subst (λ (x : State). GoesOn g states (turns_at x) (failing_next x) (next_attempt x) edge) one
      (subst (λ n. GoesOn g states (turns_of state.attempts n) (failing_next state) (next_attempt state) edge) steps
      (subst (λ n. GoesOn g states (turns_of n m.steps) (state.numbers ++ (n + 1) ∷ []) (n + 1) edge) attempts
      (subst (λ ns. GoesOn g states (turns_of m.attempts m.steps) (ns ++ (m.attempts + 1) ∷ []) (m.attempts + 1) edge) same goes)))

  -- and that in which it is granted
  pub goes-granted : GoesOn g states (turns_of m.attempts m.steps) numbers (m.attempts + 1) edge →
      GoesOn g states (turns_at other) other.numbers (next_attempt other) edge
  goes-granted goes =
      subst (λ (x : State). GoesOn g states (turns_at x) x.numbers (next_attempt x) edge) one
      (subst (λ n. GoesOn g states (turns_of state.attempts n) state.numbers (next_attempt state) edge) steps
      (subst (λ n. GoesOn g states (turns_of n m.steps) state.numbers (n + 1) edge) attempts
      (subst (λ ns. GoesOn g states (turns_of m.attempts m.steps) ns (m.attempts + 1) edge) same goes)))

-- that of a run which goes on under another rule
pub goes-refused : (g : Ground) (states : List State) (m fork : Seen) (rule : Rule) (set numbers : List ℕ) (edge : Edge) → fork ≡ record m { rule = rule } →
    numbers ≡ set ++ (m.attempts + 1) ∷ [] → GoesOn g states (turns_of fork.attempts fork.steps) numbers (fork.attempts + 1) edge →
    GoesOn g states (turns_of m.attempts m.steps) (set ++ (m.attempts + 1) ∷ []) (m.attempts + 1) edge
goes-refused g states m fork rule set numbers edge copied same goes =
    subst (λ ns. GoesOn g states (turns_of m.attempts m.steps) ns (m.attempts + 1) edge) same
    (subst (λ (x : Seen). GoesOn g states (turns_of x.attempts x.steps) numbers (x.attempts + 1) edge) copied goes)

-- ---- a search in which other runs are kept

pub same-sound : (s t : Search) → t ≡ record s { runs = t.runs } → AreRunsOf (ground_of s) s.states t.runs → IsSound s → IsSound t
same-sound s t same runs is = subst IsSound (sym same) (record {
  whole = is.whole;
  part = is.part;
  last = is.last;
  last_made = is.last_made;
  fewer_granted = is.fewer_granted;
  fewer_failed = is.fewer_failed;
  states = is.states;
  met = is.met;
  runs = runs;
  first = is.first;
  granted = is.granted;
  failed = is.failed;
  shown = is.shown;
})

pub same-grown : (s t u : Search) → t ≡ record s { runs = t.runs } → HasGrown t u → HasGrown s u
same-grown s t u same grown = record {
  ground = grown.ground ∙ ap ground_of same;
  granted = grown.granted ∙ ap (λ (x : Search). x.granted) same;
  failed = grown.failed ∙ ap (λ (x : Search). x.failed) same;
  states = λ i state at. grown.states i state (subst (λ (x : Search). slice_get x.states i ≡ Some state) (sym same) at);
}

-- ---- a search with one more edge

one-longer : (edges : List Edge) (states : List State) (state : State) (edge : Edge) → slice_get states (length edges) ≡ Some state →
    length (edges ++ edge ∷ []) ≤ length states
one-longer edges states state edge at = omega (arith, length-append edges (edge ∷ []), slice_get_within states (length edges) state at)

sound-granted : (s : Search) (state : State) (edge : Edge) → IsSound s → slice_get s.states (length s.granted) ≡ Some state →
    GoesOn (ground_of s) s.states (turns_at state) state.numbers (next_attempt state) edge →
    IsSound (record s { granted = s.granted ++ edge ∷ [] })
sound-granted s state edge is at goes = record {
  whole = is.whole;
  part = is.part;
  last = is.last;
  last_made = is.last_made;
  fewer_granted = one-longer s.granted s.states state edge at;
  fewer_failed = is.fewer_failed;
  states = is.states;
  met = is.met;
  runs = is.runs;
  first = is.first;
  granted = granted-next (ground_of s) s.states s.granted state edge at is.granted goes;
  failed = is.failed;
  shown = is.shown;
}

sound-failed : (s : Search) (state : State) (edge : Edge) → IsSound s → slice_get s.states (length s.failed) ≡ Some state →
    GoesOn (ground_of s) s.states (turns_at state) (failing_next state) (next_attempt state) edge →
    IsSound (record s { failed = s.failed ++ edge ∷ [] })
sound-failed s state edge is at goes = record {
  whole = is.whole;
  part = is.part;
  last = is.last;
  last_made = is.last_made;
  fewer_granted = is.fewer_granted;
  fewer_failed = one-longer s.failed s.states state edge at;
  states = is.states;
  met = is.met;
  runs = is.runs;
  first = is.first;
  granted = is.granted;
  failed = failed-next (ground_of s) s.states s.failed state edge at is.failed goes;
  shown = is.shown;
}

-- the run of a state was followed in which its next attempt is granted
pub grown-granted : (s t : Search) (state : State) (edge : Edge) (granted : List Edge) → slice_get s.states (length s.granted) ≡ Some state → HasGrown s t →
    IsSound t → GoesOn (ground_of t) t.states (turns_at state) state.numbers (next_attempt state) edge → granted ≡ t.granted ++ edge ∷ [] →
    IsSound (record t { granted = granted })
grown-granted s t state edge granted at grown is goes pushed =
    subst (λ es. IsSound (record t { granted = es })) (sym pushed)
    (sound-granted t state edge is (ap (λ (es : List Edge). slice_get t.states (length es)) grown.granted ∙ grown.states (length s.granted) state at) goes)

-- and that in which it fails
pub grown-failed : (s t : Search) (state : State) (edge : Edge) (failed : List Edge) → slice_get s.states (length s.failed) ≡ Some state → HasGrown s t →
    IsSound t → GoesOn (ground_of t) t.states (turns_at state) (failing_next state) (next_attempt state) edge → failed ≡ t.failed ++ edge ∷ [] →
    IsSound (record t { failed = failed })
grown-failed s t state edge failed at grown is goes pushed =
    subst (λ es. IsSound (record t { failed = es })) (sym pushed)
    (sound-failed t state edge is (ap (λ (es : List Edge). slice_get t.states (length es)) grown.failed ∙ grown.states (length s.failed) state at) goes)

-- ---- a search that begins

abbrev start : State
start = record { numbers = []; attempts = 0; steps = 0; before = 0 }

abbrev start-run : Ground → Seen
start-run g = record (seen_at_start true g.script Unlimited g.budget g.shape) { rule = Set [] }

start-runs : (g : Ground) → IsRunOf g start (start-run g)
start-runs g = record {
  under_way = record {
    rule = refl;
    script = refl;
    budget = refl;
    shape = refl;
    well = refl;
    set = tt;
    made = tt;
    steps = omega arith;
  };
  attempts = refl;
  steps = refl;
  begun = λ is. absurd (omega (arith, is));
  going = refl;
  asks = refl;
}

only-start : (g : Ground) → AreStates g (start ∷ [])
only-start g zero state e = let same : start ≡ state = cc in subst (IsState g) same (record {
  set = tt;
  made = tt;
  tried = inl refl;
  asks = asked_at_start g.script (Set []) g.budget g.shape;
})
only-start g (suc i) state e = cc

only-run : (g : Ground) (runs : Runs) (m : Seen) → m ≡ start-run g → ((i : ℕ) (one : Seen) → IsKept runs i one → (i ≡ 0) × (one ≡ m)) → AreRunsOf g (start ∷ []) runs
only-run g runs m begins only i state one at kept =
    let is = only i one kept in
    let same : start ≡ state = (let first = ap (slice_get (start ∷ [])) (sym is.0) ∙ at in cc) in
    subst (λ (s : State). IsRunOf g s one) same (subst (IsRunOf g start) (sym (is.1 ∙ begins)) (start-runs g))

-- no attempt was made yet, so a rule under which none fails says as much of them as no rule
pub fits-none : (m : Seen) (numbers : List ℕ) → m.rule ≡ Unlimited → numbers ≡ [] → SameSoFar (Set numbers) m.rule m.attempts
fits-none m numbers rule none =
    subst (λ (ns : List ℕ). SameSoFar (Set ns) m.rule m.attempts) (sym none)
    (subst (λ (own : Rule). SameSoFar (Set []) own m.attempts) (sym rule) (record { no_limit = refl; own_no_limit = refl; same = λ number end first made. refl }))

-- what holds of a result that is no error
pub on-ok : {T E : Type 0} (r : Result T E) (P : Type 0) → is_err r ≡ false → OnOk r P → P
on-ok (Ok x) P none is = is
on-ok (Err e) P none is = cc

pub sound-first : (s : Search) (none : Runs) (m : Seen) → s.states ≡ start ∷ [] → ((i : ℕ) (one : Seen) → IsKept none i one → ⊥) → AreOfOr none 0 m s.runs →
    m ≡ start-run (ground_of s) → s.granted ≡ [] → s.failed ≡ [] → s.shown ≡ None → s.last ≡ length (run_of (ground_of s) []).trace → s.met ≡ 1 → IsSound s
sound-first s none m listed empty added begins none_granted none_failed none_shown last met = record {
  whole = refl;
  part = refl;
  last = refl;
  last_made = last;
  fewer_granted = omega (arith, ap length none_granted);
  fewer_failed = omega (arith, ap length none_failed);
  states = subst (AreStates (ground_of s)) (sym listed) (only-start (ground_of s));
  met = omega (arith, met, ap (λ (xs : List State). length xs) listed);
  runs = subst (λ xs. AreRunsOf (ground_of s) xs s.runs) (sym listed) (only-run (ground_of s) s.runs m begins only);
  first = subst BeginsAtTheStart (sym listed) (refl, refl);
  granted = λ i state edge at is. absurd (omega (arith, slice_get_within s.granted i edge is, ap length none_granted));
  failed = λ i state edge at is. absurd (omega (arith, slice_get_within s.failed i edge is, ap length none_failed));
  shown = subst (λ found. IfSome found (IsShown (ground_of s))) (sym none_shown) tt;
}
  where
    only : (i : ℕ) (one : Seen) → IsKept s.runs i one → (i ≡ 0) × (one ≡ m)
    only i one kept = elim (added i one kept) [
      | inl is ↦ is
      | inr was ↦ absurd (empty i one was.1)
    ]
