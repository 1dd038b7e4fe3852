-- Sets of attempts that fail: what small ones are, and why attempts past the last that a run makes change nothing.
use Rattle.std.proofs.Common.{◌≡◌, ◌≢◌, ℕ, ◌+◌, ◌<◌, ◌≤◌, ◌⊎◌, inl, inr, arith, Bool, true, false, List, [], ◌∷◌, ◌++◌, length, append_assoc, append-nil, refl, sym, ◌∙◌, ap, subst, Option, Some, None, cond, IsSome}
use Rattle.std.specs.Prelude.{nat_eq, ◌||◌, ◌&&◌}
use Rattle.std.specs.List.{list_any}
use Rattle.std.proofs.lemmas.Bool.{cases_lt, false≢true, ne_eqb, lt-ltb}
use Rattle.std.proofs.lemmas.List.{length-append}
use Rattle.std.proofs.lemmas.Option.{slice_get_within}
use Rattle.wb_runs.specs.declared.failures.Failures.TheVariants.{Single}
use Rattle.wb_heap_model.specs.declared.heap.Answer.{Answer}
use Rattle.wb_heap_model.specs.declared.heap.Answer.TheVariants.{Simulated}
use Rattle.wb_heap_model.specs.declared.heap.Rule.{Rule}
use Rattle.wb_heap_model.specs.declared.heap.Rule.TheVariants.{Number, Pair, Set}
use Rattle.wb_heap_model.specs.declared.heap.Shape.{Shape}
use Rattle.wb_meaning.specs.declared.run.Outcome.TheVariants.{Cut}
use Rattle.wb_meaning.specs.declared.run.RunResult.{RunResult}
use Rattle.wb_meaning.specs.declared.run.Why.TheVariants.{Ceiling}
use Rattle.wb_tree.specs.declared.script.Script.{Script}
use Rattle.wb_heap_model.specs.Placement.{placement_of}
use Rattle.wb_heap_model.specs.Rules.{Request, answer_to, refusal_of, unless_refused}
use Rattle.wb_heap_model.specs.Space.{Space, space_of}
use Rattle.wb_meaning.specs.State.{Process, ends, stops, asks, notes, is_cut}
use Rattle.wb_meaning.specs.Account.{Account, Settled, settled, stopped, on_answer, recorded, noted, next_number}
use Rattle.wb_meaning.specs.Agreement.{RefusesAtLeast, RefusesNoGrant}
use Rattle.wb_runs.specs.Pairs.{pair_run}
use Rattle.wb_meaning.specs.Run.{before, process, result_of}
use Rattle.wb_runs.specs.Sets.{AreMade, AreMadeAfter, AreSetsFine, AreSetsFineBefore, AscendsPast, IsSet, has_lesser_number, set_comes_before, set_run}
use Rattle.wb_runs.specs.Sweeps.{is_fine, runs_of}
use Rattle.wb_heap_model.proofs.RuleLemmas.{unsimulated-open}
use Rattle.wb_runs.proofs.SameRuns.{same_run}
use Rattle.wb_runs.proofs.SweepLemmas.{fine_uncut}
use Rattle.wb_meaning.proofs.TraceLemmas.{line_at, run-lines, run-numbered}

-- ---- rules that say the same of every attempt

module _ (r s : Rule) (alike : (number end : ℕ) → 1 ≤ number → refusal_of s number end ≡ refusal_of r number end) (space : Space) where
  answers : (n : ℕ) → 1 ≤ n → (t : Request) → answer_to s n t ≡ answer_to r n t
  answers n one t = ap (λ o. cond t.due (Some Simulated) (unless_refused o (t.place + t.length))) (alike n (t.place + t.length) one)

  pub settled-alike : (p : Process) (a : Account) → settled s space p a ≡ settled r space p a
  settled-alike (ends way st) a = refl
  settled-alike (stops stop st) a = refl
  settled-alike (notes q p) a = settled-alike p (noted space q a)
  settled-alike (asks t cut go) a =
      ap (λ o. on_answer o ended (λ w. settled s space (go n w) (recorded space n t w a))) (answers n (omega arith) t)
      ∙ by (answer_to r n t) (λ w. settled-alike (go n w) (recorded space n t w a))
    where
      n : ℕ
      n = next_number a

      ended : Settled
      ended = record { end = stopped (is_cut Ceiling); state = cut; account = a }

      by : (o : Option Answer) →
          ((w : Answer) → settled s space (go n w) (recorded space n t w a) ≡ settled r space (go n w) (recorded space n t w a)) →
          on_answer o ended (λ w. settled s space (go n w) (recorded space n t w a))
          ≡ on_answer o ended (λ w. settled r space (go n w) (recorded space n t w a))
      by None h = refl
      by (Some w) h = h w

or_false : (b : Bool) → (b || false) ≡ b
or_false true = refl
or_false false = refl

module _ (script : Script) (budget : ℕ) (shape : Shape) where
  abbrev pub told : List ℕ → RunResult
  told = set_run script budget shape

  pub none-fails : told [] ≡ runs_of Single script budget shape 0
  none-fails = ap result_of (settled-alike (Number 0) (Set []) alike (space_of (Number 0) shape) (process script budget (placement_of shape)) (before (space_of (Number 0) shape)))
    where
      alike : (number end : ℕ) → 1 ≤ number → refusal_of (Set []) number end ≡ refusal_of (Number 0) number end
      alike number end one = sym (unsimulated-open (Number 0) number end refl (ne_eqb 0 number (λ z. omega (arith, z, one))))

  pub one-fails : (n : ℕ) → told (n ∷ []) ≡ runs_of Single script budget shape n
  one-fails n = ap result_of (settled-alike (Number n) (Set (n ∷ [])) alike (space_of (Number n) shape) (process script budget (placement_of shape)) (before (space_of (Number n) shape)))
    where
      alike : (number end : ℕ) → 1 ≤ number → refusal_of (Set (n ∷ [])) number end ≡ refusal_of (Number n) number end
      alike number end one = ap (λ b. cond b (Some Simulated) None) (or_false (nat_eq n number))

  pub two-fail : (i j : ℕ) → told (i ∷ j ∷ []) ≡ pair_run script budget shape i j
  two-fail i j = ap result_of (settled-alike (Pair i j) (Set (i ∷ j ∷ [])) alike (space_of (Pair i j) shape) (process script budget (placement_of shape)) (before (space_of (Pair i j) shape)))
    where
      alike : (number end : ℕ) → 1 ≤ number → refusal_of (Set (i ∷ j ∷ [])) number end ≡ refusal_of (Pair i j) number end
      alike number end one = ap (λ b. cond (nat_eq i number || b) (Some Simulated) None) (or_false (nat_eq j number))

-- ---- numbers of attempts that aren't made

abbrev pub is_in : ℕ → List ℕ → Bool
is_in number numbers = list_any (λ it. nat_eq it number) numbers

any_append : (number : ℕ) (xs ys : List ℕ) → is_in number (xs ++ ys) ≡ (is_in number xs || is_in number ys)
any_append number [] ys = refl
any_append number (x ∷ xs) ys = by (nat_eq x number) (any_append number xs ys)
  where
    by : (b : Bool) → is_in number (xs ++ ys) ≡ (is_in number xs || is_in number ys) →
        (b || is_in number (xs ++ ys)) ≡ ((b || is_in number xs) || is_in number ys)
    by true h = refl
    by false h = h

-- each of an ascending list is greater than what it ascends past
pub not-before : (before number : ℕ) (ns : List ℕ) → AscendsPast before ns → number ≤ before → is_in number ns ≡ false
not-before before number [] up le = refl
not-before before number (n ∷ ns) up le =
    ap (λ b. b || is_in number ns) (ne_eqb n number (λ z. omega (arith, z, le, up.0))) ∙ not-before n number ns up.1 (omega (arith, le, up.0))

pub ascends-weaker : (low high : ℕ) (ns : List ℕ) → low ≤ high → AscendsPast high ns → AscendsPast low ns
ascends-weaker low high [] le up = tt
ascends-weaker low high (n ∷ ns) le up = (omega (arith, le, up.0), up.1)

pub ascends-first : (from : ℕ) (xs ys : List ℕ) → AscendsPast from (xs ++ ys) → AscendsPast from xs
ascends-first from [] ys up = tt
ascends-first from (x ∷ xs) ys up = (up.0, ascends-first x xs ys up.1)

pub ascends-last : (from : ℕ) (xs ys : List ℕ) → AscendsPast from (xs ++ ys) → AscendsPast from ys
ascends-last from [] ys up = up
ascends-last from (x ∷ xs) ys up = ascends-weaker from x ys (omega (arith, up.0)) (ascends-last x xs ys up.1)

module _ (script : Script) (budget : ℕ) (shape : Shape) where
  abbrev last_of : List ℕ → ℕ
  last_of numbers = length (told script budget shape numbers).trace

  -- further failures, of attempts that the run doesn't make, change nothing
  pub past-last : (numbers more : List ℕ) → (told script budget shape numbers).outcome ≢ Cut Ceiling → AscendsPast (last_of numbers) more →
      told script budget shape (numbers ++ more) ≡ told script budget shape numbers
  past-last numbers more uncut past =
      (same_run script budget shape (Set numbers) (Set (numbers ++ more)) refl least uncut no_grant).notes_too refl refl
    where
      least : RefusesAtLeast (Set numbers) (Set (numbers ++ more))
      least number end one h = rw (any_append number numbers more) (by (is_in number numbers) (is_in number more) h)
        where
          by : (a b : Bool) → IsSome (cond a (Some Simulated) None) → IsSome (cond (a || b) (Some Simulated) None)
          by true b h = refl
          by false b h = cc

      no_grant : RefusesNoGrant (Set (numbers ++ more)) (told script budget shape numbers).trace
      no_grant k t there granted =
          let numbered = run-numbered script budget shape (Set numbers) k t there in
          let within = slice_get_within (told script budget shape numbers).trace k t there in
          let line = line_at (Set numbers) 0 _ _ k t (run-lines script budget shape (Set numbers)) there in
          let unasked : is_in t.number more ≡ false = not-before (last_of numbers) t.number more past (omega (arith, numbered, within)) in
          ap (λ b. cond b (Some Simulated) None) (any_append t.number numbers more ∙ ap (λ b. is_in t.number numbers || b) unasked ∙ or_false (is_in t.number numbers))
          ∙ (line.2.granted granted).0

  made-on : (before ns : List ℕ) (n : ℕ) → AreMadeAfter script budget shape before ns → n ≤ last_of (before ++ ns) → AreMadeAfter script budget shape before (ns ++ n ∷ [])
  made-on before [] n made le = (subst (λ xs. n ≤ last_of xs) (append-nil before) le, tt)
  made-on before (m ∷ ms) n made le =
      (made.0, made-on (before ++ m ∷ []) ms n made.1 (subst (λ xs. n ≤ last_of xs) (sym (append_assoc before (m ∷ []) ms)) le))

  -- A set that isn't of attempts that are made gives the run of a part of it that is.
  pub record HasMadePart (numbers : List ℕ) : Type 0 where
    pub part : List ℕ
    pub rest : List ℕ
    pub first : ℕ
    pub is : numbers ≡ part ++ first ∷ rest
    pub made : AreMade script budget shape part
    pub past : last_of part < first

  split : (numbers before rest : List ℕ) → numbers ≡ before ++ rest → AreMade script budget shape before → AreMade script budget shape numbers ⊎ HasMadePart numbers
  split numbers before [] e made = inl (subst (AreMade script budget shape) (sym (e ∙ append-nil before)) made)
  split numbers before (n ∷ ns) e made =
      elim (cases_lt (last_of before) n) [
        | inl past ↦ inr (record { part = before; rest = ns; first = n; is = e; made = made; past = past })
        | inr le ↦ split numbers (before ++ n ∷ []) ns (e ∙ sym (append_assoc before (n ∷ []) ns)) (made-on [] before n made le)
      ]

  module _ (numbers : List ℕ) (up : IsSet numbers) (p : HasMadePart numbers) where
    whole_up : IsSet (p.part ++ p.first ∷ p.rest)
    whole_up = subst IsSet p.is up

    part_up : IsSet p.part
    part_up = ascends-first 0 p.part (p.first ∷ p.rest) whole_up

    part_less : length p.part < length numbers
    part_less = omega (arith, ap length p.is, length-append p.part (p.first ∷ p.rest))

    as_part : is_fine (told script budget shape p.part) ≡ true → is_fine (told script budget shape numbers) ≡ true
    as_part fine =
        ap (λ xs. is_fine (told script budget shape xs)) p.is
        ∙ ap is_fine (past-last p.part (p.first ∷ p.rest) (fine_uncut (told script budget shape p.part) fine) (p.past, (ascends-last 0 p.part (p.first ∷ p.rest) whole_up).1))
        ∙ fine

  -- where the sets of attempts that are made are fine, all are
  pub sets-fine : (most : ℕ) →
      ((numbers : List ℕ) → IsSet numbers → length numbers ≤ most → AreMade script budget shape numbers → is_fine (told script budget shape numbers) ≡ true) →
      AreSetsFine script budget shape most
  sets-fine most fine numbers up few =
      elim (split numbers [] numbers refl tt) [
        | inl made ↦ fine numbers up few made
        | inr p ↦ as_part numbers up p (fine p.part (part_up numbers up p) (omega (arith, few, part_less numbers up p)) p.made)
      ]

  -- a set whose run isn't fine, and before which all are, is of attempts that are made
  pub least-made : (numbers : List ℕ) → IsSet numbers → is_fine (told script budget shape numbers) ≡ false → AreSetsFineBefore script budget shape numbers →
      AreMade script budget shape numbers
  least-made numbers up unfine least =
      elim (split numbers [] numbers refl tt) [
        | inl made ↦ made
        | inr p ↦
            let before : set_comes_before p.part numbers ≡ true =
            ap (λ b. b || (nat_eq (length p.part) (length numbers) && has_lesser_number p.part numbers)) (lt-ltb _ _ (part_less numbers up p)) in
            absurd (false≢true (sym unfine ∙ as_part numbers up p (least p.part (part_up numbers up p) before)))
      ]
