-- The first refused line of a trace, and the greatest end of a granted one, in words.
use Rattle.std.proofs.Common.{◌≡◌, ◌≢◌, ◌⊎◌, inl, inr, ℕ, zero, suc, ◌<◌, ◌≤◌, arith, List, [], ◌∷◌, refl, sym, ◌∙◌, ap, Option, Some, None}
use Rattle.std.specs.Prelude.{slice_get, ◌↔◌}
use Rattle.std.proofs.lemmas.Bool.{cases_lt}
use Rattle.wb_heap_model.specs.declared.heap.Answer.{Answer}
use Rattle.wb_heap_model.specs.declared.heap.Answer.TheVariants.{Granted, Simulated, Refused}
use Rattle.wb_heap_model.specs.declared.heap.Attempt.{Attempt}
use Rattle.wb_heap_model.specs.Rises.{granted_end, end_of_line, highest_end}
use Rattle.wb_heap_model.specs.Reported.{end_of_attempt}
use Rattle.wb_runs.specs.Sizes.{refused_or_later, first_refusal, NoneIsRefused, IsFirstRefused, IsEndOfGrant, IsGreatestEnd}

-- one line more at the front
later_refused : (t : Attempt) (ts : List Attempt) (number : ℕ) → t.answer ≢ Refused → IsFirstRefused ts number → IsFirstRefused (t ∷ ts) number
later_refused t ts number unrefused is = record { at = suc is.at; line = is.line; there = is.there; numbered = is.numbered; refused = is.refused; first = before }
  where
    before : (k : ℕ) (u : Attempt) → k < suc is.at → slice_get (t ∷ ts) k ≡ Some u → u.answer ≢ Refused
    before zero u lt e = λ refused. let same : t ≡ u = cc in unrefused (ap (λ x. x.answer) same ∙ refused)
    before (suc k) u lt e = is.first k u (omega (arith, lt)) e

told_refused : (ts : List Attempt) (number : ℕ) → first_refusal ts ≡ Some number → IsFirstRefused ts number
told_refused [] number e = cc
told_refused (t ∷ ts) number e = by t.answer refl e (told_refused ts number)
  where
    by : (w : Answer) → t.answer ≡ w → refused_or_later t w (first_refusal ts) ≡ Some number → (first_refusal ts ≡ Some number → IsFirstRefused ts number) → IsFirstRefused (t ∷ ts) number
    by Refused f g rest = record { at = 0; line = t; there = refl; numbered = cc; refused = f; first = λ k u lt. absurd (omega (arith, lt)) }
    by Granted f g rest = later_refused t ts number (λ r. cc) (rest g)
    by Simulated f g rest = later_refused t ts number (λ r. cc) (rest g)

-- what isn't refused is passed over
passed : (t : Attempt) (later : Option ℕ) → t.answer ≢ Refused → refused_or_later t t.answer later ≡ later
passed t later unrefused = by t.answer refl
  where
    by : (w : Answer) → t.answer ≡ w → refused_or_later t w later ≡ later
    by Refused f = absurd (unrefused f)
    by Granted f = refl
    by Simulated f = refl

-- by the index of the line
refused_told : (ts : List Attempt) (number at : ℕ) (line : Attempt) → slice_get ts at ≡ Some line → line.number ≡ number → line.answer ≡ Refused →
    ((k : ℕ) (t : Attempt) → k < at → slice_get ts k ≡ Some t → t.answer ≢ Refused) → first_refusal ts ≡ Some number
refused_told [] number at line there numbered refused first = cc
refused_told (t ∷ ts) number zero line there numbered refused first =
    let same : t ≡ line = cc in
    ap (λ w. refused_or_later t w (first_refusal ts)) (ap (λ x. x.answer) same ∙ refused) ∙ ap Some (ap (λ x. x.number) same ∙ numbered)
refused_told (t ∷ ts) number (suc at) line there numbered refused first =
    passed t (first_refusal ts) (first 0 t (omega arith) refl)
    ∙ refused_told ts number at line there numbered refused (λ k u lt. first (suc k) u (omega (arith, lt)))

pub first_refused-some : (ts : List Attempt) (number : ℕ) → (first_refusal ts ≡ Some number) ↔ IsFirstRefused ts number
first_refused-some ts number = (told_refused ts number, λ is. refused_told ts number is.at is.line is.there is.numbered is.refused is.first)

some_refused : (ts : List Attempt) (k : ℕ) (t : Attempt) → slice_get ts k ≡ Some t → t.answer ≡ Refused → first_refusal ts ≢ None
some_refused [] k t there refused e = cc
some_refused (u ∷ ts) zero t there refused e =
    let same : u ≡ t = cc in
    let told = sym (ap (λ w. refused_or_later u w (first_refusal ts)) (ap (λ x. x.answer) same ∙ refused)) ∙ e in cc
some_refused (u ∷ ts) (suc k) t there refused e = by u.answer e (some_refused ts k t there refused)
  where
    by : (w : Answer) → refused_or_later u w (first_refusal ts) ≡ None → first_refusal ts ≢ None → ⊥
    by Refused f rest = cc
    by Granted f rest = rest f
    by Simulated f rest = rest f

told_none : (ts : List Attempt) → NoneIsRefused ts → first_refusal ts ≡ None
told_none [] none = refl
told_none (t ∷ ts) none = passed t (first_refusal ts) (none 0 t refl) ∙ told_none ts (λ k u there. none (suc k) u there)

pub first_refused-none : (ts : List Attempt) → (first_refusal ts ≡ None) ↔ NoneIsRefused ts
first_refused-none ts = (λ e k t there refused. some_refused ts k t there refused e, told_none ts)

-- one line more at the front
greatest_end-cons : (t : Attempt) (ts : List Attempt) → IsGreatestEnd ts (highest_end ts) → IsGreatestEnd (t ∷ ts) (highest_end (t ∷ ts))
greatest_end-cons t ts rest = record { greatest = greatest; reached = reached (cases_lt (highest_end ts) (end_of_line t)) }
  where
    greatest : (k : ℕ) (u : Attempt) → slice_get (t ∷ ts) k ≡ Some u → u.answer ≡ Granted → end_of_attempt u ≤ highest_end (t ∷ ts)
    greatest zero u there granted =
        let same : t ≡ u = cc in
        let end : end_of_line u ≡ end_of_attempt u = ap (granted_end u) granted in
        let own = ap end_of_line same in omega arith
    greatest (suc k) u there granted = let le = rest.greatest k u there granted in omega arith

    own_end : (w : Answer) → t.answer ≡ w → highest_end ts < end_of_line t → IsEndOfGrant (t ∷ ts) (highest_end (t ∷ ts))
    own_end Granted f lt = let end : end_of_line t ≡ end_of_attempt t = ap (granted_end t) f in record { at = 0; line = t; there = refl; granted = f; ends = omega (arith, end, lt) }
    own_end Simulated f lt = let none : end_of_line t ≡ 0 = ap (granted_end t) f in absurd (omega (arith, none, lt))
    own_end Refused f lt = let none : end_of_line t ≡ 0 = ap (granted_end t) f in absurd (omega (arith, none, lt))

    further : end_of_line t ≤ highest_end ts → (highest_end ts ≡ 0) ⊎ IsEndOfGrant ts (highest_end ts) → (highest_end (t ∷ ts) ≡ 0) ⊎ IsEndOfGrant (t ∷ ts) (highest_end (t ∷ ts))
    further le (inl none) = inl (omega (arith, none, le))
    further le (inr is) = inr (record { at = suc is.at; line = is.line; there = is.there; granted = is.granted; ends = omega (arith, is.ends, le) })

    reached : (highest_end ts < end_of_line t) ⊎ (end_of_line t ≤ highest_end ts) → (highest_end (t ∷ ts) ≡ 0) ⊎ IsEndOfGrant (t ∷ ts) (highest_end (t ∷ ts))
    reached (inl lt) = inr (own_end t.answer refl lt)
    reached (inr le) = further le rest.reached

-- the greatest end
pub highest_end-greatest : (ts : List Attempt) → IsGreatestEnd ts (highest_end ts)
highest_end-greatest [] = record { greatest = λ k t e. cc; reached = inl refl }
highest_end-greatest (t ∷ ts) = greatest_end-cons t ts (highest_end-greatest ts)
