-- One more attempt is a rise exactly if it ends above all before it.
use Rattle.std.proofs.Common.{◌≡◌, ◌<◌, ◌≤◌, List, [], ◌∷◌, ◌++◌, ℕ, Bool, true, false, refl, ap, subst, ◌∙◌, arith, nat_lt}
use Rattle.std.specs.Prelude.{if◌then◌else◌}
use Rattle.std.proofs.lemmas.Bool.Decides.{nat_tests}
use Rattle.wb_heap_model.specs.declared.heap.Attempt.{Attempt}
use Rattle.wb_heap_model.specs.RiseLines.{EndsAbove}
use Rattle.wb_heap_model.specs.Rises.{end_of_line, highest_end, rise_of, rises_above}
use Rattle.wb_heap_model.proofs.KeptRises.{rises-push, top-highest}

-- the highest end is below another exactly where all are
all_below : (before : List Attempt) (m : ℕ) → 0 < m → ((earlier later : List Attempt) (other : Attempt) → before ≡ earlier ++ other ∷ later → end_of_line other < m) → highest_end before < m
all_below [] m some each = some
all_below (t ∷ ts) m some each =
    let here = each [] ts t refl in
    let later = all_below ts m some (λ earlier later other parts. each (t ∷ earlier) later other (ap (λ l. t ∷ l) parts)) in
    omega (arith, here, later)

each_below : (before : List Attempt) (m : ℕ) → highest_end before < m → (earlier later : List Attempt) (other : Attempt) → before ≡ earlier ++ other ∷ later → end_of_line other < m
each_below [] m below [] later other parts = let clash : ⊥ = cc in absurd clash
each_below [] m below (x ∷ earlier) later other parts = let clash : ⊥ = cc in absurd clash
each_below (t ∷ ts) m below [] later other parts = let same : t ≡ other = cc in subst (λ x. end_of_line x < m) same (omega (arith, below))
each_below (t ∷ ts) m below (x ∷ earlier) later other parts = let rest : ts ≡ earlier ++ other ∷ later = cc in each_below ts m (omega (arith, below)) earlier later other rest

ends_above : (trace : List Attempt) (t : Attempt) → highest_end trace < end_of_line t → EndsAbove trace t
ends_above trace t below = (omega (arith, below), each_below trace (end_of_line t) below)

is_rise : (trace : List Attempt) (t : Attempt) (b : Bool) → nat_lt (highest_end trace) (end_of_line t) ≡ b → rises_above 0 (trace ++ t ∷ []) ≡ (if b then rises_above 0 trace ++ rise_of t ∷ [] else rises_above 0 trace)
is_rise trace t b is =
    rises-push trace t
    ∙ ap (λ (c : Bool). if c then rises_above 0 trace ++ rise_of t ∷ [] else rises_above 0 trace) (ap (λ n. nat_lt n (end_of_line t)) (top-highest trace) ∙ is)

tested : (a b : ℕ) → a < b → nat_lt a b ≡ true
tested a b lt = grind (arith, nat_tests)

untested : (a b : ℕ) → b ≤ a → nat_lt a b ≡ false
untested a b le = grind (arith, nat_tests)

not_below : (a b : ℕ) → (a < b → ⊥) → b ≤ a
not_below a b never = omega (arith, never)

pub one_rise : (trace : List Attempt) (t : Attempt) → EndsAbove trace t → rises_above 0 (trace ++ t ∷ []) ≡ rises_above 0 trace ++ rise_of t ∷ []
one_rise trace t (some, each) = is_rise trace t true (tested (highest_end trace) (end_of_line t) (all_below trace (end_of_line t) some each))

pub no_rise : (trace : List Attempt) (t : Attempt) → (EndsAbove trace t → ⊥) → rises_above 0 (trace ++ t ∷ []) ≡ rises_above 0 trace
no_rise trace t never = is_rise trace t false (untested (highest_end trace) (end_of_line t) (not_below (highest_end trace) (end_of_line t) (λ below. never (ends_above trace t below))))
