-- The rises of a trace, and those that are kept in its place.
use Rattle.std.proofs.Common.{◌≡◌, ℕ, suc, ◌-◌, arith, List, [], ◌∷◌, ◌++◌, length, Bool, true, false, refl, sym, ◌∙◌, ap, Option, Some, None, is_some, cond, max}
use Rattle.std.specs.Prelude.{nat_lt, slice_get}
use Rattle.std.proofs.lemmas.Bool.{ltb-true, ltb-false}
use Rattle.wb_heap_model.specs.declared.heap.Attempt.{Attempt}
use Rattle.wb_heap_model.specs.declared.size.Rise.{Rise}
use Rattle.wb_heap_model.specs.Rises.{end_of_line, highest_end, rise_of, rises_above, top_from, top_of_rises, with_line, rises_with}

-- the rise that a line is above a length and the rises above it, or none
abbrev rise_past : Attempt → ℕ → List Rise → List Rise
rise_past t top rs = cond (nat_lt (top_from top rs) (end_of_line t)) (rise_of t ∷ []) []

-- the rises once one more line is there
from_top : (top : ℕ) (ts : List Attempt) (t : Attempt) → rises_above top (ts ++ t ∷ []) ≡ rises_above top ts ++ rise_past t top (rises_above top ts)
from_top top [] t = refl
from_top top (u ∷ ts) t = by (nat_lt top (end_of_line u)) (from_top (end_of_line u) ts t) (from_top top ts t)
  where
    end : ℕ
    end = end_of_line u

    by : (b : Bool) → rises_above end (ts ++ t ∷ []) ≡ rises_above end ts ++ rise_past t end (rises_above end ts) →
        rises_above top (ts ++ t ∷ []) ≡ rises_above top ts ++ rise_past t top (rises_above top ts) →
        cond b (rise_of u ∷ rises_above end (ts ++ t ∷ [])) (rises_above top (ts ++ t ∷ []))
        ≡ cond b (rise_of u ∷ rises_above end ts) (rises_above top ts) ++ rise_past t top (cond b (rise_of u ∷ rises_above end ts) (rises_above top ts))
    by true over under = ap (λ rs. rise_of u ∷ rs) over
    by false over under = under

append-cond : (b : Bool) (rs : List Rise) (r : Rise) → rs ++ cond b (r ∷ []) [] ≡ cond b (rs ++ r ∷ []) rs
append-cond true rs r = refl
append-cond false rs r = append_nil rs
  where
    append_nil : (rs : List Rise) → rs ++ [] ≡ rs
    append_nil [] = refl
    append_nil (r ∷ rs) = ap (λ xs. r ∷ xs) (append_nil rs)

pub rises-push : (ts : List Attempt) (t : Attempt) → rises_above 0 (ts ++ t ∷ []) ≡ with_line (rises_above 0 ts) t
rises-push ts t = from_top 0 ts t ∙ append-cond (nat_lt (top_of_rises (rises_above 0 ts)) (end_of_line t)) (rises_above 0 ts) (rise_of t)

-- the greatest end of a grant is the last rise's top
top_is : (top : ℕ) (ts : List Attempt) → top_from top (rises_above top ts) ≡ max top (highest_end ts)
top_is top [] = omega arith
top_is top (t ∷ ts) = by (nat_lt top (end_of_line t)) refl (top_is (end_of_line t) ts) (top_is top ts)
  where
    by : (b : Bool) → nat_lt top (end_of_line t) ≡ b → top_from (end_of_line t) (rises_above (end_of_line t) ts) ≡ max (end_of_line t) (highest_end ts) →
        top_from top (rises_above top ts) ≡ max top (highest_end ts) →
        top_from top (cond b (rise_of t ∷ rises_above (end_of_line t) ts) (rises_above top ts)) ≡ max top (highest_end (t ∷ ts))
    by true e over under = let lt = ltb-true _ _ e in omega (arith, over, lt)
    by false e over under = let le = ltb-false _ _ e in omega (arith, under, le)

pub top-highest : (ts : List Attempt) → top_of_rises (rises_above 0 ts) ≡ highest_end ts
top-highest ts = let is = top_is 0 ts in omega (arith, is)

-- and a rise more is the last
pub last-rise : (top : ℕ) (rs : List Rise) (r : Rise) → top_from top (rs ++ r ∷ []) ≡ r.top
last-rise top [] r = refl
last-rise top (s ∷ rs) r = last-rise s.top rs r

-- it is the element at the last index
pub top-last : (top : ℕ) (rs : List Rise) (last : Rise) → slice_get rs (length rs - 1) ≡ Some last → top_from top rs ≡ last.top
top-last top [] last is = cc
top-last top (r ∷ []) last is = let same : r ≡ last = cc in ap (λ (x : Rise). x.top) same
top-last top (r ∷ s ∷ rs) last is =
    let index : length (r ∷ s ∷ rs) - 1 ≡ suc (length (s ∷ rs) - 1) = omega arith in
    top-last r.top (s ∷ rs) last (ap (slice_get (r ∷ s ∷ rs)) (sym index) ∙ is)

-- an attempt changes nothing about what is kept
pub rises-stay : (o : Option (List Rise)) (t : Attempt) → is_some (rises_with o t) ≡ is_some o
rises-stay None t = refl
rises-stay (Some rs) t = refl
