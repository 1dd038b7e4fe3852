-- Edits of a list of words.
use Rattle.std.proofs.Common.{◌≡◌, ◌≢◌, ℕ, zero, suc, ◌+◌, ◌-◌, ◌≤◌, List, [], ◌∷◌, ◌++◌, length, slice_set, take, drop, refl, sym, ◌∙◌, ap, arith, append_assoc, length-append}
use Rattle.std.specs.Prelude.{slice_range}
use Rattle.std.specs.List.{replace_range}
use Rattle.std.proofs.lemmas.List.{take_at, drop_at, drop-drop, drop-append-le, take-append-le}

-- words over a part of the list that begins after two others
pub replace_range-inside : (before head body after new : List ℕ) (at n : ℕ) → length before + length head ≡ at → n ≤ length body →
    replace_range (before ++ (head ++ (body ++ after))) at (at + n) new ≡ before ++ (head ++ ((new ++ drop n body) ++ after))
replace_range-inside before head body after new at n is fits =
    let ws = before ++ (head ++ (body ++ after)) in
    let front : length (before ++ head) ≡ at = length-append before head ∙ is in
    let parts : ws ≡ (before ++ head) ++ (body ++ after) = sym (append_assoc before head (body ++ after)) in
    let first : take at ws ≡ before ++ head = ap (take at) parts ∙ take_at (before ++ head) (body ++ after) at front in
    let last : drop (at + n) ws ≡ drop n body ++ after =
    sym (drop-drop n at ws) ∙ ap (drop n) (ap (drop at) parts ∙ drop_at (before ++ head) (body ++ after) at front) ∙ drop-append-le n body after fits in
    rw (first, last) (simp append_assoc)

-- and what was there
pub slice_range-inside : (before head body after : List ℕ) (at n : ℕ) → length before + length head ≡ at → n ≤ length body →
    slice_range (before ++ (head ++ (body ++ after))) at (at + n) ≡ take n body
slice_range-inside before head body after at n is fits =
    let ws = before ++ (head ++ (body ++ after)) in
    let front : length (before ++ head) ≡ at = length-append before head ∙ is in
    let parts : ws ≡ (before ++ head) ++ (body ++ after) = sym (append_assoc before head (body ++ after)) in
    let left : at + n - at ≡ n = omega arith in
    rw (left, ap (drop at) parts ∙ drop_at (before ++ head) (body ++ after) at front) (take-append-le n body after fits)

-- two words at two places, in either order
pub sets_swap : (l : List ℕ) (i j a b : ℕ) → i ≢ j → slice_set (slice_set l i a) j b ≡ slice_set (slice_set l j b) i a
sets_swap [] i j a b apart = refl
sets_swap (x ∷ l) zero zero a b apart = absurd (apart refl)
sets_swap (x ∷ l) zero (suc j) a b apart = refl
sets_swap (x ∷ l) (suc i) zero a b apart = refl
sets_swap (x ∷ l) (suc i) (suc j) a b apart = ap (λ r. x ∷ r) (sets_swap l i j a b (λ e. apart (ap suc e)))
