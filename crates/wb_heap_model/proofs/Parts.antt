-- What is in a part of a text, unit by unit.
use Rattle.std.proofs.Common.{◌≡◌, ℕ, ◌+◌, ◌≤◌, ◌<◌, List, length, take, drop, get_or, arith, ◌∙◌, ap, sym}
use Rattle.std.proofs.lemmas.Grind.{same_number_lists, common_steps}
use Rattle.std.proofs.lemmas.List.{get_or-take, get_or-drop, length-take, length-drop}
use Rattle.wb_heap_model.specs.Texts.{exactly, units_of_part}

pub length-exactly : (n : ℕ) (t : List ℕ) → length (exactly n t) ≡ n
length-exactly n t = grind (arith, common_steps)

pub unit-exactly : (n : ℕ) (t : List ℕ) (k : ℕ) → k < n → get_or (exactly n t) k 0 ≡ get_or t k 0
unit-exactly n t k lt = grind (arith, common_steps)

pub length-part : (base : List ℕ) (from count : ℕ) → length (units_of_part base from count) ≡ count
length-part base from count = length-exactly count (drop from base)

pub unit-part : (base : List ℕ) (from count k : ℕ) → k < count → get_or (units_of_part base from count) k 0 ≡ get_or base (from + k) 0
unit-part base from count k lt = unit-exactly count (drop from base) k lt ∙ get_or-drop from base k 0

length-stretch : (n at : ℕ) (xs : List ℕ) → at + n ≤ length xs → length (take n (drop at xs)) ≡ n
length-stretch n at xs le = simp (length-take, length-drop) (omega arith)

pub part-part : (base : List ℕ) (from count at n : ℕ) → at + n ≤ count →
    units_of_part base (from + at) n ≡ take n (drop at (units_of_part base from count))
part-part base from count at n le =
    same_number_lists _ _ (length-part base (from + at) n ∙ sym long) (λ k lt. same k (rw (length-part base (from + at) n) at lt))
  where
    whole : List ℕ
    whole = units_of_part base from count

    long : length (take n (drop at whole)) ≡ n
    long = length-stretch n at whole (omega (arith, length-part base from count))

    same : (k : ℕ) → k < n → get_or (units_of_part base (from + at) n) k 0 ≡ get_or (take n (drop at whole)) k 0
    same k lt =
        unit-part base (from + at) n k lt
        ∙ ap (λ i. get_or base i 0) (omega arith)
        ∙ sym (get_or-take n (drop at whole) k 0 lt ∙ get_or-drop at whole k 0 ∙ unit-part base from count (at + k) (omega arith))
