-- What the lengths of the free cells say of a row: where a new cell fits, the longest free run, and the room after a cell.
use Rattle.std.proofs.Common.{◌≡◌, ◌≢◌, ℕ, ◌+◌, ◌-◌, ◌*◌, ◌/◌, ◌%◌, ◌<◌, ◌≤◌, ◌⊎◌, inl, inr, List, [], ◌∷◌, length, slice_index, Bool, true, false, cond, Option, Some, None, find, refl, sym, ◌∙◌, ap, arith}
use Rattle.std.specs.Prelude.{nat_eq, nat_le}
use Rattle.std.proofs.lemmas.Bool.{eq-eqb, ne_eqb, leb-true, leb-false, cases_eq, cases_lt}
use Rattle.wb_heap_model.specs.declared.heap.Header.{Header}
use Rattle.wb_heap_model.specs.declared.heap.Ptr.{Ptr}
use Rattle.wb_heap_model.specs.CellRow.{room_after}
use Rattle.wb_heap_model.specs.Row.{IsSpacedFrom, end_of, is_at, place_from, top_from}
use Rattle.wb_heap_model.specs.Space.{free_runs, longest}
use Rattle.wb_heap_model.proofs.Places.{top_from-above}
use Rattle.wb_cells.specs.Maxima.{IsFirstLong, IsThere}
use Rattle.wb_cells.specs.RowGaps.{gap_from, found_or}
use Rattle.wb_cells.proofs.RowGaps.{one_here, one_off, gap-below}
use Rattle.wb_cells.proofs.NamedCells.{found_from}

-- the first free cell that is long enough is where first fit goes
pub place_from-gaps : (hs : List Header) (at bytes : ℕ) → IsSpacedFrom at hs → at % 16 ≡ 0 → 0 < bytes → (found : Option ℕ) →
    IsFirstLong (gap_from at hs) bytes found → place_from at hs bytes ≡ found_or found (top_from at hs)
place_from-gaps [] at bytes s r long None first = refl
place_from-gaps [] at bytes s r long (Some k) first = absurd (omega (arith, first.0, long))
place_from-gaps (h ∷ hs) at bytes s r long found first =
    go (nat_le (at + bytes) h.place) refl found first (place_from-gaps hs (end_of h) bytes s.5 (omega (arith, s.1, s.2)) long)
  where
    low : (k : ℕ) → 16 * k ≡ at → gap_from (end_of h) hs k ≡ 0
    low k e = gap-below hs (end_of h) k s.5 (omega (arith, e, s.0, s.3))

    here : 16 * (at / 16) ≡ at
    here = omega (arith, r)

    longer : at + bytes ≤ h.place → bytes ≤ gap_from at (h ∷ hs) (at / 16)
    longer le = omega (arith, le, one_here at (h.place - at) (at / 16) here)

    rest : h.place < at + bytes → (f : Option ℕ) → IsFirstLong (gap_from at (h ∷ hs)) bytes f → IsFirstLong (gap_from (end_of h) hs) bytes f
    rest short None none = λ k. omega (arith, none k)
    rest short (Some k) some = (other (cases_eq (16 * k) at), λ j lt. omega (arith, some.1 j lt))
      where
        other : (16 * k ≡ at) ⊎ (16 * k ≡ at → ⊥) → bytes ≤ gap_from (end_of h) hs k
        other (inl e) = absurd (omega (arith, some.0, one_here at (h.place - at) k e, low k e, short, long))
        other (inr apart) = omega (arith, some.0, one_off at (h.place - at) k apart)

    go : (b : Bool) → nat_le (at + bytes) h.place ≡ b → (f : Option ℕ) → IsFirstLong (gap_from at (h ∷ hs)) bytes f →
        ((q : Option ℕ) → IsFirstLong (gap_from (end_of h) hs) bytes q → place_from (end_of h) hs bytes ≡ found_or q (top_from (end_of h) hs)) →
        cond b at (place_from (end_of h) hs bytes) ≡ found_or f (top_from (end_of h) hs)
    go true e None none again = absurd (omega (arith, none (at / 16), longer (leb-true (at + bytes) h.place e)))
    go true e (Some k) some again = at_first (cases_lt (16 * k) at) (cases_lt (at / 16) k)
      where
        at_first : (16 * k < at) ⊎ (at ≤ 16 * k) → (at / 16 < k) ⊎ (k ≤ at / 16) → at ≡ 16 * k
        at_first (inl lt) _ = absurd (omega (arith, some.0, one_off at (h.place - at) k (λ e. omega (arith, e, lt)), gap-below hs (end_of h) k s.5 (omega (arith, lt, s.0)), long))
        at_first (inr ge) (inl lt) = absurd (omega (arith, some.1 (at / 16) lt, longer (leb-true (at + bytes) h.place e)))
        at_first (inr ge) (inr le) = omega (arith, ge, le)
    go false e f is again = again f (rest (leb-false (at + bytes) h.place e) f is)

-- the longest run of a row whose last run is empty is the longest free cell
pub longest-most : (hs : List Header) (at greatest : ℕ) → IsSpacedFrom at hs → at % 16 ≡ 0 → ((k : ℕ) → gap_from at hs k ≤ greatest) →
    longest (free_runs at hs (top_from at hs)) ≤ greatest
longest-most [] at greatest s r most = omega arith
longest-most (h ∷ hs) at greatest s r most =
    let rest = longest-most hs (end_of h) greatest s.5 (omega (arith, s.1, s.2)) (λ k. omega (arith, most k)) in
    omega (arith, rest, most (at / 16), one_here at (h.place - at) (at / 16) (omega (arith, r)))

pub longest-least : (hs : List Header) (at k : ℕ) → IsSpacedFrom at hs → gap_from at hs k ≤ longest (free_runs at hs (top_from at hs))
longest-least [] at k s = omega arith
longest-least (h ∷ hs) at k s = go (cases_eq (16 * k) at) (longest-least hs (end_of h) k s.5)
  where
    go : (16 * k ≡ at) ⊎ (16 * k ≡ at → ⊥) → gap_from (end_of h) hs k ≤ longest (free_runs (end_of h) hs (top_from (end_of h) hs)) → gap_from at (h ∷ hs) k ≤ longest (free_runs at (h ∷ hs) (top_from at (h ∷ hs)))
    go (inl e) rest = omega (arith, one_here at (h.place - at) k e, gap-below hs (end_of h) k s.5 (omega (arith, e, s.0, s.3)))
    go (inr apart) rest = omega (arith, one_off at (h.place - at) k apart, rest)

pub longest-gaps : (hs : List Header) (lengths : List ℕ) (greatest : ℕ) → IsSpacedFrom 0 hs → ((k : ℕ) → slice_index lengths k ≡ gap_from 0 hs k) →
    ((k : ℕ) → slice_index lengths k ≤ greatest) → (greatest ≢ 0 → IsThere (slice_index lengths) 0 (length lengths) greatest) →
    greatest ≡ longest (free_runs 0 hs (top_from 0 hs))
longest-gaps hs lengths greatest s is most some =
    omega (arith, longest-most hs 0 greatest s refl (λ k. omega (arith, is k, most k)), attained (cases_eq greatest 0))
  where
    attained : (greatest ≡ 0) ⊎ (greatest ≡ 0 → ⊥) → greatest ≤ longest (free_runs 0 hs (top_from 0 hs))
    attained (inl e) = omega (arith, e)
    attained (inr any) = let t = some any in omega (arith, t.is, is t.at, longest-least hs 0 t.at s)

-- the room after a cell is the length of the free cell at its end
abbrev pub room_at : ℕ → ℕ → ℕ → Option ℕ
room_at end top length = cond (nat_eq end top) None (Some length)

pub room_after-gaps : (p : Ptr) (hs : List Header) (at k : ℕ) (h : Header) → IsSpacedFrom at hs → find (is_at p) hs ≡ Some h → 16 * k ≡ end_of h →
    room_after p hs ≡ room_at (end_of h) (top_from at hs) (gap_from at hs k)
room_after-gaps p [] at k h s found e = absurd cc
room_after-gaps p (g ∷ []) at k h s found e = go (is_at p g) found
  where
    go : (b : Bool) → cond b (Some g) None ≡ Some h → None ≡ room_at (end_of h) (end_of g) (gap_from at (g ∷ []) k)
    go true f = let same : g ≡ h = cc in rw (eq-eqb (end_of h) (end_of g) (sym (ap end_of same))) refl
    go false f = absurd cc
room_after-gaps p (g ∷ n ∷ hs) at k h s found e = go (is_at p g) found (room_after-gaps p (n ∷ hs) (end_of g) k h s.5) (found_from p (n ∷ hs) (end_of g) h s.5)
  where
    go : (b : Bool) → cond b (Some g) (find (is_at p) (n ∷ hs)) ≡ Some h →
        (find (is_at p) (n ∷ hs) ≡ Some h → 16 * k ≡ end_of h → room_after p (n ∷ hs) ≡ room_at (end_of h) (top_from (end_of g) (n ∷ hs)) (gap_from (end_of g) (n ∷ hs) k)) →
        (find (is_at p) (n ∷ hs) ≡ Some h → (end_of g ≤ h.place) × (16 ≤ h.length)) →
        cond b (Some (n.place - end_of g)) (room_after p (n ∷ hs)) ≡ room_at (end_of h) (top_from (end_of g) (n ∷ hs)) (gap_from at (g ∷ n ∷ hs) k)
    go true f rest above =
        let same : g ≡ h = cc in
        let q : 16 * k ≡ end_of g = e ∙ sym (ap end_of same) in
        let high = top_from-above hs (end_of n) s.5.5 in
        let apart : nat_eq (end_of h) (top_from (end_of g) (n ∷ hs)) ≡ false = ne_eqb _ _ (λ w. omega (arith, w, ap end_of same, high, s.5.0, s.5.3)) in
        let room : gap_from at (g ∷ n ∷ hs) k ≡ n.place - end_of g =
        omega (
          arith,
          one_off at (g.place - at) k (λ w. omega (arith, w, q, s.0, s.3)),
          one_here (end_of g) (n.place - end_of g) k q,
          gap-below hs (end_of n) k s.5.5 (omega (arith, q, s.5.0, s.5.3)),
        ) in
        rw (apart, room) refl
    go false f rest above =
        let a = above f in
        let room : gap_from at (g ∷ n ∷ hs) k ≡ gap_from (end_of g) (n ∷ hs) k = omega (arith, one_off at (g.place - at) k (λ w. omega (arith, w, e, a.0, a.1, s.0, s.3))) in
        rest f e ∙ ap (room_at (end_of h) (top_from (end_of g) (n ∷ hs))) (sym room)
