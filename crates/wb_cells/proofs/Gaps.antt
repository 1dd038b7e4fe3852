-- First fit gives a gap of the row.
use Rattle.std.proofs.Common.{◌≡◌, ℕ, suc, ◌+◌, ◌<◌, ◌⊎◌, inl, inr, List, [], ◌∷◌, Bool, true, false, cond, refl, arith, Any}
use Rattle.std.specs.Prelude.{nat_le}
use Rattle.wb_heap_model.specs.declared.heap.Header.{Header}
use Rattle.wb_heap_model.specs.Row.{IsSpacedFrom, end_of, place_from, place_of}
use Rattle.wb_heap_model.specs.CellRow.{IsGap}
use Rattle.wb_heap_model.proofs.Places.{place_of-least}

any_later : (P : Header → Type 0) (h : Header) (hs : List Header) → Any P hs → Any P (h ∷ hs)
any_later P h hs any = (suc any.0, any.1, omega (arith, any.2), any.3, any.4)

place_from-begins : (row : List Header) (at bytes : ℕ) → (place_from at row bytes ≡ at) ⊎ Any (λ h. end_of h ≡ place_from at row bytes) row
place_from-begins [] at bytes = inl refl
place_from-begins (h ∷ hs) at bytes = go (nat_le (at + bytes) h.place) (place_from-begins hs (end_of h) bytes)
  where
    go : (b : Bool) → (place_from (end_of h) hs bytes ≡ end_of h) ⊎ Any (λ g. end_of g ≡ place_from (end_of h) hs bytes) hs →
        (cond b at (place_from (end_of h) hs bytes) ≡ at) ⊎ Any (λ g. end_of g ≡ cond b at (place_from (end_of h) hs bytes)) (h ∷ hs)
    go true rest = inl refl
    go false (inl e) = inr (0, h, omega arith, refl, cc)
    go false (inr any) = inr (any_later (λ g. end_of g ≡ place_from (end_of h) hs bytes) h hs any)

pub place_of-gap : (row : List Header) (bytes : ℕ) → 0 < bytes → IsSpacedFrom 0 row → IsGap row (place_of row bytes) bytes
place_of-gap row bytes long spaced = record { begins = place_from-begins row 0 bytes; free = (place_of-least row bytes long spaced).free }
