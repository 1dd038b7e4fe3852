-- Going over a row from cell to cell.
use Rattle.std.proofs.Common.{◌≡◌, ℕ, ◌≤◌, ◌<◌, Bool, true, false, List, [], ◌∷◌, length, filter, refl, ap, ◌∙◌, sym, arith, cond, subst, Some, None}
use Rattle.std.specs.Prelude.{nat_le}
use Rattle.std.proofs.lemmas.Bool.{leb-true, leb-false, le-leb, lt-leb}
use Rattle.wb_heap_model.specs.declared.heap.Header.{Header}
use Rattle.wb_heap_model.specs.Row.{end_of, IsSpacedFrom}
use Rattle.wb_heap_model.specs.LimitedHeap.{next_live_of}

-- the cells that begin at a place or above it
abbrev pub onward : ℕ → List Header → List Header
onward from row = filter (λ h. nat_le from h.place) row

-- a cell that does
onward_more : (from : ℕ) (h : Header) (hs : List Header) → from ≤ h.place → onward from (h ∷ hs) ≡ h ∷ onward from hs
onward_more from h hs le = ap (λ b. cond b (h ∷ onward from hs) (onward from hs)) (le-leb from h.place le)

-- and one that doesn't
onward_less : (from : ℕ) (h : Header) (hs : List Header) → h.place < from → onward from (h ∷ hs) ≡ onward from hs
onward_less from h hs lt = ap (λ b. cond b (h ∷ onward from hs) (onward from hs)) (lt-leb from h.place lt)

-- a row that begins there
pub onward_all : (from at : ℕ) (hs : List Header) → IsSpacedFrom at hs → from ≤ at → onward from hs ≡ hs
onward_all from at [] s le = refl
onward_all from at (h ∷ hs) s le = onward_more from h hs (omega (arith, s.0)) ∙ ap (λ r. h ∷ r) (onward_all from (end_of h) hs s.5 (omega (arith, s.0)))

-- where no cell is left
pub onward_none : (from : ℕ) (hs : List Header) → next_live_of from hs ≡ None → onward from hs ≡ []
onward_none from [] e = refl
onward_none from (h ∷ hs) e = by (nat_le from h.place) e (onward_none from hs)
  where
    by : (b : Bool) → cond b (Some h) (next_live_of from hs) ≡ None → (next_live_of from hs ≡ None → onward from hs ≡ []) → cond b (h ∷ onward from hs) (onward from hs) ≡ []
    by true e rest = cc
    by false e rest = rest e

-- the next cell, and those after its end
pub record IsNextCell (from : ℕ) (h : Header) (hs : List Header) : Type 0 where
  pub above : from ≤ h.place
  pub there : onward from hs ≡ h ∷ onward (end_of h) hs

pub onward_next : (from at : ℕ) (h : Header) (hs : List Header) → IsSpacedFrom at hs → next_live_of from hs ≡ Some h → IsNextCell from h hs
onward_next from at h [] s e = cc
onward_next from at h (g ∷ gs) s e = by (nat_le from g.place) refl e (onward_next from (end_of g) h gs s.5)
  where
    by : (b : Bool) → nat_le from g.place ≡ b → cond b (Some g) (next_live_of from gs) ≡ Some h → (next_live_of from gs ≡ Some h → IsNextCell from h gs) → IsNextCell from h (g ∷ gs)
    by true t e rest =
        let same : g ≡ h = cc in
        let le : from ≤ g.place = leb-true _ _ t in
        subst (λ x. IsNextCell from x (g ∷ gs)) same (record {
          above = le;
          there = onward_more from g gs le ∙ ap (λ r. g ∷ r) (onward_all from (end_of g) gs s.5 (omega (arith, le))
              ∙ sym (onward_less (end_of g) g gs (omega (arith, s.3)) ∙ onward_all (end_of g) (end_of g) gs s.5 (omega arith)));
        })
    by false t e rest =
        let is = rest e in
        let below : g.place < from = leb-false _ _ t in
        record {
          above = is.above;
          there = onward_less from g gs below ∙ is.there ∙ ap (λ r. h ∷ r) (sym (onward_less (end_of h) g gs (omega (arith, below, is.above))));
        }

-- fewer cells are left
pub onward_fewer : (row : List Header) (from : ℕ) (h : Header) → IsNextCell from h row → length (onward (end_of h) row) < length (onward from row)
onward_fewer row from h next = omega (arith, ap length next.there)

pub onward_zero : (hs : List Header) → onward 0 hs ≡ hs
onward_zero [] = refl
onward_zero (h ∷ hs) = onward_more 0 h hs (omega arith) ∙ ap (λ r. h ∷ r) (onward_zero hs)

-- what is left is spaced from the end of the last cell that came
pub onward_spaced : (from : ℕ) (h : Header) (hs : List Header) → IsNextCell from h hs → IsSpacedFrom from (onward from hs) → IsSpacedFrom (end_of h) (onward (end_of h) hs)
onward_spaced from h hs next s =
    let here : IsSpacedFrom from (h ∷ onward (end_of h) hs) = subst (IsSpacedFrom from) next.there s in
    here.5
