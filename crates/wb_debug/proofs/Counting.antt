-- The cells that a check counts, from cell to cell.
use Rattle.std.proofs.Common.{◌≡◌, ℕ, ◌+◌, ◌*◌, ◌≤◌, ◌&&◌, Bool, true, false, List, [], ◌∷◌, length, filter, None, refl, ap, ◌∙◌, sym, cond, subst, arith}
use Rattle.std.specs.Prelude.{nat_le, nat_lt}
use Rattle.std.proofs.lemmas.Bool.{leb-false, lt-ltb}
use Rattle.wb_heap_model.specs.declared.heap.Header.{Header}
use Rattle.wb_heap_model.specs.LimitedHeap.{next_live_of}
use Rattle.wb_heap_model.specs.Row.{end_of, IsSpacedFrom, top_from}
use Rattle.wb_heap_model.proofs.Onward.{onward, onward_none, onward_zero, IsNextCell}
use Rattle.wb_debug.specs.declared.checks.Levels.TheVariants.{All}
use Rattle.wb_debug.specs.Levels.{is_counted}
use Rattle.wb_debug.specs.Tally.{IsMore, IsTally, Tally, is_below, number}
use Rattle.wb_debug.proofs.Tallies.{number-cons, number-within, ones, tally-none, tally-same}

filter-one : (test : Header → Bool) (h : Header) (row : List Header) (b : Bool) → test h ≡ b → filter test (h ∷ row) ≡ cond b (h ∷ filter test row) (filter test row)
filter-one test h row b e = ap (λ x. cond x (h ∷ filter test row) (filter test row)) e

-- those from a place on that none of them is below
pub onward-counted : (test : Header → Bool) (from : ℕ) (row : List Header) → number (is_below test from) row ≡ 0 → filter test (onward from row) ≡ filter test row
onward-counted test from [] none = refl
onward-counted test from (h ∷ hs) none =
    by (nat_le from h.place) (test h) refl refl (onward-counted test from hs (omega (arith, none, number-cons (is_below test from) h hs)))
  where
    here : ones (is_below test from h) ≡ 0
    here = omega (arith, none, number-cons (is_below test from) h hs)

    by : (b t : Bool) → nat_le from h.place ≡ b → test h ≡ t → filter test (onward from hs) ≡ filter test hs →
        filter test (cond b (h ∷ onward from hs) (onward from hs)) ≡ cond (test h) (h ∷ filter test hs) (filter test hs)
    by true t e is rest = ap (λ r. cond (test h) (h ∷ r) r) rest
    by false false e is rest = rest ∙ sym (ap (λ x. cond x (h ∷ filter test hs) (filter test hs)) is)
    by false true e is rest =
        let low : nat_lt h.place from ≡ true = lt-ltb _ _ (leb-false _ _ e) in
        let one : ones (is_below test from h) ≡ 1 = ap (λ x. ones (x && nat_lt h.place from)) is ∙ ap ones low in
        absurd (omega (arith, one, here))

-- one more, and one that isn't counted
pub onward-one : (test : Header → Bool) (row : List Header) (from : ℕ) (h : Header) (b : Bool) → IsNextCell from h row → test h ≡ b →
    filter test (onward from row) ≡ cond b (h ∷ filter test (onward (end_of h) row)) (filter test (onward (end_of h) row))
onward-one test row from h b next e = ap (filter test) next.there ∙ filter-one test h (onward (end_of h) row) b e

pub onward-number : (test : Header → Bool) (row : List Header) (from : ℕ) (h : Header) → IsNextCell from h row →
    number test (onward from row) ≡ number test (onward (end_of h) row) + ones (test h)
onward-number test row from h next = ap (number test) next.there ∙ number-cons test h (onward (end_of h) row)

-- the end
pub onward-end : (test : Header → Bool) (row : List Header) (from : ℕ) → next_live_of from row ≡ None → filter test (onward from row) ≡ []
onward-end test row from none = ap (filter test) (onward_none from row none)

-- and no more cells than have room below their end
pub row-within : (hs : List Header) (at : ℕ) → IsSpacedFrom at hs → at + 16 * length hs ≤ top_from at hs
row-within [] at s = omega arith
row-within (h ∷ hs) at s = omega (arith, row-within hs (end_of h) s.5, s.0, s.3)

-- the tally of the cells before a place, with those that are still to come
pub record IsCounted (tally : Tally) (from : ℕ) (row : List Header) : Type 0 where
  pub before : List Header
  pub counts : (test : Header → Bool) → number test before + number test (onward from row) ≡ number test row
  pub tallied : IsTally tally before

pub counted-first : (tally : Tally) (row : List Header) → tally ≡ record { total = 0; levels = record { counts = []; known_from = 0 } } → IsCounted tally 0 row
counted-first tally row none = record {
  before = [];
  counts = λ test. omega (arith, ap (number test) (onward_zero row));
  tallied = subst (λ (t : Tally). IsTally t []) (sym none) tally-none;
}

pub counted-more : (old new : Tally) (from : ℕ) (row : List Header) (h : Header) → IsNextCell from h row →
    ((less more : List Header) → IsMore less more h → IsTally old less → IsTally new more) → IsCounted old from row → IsCounted new (end_of h) row
counted-more old new from row h next grants was = record {
  before = h ∷ was.before;
  counts = λ test. omega (arith, was.counts test, onward-number test row from h next, number-cons test h was.before);
  tallied = grants was.before (h ∷ was.before) (record { counts = λ test. number-cons test h was.before }) was.tallied;
}

pub counted-within : (tally : Tally) (from : ℕ) (row : List Header) → IsCounted tally from row → tally.total ≤ length row
counted-within tally from row is =
    omega (arith, is.tallied.total, is.counts (is_counted All), number-within (is_counted All) row)

pub counted-all : (tally : Tally) (from : ℕ) (row : List Header) → IsCounted tally from row → next_live_of from row ≡ None → IsTally tally row
counted-all tally from row is none =
    tally-same tally is.before row (λ test. omega (arith, is.counts test, ap length (onward-end test row from none))) is.tallied
