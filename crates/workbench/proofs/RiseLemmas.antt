-- The rises of a trace are what the words say.
use Rattle.std.proofs.Common.{◌≡◌, ℕ, zero, suc, ◌<◌, ◌≤◌, arith, List, [], ◌∷◌, refl, sym, ◌∙◌, ap, subst, Bool, true, false, cond, Some, nat_lt}
use Rattle.std.specs.Prelude.{slice_get}
use Rattle.std.proofs.lemmas.Bool.{ltb-true, ltb-false}
use Rattle.wb_heap_model.specs.declared.heap.Answer.{Answer}
use Rattle.wb_heap_model.specs.declared.heap.Answer.TheVariants.{Granted, Simulated, Refused}
use Rattle.wb_heap_model.specs.declared.heap.Attempt.{Attempt}
use Rattle.wb_heap_model.specs.declared.size.Rise.{Rise}
use Rattle.wb_heap_model.specs.Rises.{granted_end, end_of_line, rises_above}
use Rattle.wb_heap_model.specs.Reported.{end_of_attempt}
use Rattle.workbench.specs.Rises.{AreRises, IsListed, IsRiseOf}

-- a line that ends past a length, and past every line before it, where one that isn't granted ends at 0
record IsRiseAbove (low : ℕ) (trace : List Attempt) (rise : Rise) : Type 0 where
  at : ℕ
  line : Attempt
  there : slice_get trace at ≡ Some line
  numbered : rise.number ≡ line.number
  ends : rise.top ≡ end_of_line line
  above : low < rise.top
  highest : (k : ℕ) (t : Attempt) → k < at → slice_get trace k ≡ Some t → end_of_line t < rise.top

-- one line more at the front, which doesn't end past this rise
later_rise : (low lower : ℕ) (t : Attempt) (ts : List Attempt) (r : Rise) → lower ≤ low → end_of_line t ≤ low → IsRiseAbove low ts r → IsRiseAbove lower (t ∷ ts) r
later_rise low lower t ts r le end is =
    record { at = suc is.at; line = is.line; there = is.there; numbered = is.numbered; ends = is.ends; above = omega (arith, is.above, le); highest = before }
  where
    before : (k : ℕ) (u : Attempt) → k < suc is.at → slice_get (t ∷ ts) k ≡ Some u → end_of_line u < r.top
    before zero u lt e = let same : t ≡ u = cc in let own = ap end_of_line same in omega (arith, own, end, is.above)
    before (suc k) u lt e = is.highest k u (omega (arith, lt)) e

listed_rise : (low : ℕ) (ts : List Attempt) (k : ℕ) (r : Rise) → slice_get (rises_above low ts) k ≡ Some r → IsRiseAbove low ts r
listed_rise low [] k r e = cc
listed_rise low (t ∷ ts) k r e = by (nat_lt low end) refl k e (λ l k e. listed_rise l ts k r e)
  where
    end : ℕ
    end = end_of_line t

    by : (b : Bool) → nat_lt low end ≡ b → (k : ℕ) → slice_get (cond b (record { number = t.number; top = end } ∷ rises_above end ts) (rises_above low ts)) k ≡ Some r
        → ((l k : ℕ) → slice_get (rises_above l ts) k ≡ Some r → IsRiseAbove l ts r) → IsRiseAbove low (t ∷ ts) r
    by true c zero e rest =
        let past : low < end = ltb-true _ _ c in
        let same : ◌≡◌ {A = Rise} (record { number = t.number; top = end }) r = cc in
        subst (IsRiseAbove low (t ∷ ts)) same
        (record { at = 0; line = t; there = refl; numbered = refl; ends = refl; above = past; highest = λ k u lt. absurd (omega (arith, lt)) })
    by true c (suc k) e rest = let past : low < end = ltb-true _ _ c in later_rise end low t ts r (omega (arith, past)) (omega arith) (rest end k e)
    by false c k e rest = later_rise low low t ts r (omega arith) (ltb-false _ _ c) (rest low k e)

listed_after : (r s : Rise) (rs : List Rise) → IsListed rs s → IsListed (r ∷ rs) s
listed_after r s rs is = record { at = suc is.at; there = is.there }

rise_listed : (low : ℕ) (ts : List Attempt) (at : ℕ) (line : Attempt) (r : Rise) → slice_get ts at ≡ Some line → r.number ≡ line.number → r.top ≡ end_of_line line
    → low < r.top → ((k : ℕ) (t : Attempt) → k < at → slice_get ts k ≡ Some t → end_of_line t < r.top) → IsListed (rises_above low ts) r
rise_listed low [] at line r there numbered ends above highest = cc
rise_listed low (t ∷ ts) zero line r there numbered ends above highest = by (nat_lt low (end_of_line t)) refl
  where
    same : t ≡ line
    same = cc

    by : (b : Bool) → nat_lt low (end_of_line t) ≡ b
        → IsListed (cond b (record { number = t.number; top = end_of_line t } ∷ rises_above (end_of_line t) ts) (rises_above low ts)) r
    by true c =
        let one : ◌≡◌ {A = Rise} (record { number = t.number; top = end_of_line t }) r = λ i. record {
          number = (ap (λ x. x.number) same ∙ sym numbered) i;
          top = (ap end_of_line same ∙ sym ends) i;
        } in
        record { at = 0; there = ap Some one }
    by false c = let own = ap end_of_line same in let low = ltb-false _ _ c in absurd (omega (arith, own, ends, above, low))
rise_listed low (t ∷ ts) (suc at) line r there numbered ends above highest =
    by (nat_lt low (end_of_line t)) (λ l under. rise_listed l ts at line r there numbered ends under (λ k u lt. highest (suc k) u (omega (arith, lt))))
  where
    first : end_of_line t < r.top
    first = highest 0 t (omega arith) refl

    by : (b : Bool) → ((l : ℕ) → l < r.top → IsListed (rises_above l ts) r)
        → IsListed (cond b (record { number = t.number; top = end_of_line t } ∷ rises_above (end_of_line t) ts) (rises_above low ts)) r
    by true rest = listed_after _ r _ (rest (end_of_line t) first)
    by false rest = rest low above

rises_ascend : (low : ℕ) (ts : List Attempt) (j k : ℕ) (r s : Rise) → j < k → slice_get (rises_above low ts) j ≡ Some r → slice_get (rises_above low ts) k ≡ Some s → r.top < s.top
rises_ascend low [] j k r s lt e f = cc
rises_ascend low (t ∷ ts) j k r s lt e f = by (nat_lt low end) j k (λ l j k lt e f. rises_ascend l ts j k r s lt e f) lt e f
  where
    end : ℕ
    end = end_of_line t

    by : (b : Bool) (j k : ℕ)
        → ((l j k : ℕ) → j < k → slice_get (rises_above l ts) j ≡ Some r → slice_get (rises_above l ts) k ≡ Some s → r.top < s.top)
        → j < k → slice_get (cond b (record { number = t.number; top = end } ∷ rises_above end ts) (rises_above low ts)) j ≡ Some r
        → slice_get (cond b (record { number = t.number; top = end } ∷ rises_above end ts) (rises_above low ts)) k ≡ Some s → r.top < s.top
    by true zero zero rest lt e f = absurd (omega (arith, lt))
    by true (suc j) zero rest lt e f = absurd (omega (arith, lt))
    by true zero (suc k) rest lt e f =
        let same : ◌≡◌ {A = Rise} (record { number = t.number; top = end }) r = cc in
        let top : end ≡ r.top = ap (λ x. x.top) same in
        let past = (listed_rise end ts k s f).above in omega (arith, top, past)
    by true (suc j) (suc k) rest lt e f = rest end j k (omega (arith, lt)) e f
    by false j k rest lt e f = rest low j k lt e f

-- what ends past 0 is granted
granted_of : (t : Attempt) → 0 < end_of_line t → (t.answer ≡ Granted) × (end_of_line t ≡ end_of_attempt t)
granted_of t past = by t.answer refl
  where
    by : (w : Answer) → t.answer ≡ w → (t.answer ≡ Granted) × (end_of_line t ≡ end_of_attempt t)
    by Granted f = (f, ap (granted_end t) f)
    by Simulated f = let none : end_of_line t ≡ 0 = ap (granted_end t) f in absurd (omega (arith, none, past))
    by Refused f = let none : end_of_line t ≡ 0 = ap (granted_end t) f in absurd (omega (arith, none, past))

-- what isn't granted ends past nothing
ends_before : (t : Attempt) (top : ℕ) → 0 < top → (t.answer ≡ Granted → end_of_attempt t < top) → end_of_line t < top
ends_before t top above granted = by t.answer refl
  where
    by : (w : Answer) → t.answer ≡ w → end_of_line t < top
    by Granted f = let end : end_of_line t ≡ end_of_attempt t = ap (granted_end t) f in let lt = granted f in omega (arith, end, lt)
    by Simulated f = let none : end_of_line t ≡ 0 = ap (granted_end t) f in omega (arith, none, above)
    by Refused f = let none : end_of_line t ≡ 0 = ap (granted_end t) f in omega (arith, none, above)

rise_in_words : (trace : List Attempt) (r : Rise) → IsRiseAbove 0 trace r → IsRiseOf trace r
rise_in_words trace r is =
    let (granted, end) = granted_of is.line (subst (λ n. 0 < n) is.ends is.above) in
    record {
      at = is.at;
      line = is.line;
      there = is.there;
      granted = granted;
      numbered = is.numbered;
      ends = is.ends ∙ end;
      above_zero = is.above;
      highest = λ k t lt e f. subst (λ n. n < r.top) (ap (granted_end t) f) (is.highest k t lt e);
    }

pub rises_in_words : (trace : List Attempt) → AreRises trace (rises_above 0 trace)
rises_in_words trace = record {
  exactly = λ r. (
    λ listed. rise_in_words trace r (listed_rise 0 trace listed.at r listed.there),
    λ is. rise_listed 0 trace is.at is.line r is.there is.numbered (is.ends ∙ sym (ap (granted_end is.line) is.granted)) is.above_zero
        (λ k t lt e. ends_before t r.top is.above_zero (is.highest k t lt e)),
  );
  ascending = λ j k r s lt e f. rises_ascend 0 trace j k r s lt e f;
}
