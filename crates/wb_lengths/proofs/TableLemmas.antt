-- A table of lengths grows at its front, and its first bad range begins at the least length whose run leaks or panics.
use Rattle.std.proofs.Common.{◌≡◌, ◌⊎◌, inl, inr, ℕ, ◌+◌, ◌-◌, ◌<◌, ◌≤◌, arith, Bool, true, false, List, [], ◌∷◌, refl, sym, ◌∙◌, ap, subst, Some, None, cond}
use Rattle.std.proofs.lemmas.Bool.{cases_lt, false≢true}
use Rattle.wb_heap_model.specs.declared.heap.Shape.{Shape}
use Rattle.wb_runs.specs.declared.lengths.LengthRange.{LengthRange}
use Rattle.wb_basics.specs.declared.limits.TheConstants.{CEILING}
use Rattle.wb_meaning.specs.declared.run.RunResult.{RunResult}
use Rattle.wb_runs.specs.declared.run_end.RunEnd.{RunEnd}
use Rattle.wb_tree.specs.declared.script.Script.{Script}
use Rattle.wb_runs.specs.Lengths.{end_in, run_in, IsLeastBadLength, IsLengthTable, IsNoBadLength, IsTableFrom}
use Rattle.wb_heap_model.specs.Reported.{end_of_attempt}
use Rattle.wb_heap_model.specs.Rises.{end_of_line, granted_end, highest_end}
use Rattle.wb_runs.specs.RunEnds.{end_of, is_bad_end, is_cut_end}
use Rattle.wb_runs.proofs.LengthLemmas.{heap-within, heaps-same}
use Rattle.wb_runs.proofs.SizeLemmas.{end_within}
use Rattle.wb_runs.proofs.LengthTables.{bad-end, cut-end, from_within}
use Rattle.wb_lengths.specs.Lengths.{first_bad, has_cut, IsCutNowhere, IsCutSomewhere}
use Rattle.wb_lengths.specs.SetHeaps.{TellsRunIn}
use Rattle.wb_lengths.specs.Walk.{range, GrantsWithin, IsPutBefore, IsRightFrom}

module _ (end_at : ℕ → RunEnd) (most : ℕ) where
  -- lengths whose runs end alike, put before a right table, make a right table
  put_table : (from next : ℕ) (end : RunEnd) (old new : List LengthRange) → from < next → ((length : ℕ) → from ≤ length → length < next → end_at length ≡ end) →
      IsTableFrom end_at most next old → IsPutBefore (range from end) old new → IsTableFrom end_at most from new
  put_table from next end [] new lt alike is put = absurd is
  put_table from next end (first ∷ []) new lt alike is (inl (same, e)) =
      subst (IsTableFrom end_at most from) (sym e) (refl, omega (arith, lt, is.1), λ length ge le. by length ge le (cases_lt length next))
    where
      by : (length : ℕ) → from ≤ length → length ≤ most → (length < next) ⊎ (next ≤ length) → end_at length ≡ end
      by length ge le (inl shorter) = alike length ge shorter
      by length ge le (inr longer) = is.2 length longer le ∙ same
  put_table from next end (first ∷ []) new lt alike is (inr (other, e)) =
      subst (IsTableFrom end_at most from) (sym e) (
        refl,
        omega (arith, lt, is.0),
        other,
        λ length ge less. alike length ge (omega (arith, less, is.0)),
        subst (λ f. IsTableFrom end_at most f (first ∷ [])) (sym is.0) is,
      )
  put_table from next end (first ∷ second ∷ rest) new lt alike is (inl (same, e)) =
      subst (IsTableFrom end_at most from) (sym e) (
        refl,
        omega (arith, lt, is.1),
        λ alike. is.2 (alike ∙ sym same),
        λ length ge less. by length ge less (cases_lt length next),
        is.4,
      )
    where
      by : (length : ℕ) → from ≤ length → length < second.from → (length < next) ⊎ (next ≤ length) → end_at length ≡ end
      by length ge less (inl shorter) = alike length ge shorter
      by length ge less (inr longer) = is.3 length longer less ∙ same
  put_table from next end (first ∷ second ∷ rest) new lt alike is (inr (other, e)) =
      subst (IsTableFrom end_at most from) (sym e) (
        refl,
        omega (arith, lt, is.0),
        other,
        λ length ge less. alike length ge (omega (arith, less, is.0)),
        subst (λ f. IsTableFrom end_at most f (first ∷ second ∷ rest)) (sym is.0) is,
      )

  -- the first table of all, up to the greatest length
  first_table : (from : ℕ) (end : RunEnd) (new : List LengthRange) → from ≤ most → ((length : ℕ) → from ≤ length → length ≤ most → end_at length ≡ end) →
      IsPutBefore (range from end) [] new → IsTableFrom end_at most from new
  first_table from end new le alike e = subst (IsTableFrom end_at most from) (sym e) (refl, le, alike)

  -- the first bad range begins at the least bad length
  first_bad-some : (from : ℕ) (table : List LengthRange) (least : ℕ) → IsTableFrom end_at most from table → first_bad table ≡ Some least →
      (least ≤ most) × (is_bad_end (end_at least) ≡ true) × ((shorter : ℕ) → from ≤ shorter → shorter < least → is_bad_end (end_at shorter) ≡ false)
  first_bad-some from [] least is e = cc
  first_bad-some from (first ∷ []) least is e = by (is_bad_end first.end) refl e
    where
      by : (b : Bool) → is_bad_end first.end ≡ b → cond b (Some first.from) None ≡ Some least →
          (least ≤ most) × (is_bad_end (end_at least) ≡ true) × ((shorter : ℕ) → from ≤ shorter → shorter < least → is_bad_end (end_at shorter) ≡ false)
      by true bad f =
          let start : least ≡ from = sym (cc) ∙ is.0 in (
            omega (arith, start, is.1),
            ap (λ l. is_bad_end (end_at l)) start ∙ ap is_bad_end (is.2 from (omega arith) is.1) ∙ bad,
            λ shorter ge less. absurd (omega (arith, ge, less, start)),
          )
      by false bad f = cc
  first_bad-some from (first ∷ second ∷ rest) least is e = by (is_bad_end first.end) refl e (first_bad-some second.from (second ∷ rest) least is.4)
    where
      by : (b : Bool) → is_bad_end first.end ≡ b → cond b (Some first.from) (first_bad (second ∷ rest)) ≡ Some least →
          (first_bad (second ∷ rest) ≡ Some least →
          (least ≤ most) × (is_bad_end (end_at least) ≡ true) × ((shorter : ℕ) → second.from ≤ shorter → shorter < least → is_bad_end (end_at shorter) ≡ false)) →
          (least ≤ most) × (is_bad_end (end_at least) ≡ true) × ((shorter : ℕ) → from ≤ shorter → shorter < least → is_bad_end (end_at shorter) ≡ false)
      by true bad f later =
          let start : least ≡ from = sym (cc) ∙ is.0 in
          let within = from_within end_at most second.from (second ∷ rest) is.4 in (
            omega (arith, start, is.1, within),
            ap (λ l. is_bad_end (end_at l)) start ∙ ap is_bad_end (is.3 from (omega arith) is.1) ∙ bad,
            λ shorter ge less. absurd (omega (arith, ge, less, start)),
          )
      by false fine f later =
          let found = later f in (
            found.0,
            found.1,
            λ shorter ge less. earlier found.2 shorter ge less (cases_lt shorter second.from),
          )
        where
          earlier : ((shorter : ℕ) → second.from ≤ shorter → shorter < least → is_bad_end (end_at shorter) ≡ false) →
              (shorter : ℕ) → from ≤ shorter → shorter < least → (shorter < second.from) ⊎ (second.from ≤ shorter) → is_bad_end (end_at shorter) ≡ false
          earlier rest_fine shorter ge less (inl here) = ap is_bad_end (is.3 shorter ge here) ∙ fine
          earlier rest_fine shorter ge less (inr there) = rest_fine shorter there less

  first_bad-none : (from : ℕ) (table : List LengthRange) → IsTableFrom end_at most from table → first_bad table ≡ None →
      (length : ℕ) → from ≤ length → length ≤ most → is_bad_end (end_at length) ≡ false
  first_bad-none from [] is e length ge le = absurd is
  first_bad-none from (first ∷ []) is e length ge le = ap is_bad_end (is.2 length ge le) ∙ by (is_bad_end first.end) refl e
    where
      by : (b : Bool) → is_bad_end first.end ≡ b → cond b (Some first.from) None ≡ None → is_bad_end first.end ≡ false
      by true bad f = cc
      by false fine f = fine
  first_bad-none from (first ∷ second ∷ rest) is e length ge le =
      by (is_bad_end first.end) refl e (λ f there. first_bad-none second.from (second ∷ rest) is.4 f length there le) (cases_lt length second.from)
    where
      by : (b : Bool) → is_bad_end first.end ≡ b → cond b (Some first.from) (first_bad (second ∷ rest)) ≡ None →
          (first_bad (second ∷ rest) ≡ None → second.from ≤ length → is_bad_end (end_at length) ≡ false) →
          (length < second.from) ⊎ (second.from ≤ length) → is_bad_end (end_at length) ≡ false
      by true bad f later here = cc
      by false fine f later (inl here) = ap is_bad_end (is.3 length ge here) ∙ fine
      by false fine f later (inr there) = later f there

  -- the runs of a range are cut exactly where that of some length is
  cut_somewhere : (from : ℕ) (table : List LengthRange) → IsTableFrom end_at most from table → has_cut table ≡ true →
      (length : ℕ) × (length ≤ most) × (is_cut_end (end_at length) ≡ true)
  cut_somewhere from [] is e = absurd (false≢true e)
  cut_somewhere from (first ∷ []) is e = by (is_cut_end first.end) refl e
    where
      by : (b : Bool) → is_cut_end first.end ≡ b → cond b true false ≡ true → (length : ℕ) × (length ≤ most) × (is_cut_end (end_at length) ≡ true)
      by true cut f = (from, is.1, ap is_cut_end (is.2 from (omega arith) is.1) ∙ cut)
      by false uncut f = absurd (false≢true f)
  cut_somewhere from (first ∷ second ∷ rest) is e =
      by (is_cut_end first.end) refl e (from_within end_at most second.from (second ∷ rest) is.4) (cut_somewhere second.from (second ∷ rest) is.4)
    where
      by : (b : Bool) → is_cut_end first.end ≡ b → cond b true (has_cut (second ∷ rest)) ≡ true → second.from ≤ most →
          (has_cut (second ∷ rest) ≡ true → (length : ℕ) × (length ≤ most) × (is_cut_end (end_at length) ≡ true)) →
          (length : ℕ) × (length ≤ most) × (is_cut_end (end_at length) ≡ true)
      by true cut f within later = (from, omega (arith, is.1, within), ap is_cut_end (is.3 from (omega arith) is.1) ∙ cut)
      by false uncut f within later = later f

  cut_nowhere : (from : ℕ) (table : List LengthRange) → IsTableFrom end_at most from table → has_cut table ≡ false →
      (length : ℕ) → from ≤ length → length ≤ most → is_cut_end (end_at length) ≡ false
  cut_nowhere from [] is e length ge le = absurd is
  cut_nowhere from (first ∷ []) is e length ge le = ap is_cut_end (is.2 length ge le) ∙ by (is_cut_end first.end) refl e
    where
      by : (b : Bool) → is_cut_end first.end ≡ b → cond b true false ≡ false → is_cut_end first.end ≡ false
      by true cut f = absurd (false≢true (sym f))
      by false uncut f = uncut
  cut_nowhere from (first ∷ second ∷ rest) is e length ge le =
      by (is_cut_end first.end) refl e (λ f there. cut_nowhere second.from (second ∷ rest) is.4 f length there le) (cases_lt length second.from)
    where
      by : (b : Bool) → is_cut_end first.end ≡ b → cond b true (has_cut (second ∷ rest)) ≡ false →
          (has_cut (second ∷ rest) ≡ false → second.from ≤ length → is_cut_end (end_at length) ≡ false) →
          (length < second.from) ⊎ (second.from ≤ length) → is_cut_end (end_at length) ≡ false
      by true cut f later here = absurd (false≢true (sym f))
      by false uncut f later (inl here) = ap is_cut_end (is.3 length ge here) ∙ uncut
      by false uncut f later (inr there) = later f there

module _ (script : Script) (budget : ℕ) (shape : Shape) where
  -- one run answers for the lengths from its greatest end up to its own
  pub put_right : (next from : ℕ) (told : RunResult) (old new : List LengthRange) → 1 ≤ next → next ≤ CEILING + 1 →
      TellsRunIn script budget shape (next - 1) told → from ≡ highest_end told.trace → IsRightFrom script budget shape next old →
      IsPutBefore (range from (end_of told.outcome)) old new → IsRightFrom script budget shape from new
  put_right next from told old new some within tells start is put = by is
    where
      longest : ℕ
      longest = next - 1

      begins : highest_end (run_in script budget shape longest).trace ≡ from
      begins = sym (start ∙ tells.top)

      lower : from ≤ longest
      lower = subst (λ n. n ≤ longest) begins (heap-within script budget shape longest)

      alike : (length : ℕ) → from ≤ length → length ≤ longest → end_in script budget shape length ≡ end_of told.outcome
      alike length ge le =
          ap end_of (heaps-same script budget shape length longest le (omega (arith, within, some)) (subst (λ n. n ≤ length) (sym begins) ge)).outcome
          ∙ ap end_of (sym tells.outcome)

      by : IsRightFrom script budget shape next old → IsRightFrom script budget shape from new
      by (inl (all, none)) =
          inr (first_table (end_in script budget shape) CEILING from (end_of told.outcome) new (omega (arith, lower, all))
          (λ length ge le. alike length ge (omega (arith, le, all))) (subst (λ l. IsPutBefore (range from (end_of told.outcome)) l new) none put))
      by (inr table) =
          inr (put_table (end_in script budget shape) CEILING from next (end_of told.outcome) old new (omega (arith, lower, some))
          (λ length ge less. alike length ge (omega (arith, less))) table put)

  pub from_shorter : (next from : ℕ) (told : RunResult) → 1 ≤ next → TellsRunIn script budget shape (next - 1) told → from ≡ highest_end told.trace → from < next
  from_shorter next from told some tells start =
      let begins = start ∙ tells.top in
      let within = heap-within script budget shape (next - 1) in omega (arith, begins, within, some)

  -- what the run in a heap grants ends within the ceiling
  pub grants_within : (next : ℕ) (told : RunResult) → 1 ≤ next → next ≤ CEILING + 1 → TellsRunIn script budget shape (next - 1) told → GrantsWithin CEILING told.trace
  grants_within next told some within tells k t there granted =
      let own : end_of_line t ≡ end_of_attempt t = ap (granted_end t) granted in
      let below = end_within k told.trace t there in
      let top = heap-within script budget shape (next - 1) in omega (arith, own, below, tells.top, top, some, within)

  -- the run in a heap tells of itself
  pub tells-itself : (length : ℕ) (told : RunResult) → told ≡ run_in script budget shape length → TellsRunIn script budget shape length told
  tells-itself length told is = record {
    outcome = ap (λ (r : RunResult). r.outcome) is;
    steps = ap (λ (r : RunResult). r.steps) is;
    top = ap (λ (r : RunResult). highest_end r.trace) is;
  }

  -- what the table shows
  pub found_bad : (table : List LengthRange) (length : ℕ) (result : RunResult) → IsLengthTable script budget shape table → first_bad table ≡ Some length →
      result ≡ run_in script budget shape length → IsLeastBadLength script budget shape length result
  found_bad table length result is e ran =
      let found = first_bad-some (end_in script budget shape) CEILING 0 table length is e in
      record {
        within = found.0;
        bad = sym (bad-end (run_in script budget shape length).outcome) ∙ found.1;
        least = λ shorter less. sym (bad-end (run_in script budget shape shorter).outcome) ∙ found.2 shorter (omega arith) less;
        run_is = ran;
      }

  pub none_bad : (table : List LengthRange) → IsLengthTable script budget shape table → first_bad table ≡ None → IsNoBadLength script budget shape
  none_bad table is e length le =
      sym (bad-end (run_in script budget shape length).outcome) ∙ first_bad-none (end_in script budget shape) CEILING 0 table is e length (omega arith) le

  pub some_cut : (table : List LengthRange) → IsLengthTable script budget shape table → has_cut table ≡ true → IsCutSomewhere script budget shape
  some_cut table is e =
      let found = cut_somewhere (end_in script budget shape) CEILING 0 table is e in
      (found.0, found.1, sym (cut-end (run_in script budget shape found.0).outcome) ∙ found.2)

  pub none_cut : (table : List LengthRange) → IsLengthTable script budget shape table → has_cut table ≡ false → IsCutNowhere script budget shape
  none_cut table is e length le =
      sym (cut-end (run_in script budget shape length).outcome) ∙ cut_nowhere (end_in script budget shape) CEILING 0 table is e length (omega arith) le
