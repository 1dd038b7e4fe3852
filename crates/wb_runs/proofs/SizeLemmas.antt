-- What a limit refuses first, and the table of rises.
use Rattle.std.proofs.Common.{◌≡◌, ◌≢◌, inl, inr, ℕ, ◌+◌, ◌<◌, ◌≤◌, arith, zero, suc, Bool, true, false, List, [], ◌∷◌, ◌++◌, max, refl, sym, ◌∙◌, ap, subst, append-nil, Option, Some, None, cond}
use Rattle.std.specs.Prelude.{nat_lt, slice_get, ◌↔◌}
use Rattle.std.proofs.lemmas.Bool.{cond-true, cond-false, ltb-true, ltb-false, lt-ltb, le-ltb}
use Rattle.wb_basics.specs.declared.limits.TheConstants.{CEILING}
use Rattle.wb_heap_model.specs.declared.heap.Rule.{Rule}
use Rattle.wb_heap_model.specs.declared.heap.Rule.TheVariants.{Unlimited, Limit}
use Rattle.wb_heap_model.specs.declared.heap.Shape.{Shape}
use Rattle.wb_heap_model.specs.declared.heap.Answer.{Answer}
use Rattle.wb_heap_model.specs.declared.heap.Answer.TheVariants.{Granted, Simulated, Refused}
use Rattle.wb_heap_model.specs.declared.heap.Attempt.{Attempt}
use Rattle.wb_meaning.specs.declared.run.Why.TheVariants.{Ceiling}
use Rattle.wb_meaning.specs.declared.run.Outcome.TheVariants.{Cut}
use Rattle.wb_tree.specs.declared.script.Script.{Script}
use Rattle.wb_meaning.specs.Run.{run, required, rises, first_rise_above, refused_at}
use Rattle.wb_heap_model.specs.Rises.{granted_end, end_of_line, highest_end, rises_above}
use Rattle.wb_meaning.specs.Agreement.{RefusesAtLeast, RefusesNoGrant, IsSameButNotes, PartsAt}
use Rattle.wb_heap_model.specs.Rules.{Request}
use Rattle.wb_runs.specs.Sizes.{refused_or_later, first_refusal, IsTable}
use Rattle.wb_meaning.specs.Traces.{IsLine, AreAnsweredLines}
use Rattle.wb_heap_model.specs.Reported.{end_of_attempt}
use Rattle.wb_meaning.proofs.AgreementLemmas.{rules_agree-law}
use Rattle.wb_runs.proofs.SameRuns.{same_run}
use Rattle.wb_meaning.proofs.TraceLemmas.{run-lines, unlimited_refuses_none, limit_grants_within}

-- no rule refuses less
pub unlimited_least : (s : Rule) → RefusesAtLeast Unlimited s
unlimited_least s n end one h = cc

-- the number of the first granted line that ends past a length
abbrev pub first_above : ℕ → List Attempt → Option ℕ
first_above l [] = None
first_above l (t ∷ ts) = cond (nat_lt l (end_of_line t)) (Some t.number) (first_above l ts)

-- a fact about each line
abbrev EachLine : (Attempt → Type 0) → List Attempt → Type 0
EachLine P [] = Unit {0}
EachLine P (t ∷ ts) = P t × EachLine P ts

each_line : (P : Attempt → Type 0) (rule : Rule) (made : ℕ) (qs : List Request) (ts : List Attempt) →
    ((n : ℕ) (asked : Request) (t : Attempt) → IsLine rule n asked t → P t) → AreAnsweredLines rule made qs ts → EachLine P ts
each_line P rule made [] [] h are = tt
each_line P rule made [] (t ∷ ts) h are = absurd are
each_line P rule made (q ∷ qs) [] h are = absurd are
each_line P rule made (q ∷ qs) (t ∷ ts) h are = (h made q t are.0, each_line P rule (made + 1) qs ts h are.1)

abbrev IsUnrefused : Attempt → Type 0
IsUnrefused t = t.answer ≢ Refused

abbrev IsGrantedWithin : ℕ → Attempt → Type 0
IsGrantedWithin limit t = t.answer ≡ Granted → end_of_attempt t ≤ limit

-- what two traces share, of which a limit refuses nothing
module _ (l : ℕ) where
  skips : (t : Attempt) (later later' : Option ℕ) → IsUnrefused t → IsGrantedWithin l t → later ≡ later' →
      refused_or_later t t.answer later ≡ cond (nat_lt l (end_of_line t)) (Some t.number) later'
  skips t later later' unrefused within e = by t.answer refl
    where
      by : (w : Answer) → t.answer ≡ w → refused_or_later t w later ≡ cond (nat_lt l (granted_end t w)) (Some t.number) later'
      by Granted f = e ∙ sym (cond-false _ (Some t.number) later' (le-ltb l (end_of_attempt t) (within f)))
      by Simulated f = e ∙ sym (cond-false _ (Some t.number) later' (le-ltb l 0 (omega arith)))
      by Refused f = absurd (unrefused f)

  shared : (ts us vs : List Attempt) → EachLine IsUnrefused (ts ++ us) → EachLine (IsGrantedWithin l) (ts ++ vs) → first_refusal vs ≡ first_above l us →
      first_refusal (ts ++ vs) ≡ first_above l (ts ++ us)
  shared [] us vs a b e = e
  shared (t ∷ ts) us vs a b e = skips t _ _ a.0 b.0 (shared ts us vs a.1 b.1 e)

  -- the attempt at which they part
  parted : (x y : List Attempt) → EachLine IsUnrefused x → EachLine (IsGrantedWithin l) y → PartsAt Unlimited (Limit l) x y → first_refusal y ≡ first_above l x
  parted x y a b p =
      ap first_refusal p.is_other
      ∙ shared p.before (p.one ∷ p.after_one) (p.other ∷ p.after_other) (subst (EachLine IsUnrefused) p.is_one a) (subst (EachLine (IsGrantedWithin l)) p.is_other b) here
      ∙ sym (ap (first_above l) p.is_one)
    where
      end : ℕ
      end = end_of_attempt p.one

      same_end : end_of_attempt p.other ≡ end
      same_end = omega (arith, p.place, p.length)

      granted : (b : Bool) → cond b None (Some Granted) ≡ Some p.one.answer → p.one.answer ≡ Granted
      granted true e = cc
      granted false e = cc

      above : (b : Bool) → nat_lt l end ≡ b → cond b (Some Refused) None ≡ Some p.other.answer → p.one.answer ≡ Granted →
          refused_or_later p.other p.other.answer (first_refusal p.after_other) ≡ cond (nat_lt l (end_of_line p.one)) (Some p.one.number) (first_above l p.after_one)
      above false c e g = cc
      above true c e g =
          let refused : p.other.answer ≡ Refused = cc in
          ap (λ w. refused_or_later p.other w (first_refusal p.after_other)) refused
          ∙ ap Some p.number
          ∙ sym (cond-true (nat_lt l end) (Some p.one.number) (first_above l p.after_one) c)
          ∙ sym (ap (λ w. cond (nat_lt l (granted_end p.one w)) (Some p.one.number) (first_above l p.after_one)) g)

      here : first_refusal (p.other ∷ p.after_other) ≡ first_above l (p.one ∷ p.after_one)
      here = above (nat_lt l end) refl (sym (ap (λ e. cond (nat_lt l e) (Some Refused) None) same_end) ∙ p.refused) (granted (nat_lt CEILING end) p.answered)

  -- or they don't part
  same : (x y : List Attempt) → EachLine IsUnrefused x → EachLine (IsGrantedWithin l) y → y ≡ x → first_refusal y ≡ first_above l x
  same x y a b e =
      let nil = append-nil x in
      ap first_refusal (e ∙ sym nil)
      ∙ shared x [] [] (subst (EachLine IsUnrefused) (sym nil) a) (subst (EachLine (IsGrantedWithin l)) (e ∙ sym nil) b) refl
      ∙ ap (first_above l) nil

-- the rises tell as much as the trace
rises_tell : (l m : ℕ) (ts : List Attempt) → m ≤ l → first_rise_above l (rises_above m ts) ≡ first_above l ts
rises_tell l m [] le = refl
rises_tell l m (t ∷ ts) le = by (nat_lt m end) refl (λ k le. rises_tell l k ts le)
  where
    end : ℕ
    end = end_of_line t

    past : (b : Bool) → nat_lt l end ≡ b → (end ≤ l → first_rise_above l (rises_above end ts) ≡ first_above l ts) →
        cond b (Some t.number) (first_rise_above l (rises_above end ts)) ≡ cond b (Some t.number) (first_above l ts)
    past true d rest = refl
    past false d rest = rest (ltb-false _ _ d)

    by : (b : Bool) → nat_lt m end ≡ b → ((k : ℕ) → k ≤ l → first_rise_above l (rises_above k ts) ≡ first_above l ts) →
        first_rise_above l (cond b (record { number = t.number; top = end } ∷ rises_above end ts) (rises_above m ts)) ≡ cond (nat_lt l end) (Some t.number) (first_above l ts)
    by true c rest = past (nat_lt l end) refl (rest end)
    by false c rest =
        let low : end ≤ m = ltb-false _ _ c in
        rest m le ∙ sym (cond-false (nat_lt l end) (Some t.number) (first_above l ts) (le-ltb l end (omega arith)))

-- the first attempt that a limit refuses is the one that the rises name
pub limit_refuses_first : (script : Script) (budget : ℕ) (shape : Shape) (l : ℕ) → (run script Unlimited budget shape).outcome ≢ Cut Ceiling →
    first_refusal (run script (Limit l) budget shape).trace ≡ refused_at script budget shape l
limit_refuses_first script budget shape l uncut =
    let x = run script Unlimited budget shape in
    let y = run script (Limit l) budget shape in
    let a = each_line IsUnrefused Unlimited 0 _ x.trace unlimited_refuses_none (run-lines script budget shape Unlimited) in
    let b = each_line (IsGrantedWithin l) (Limit l) 0 _ y.trace (limit_grants_within l) (run-lines script budget shape (Limit l)) in
    let first : first_refusal y.trace ≡ first_above l x.trace =
    elim (rules_agree-law script budget shape Unlimited (Limit l) (unlimited_least (Limit l)) uncut) [
      | inl is ↦ same l x.trace y.trace a b is.but_notes.trace
      | inr part ↦ parted l x.trace y.trace a b part
    ] in
    first ∙ sym (rises_tell l 0 x.trace (omega arith))

-- the table of the rises
abbrev HasTable : (ℕ → Option ℕ) → ℕ → List Attempt → Type 0
HasTable f m ts = ((l : ℕ) → m ≤ l → f l ≡ first_rise_above l (rises_above m ts)) → IsTable f (max m (highest_end ts)) m (rises_above m ts)

has_table : (f : ℕ → Option ℕ) (m : ℕ) (ts : List Attempt) → HasTable f m ts
has_table f m [] is = (omega arith, is)
has_table f m (t ∷ ts) is = by (nat_lt m end) refl is (λ k. has_table f k ts)
  where
    end : ℕ
    end = end_of_line t

    by : (b : Bool) → nat_lt m end ≡ b → ((l : ℕ) → m ≤ l → f l ≡ first_rise_above l (cond b (record { number = t.number; top = end } ∷ rises_above end ts) (rises_above m ts))) →
        ((k : ℕ) → HasTable f k ts) → IsTable f (max m (max end (highest_end ts))) m (cond b (record { number = t.number; top = end } ∷ rises_above end ts) (rises_above m ts))
    by true c is rest =
        let lt : m < end = ltb-true _ _ c in
        let same : max end (highest_end ts) ≡ max m (max end (highest_end ts)) = omega arith in (
          lt,
          λ l ge low. is l ge ∙ cond-true (nat_lt l end) (Some t.number) _ (lt-ltb l end low),
          subst (λ r. IsTable f r end (rises_above end ts)) same
              (rest end (λ l ge. is l (omega arith) ∙ cond-false (nat_lt l end) (Some t.number) _ (le-ltb l end ge))),
        )
    by false c is rest =
        let low : end ≤ m = ltb-false _ _ c in
        let same : max m (highest_end ts) ≡ max m (max end (highest_end ts)) = omega arith in
        subst (λ r. IsTable f r m (rises_above m ts)) same (rest m is)

pub limits_have_table : (script : Script) (budget : ℕ) (shape : Shape) → (run script Unlimited budget shape).outcome ≢ Cut Ceiling →
    IsTable (λ l. first_refusal (run script (Limit l) budget shape).trace) (required script budget shape) 0 (rises script budget shape)
limits_have_table script budget shape uncut =
    let ts = (run script Unlimited budget shape).trace in
    let f : ℕ → Option ℕ = λ l. first_refusal (run script (Limit l) budget shape).trace in
    let same : max 0 (highest_end ts) ≡ highest_end ts = omega arith in
    subst (λ r. IsTable f r 0 (rises_above 0 ts)) same (has_table f 0 ts (λ l le. limit_refuses_first script budget shape l uncut))

-- from the required length on nothing ends past a length, and below it something does
none_above : (l m : ℕ) (ts : List Attempt) → highest_end ts ≤ l → first_above l ts ≡ None
none_above l m [] le = refl
none_above l m (t ∷ ts) le = cond-false (nat_lt l (end_of_line t)) (Some t.number) (first_above l ts) (le-ltb l (end_of_line t) (omega (arith, le))) ∙ none_above l m ts (omega (arith, le))

within_none : (l : ℕ) (ts : List Attempt) → first_above l ts ≡ None → highest_end ts ≤ l
within_none l [] e = omega arith
within_none l (t ∷ ts) e = by (nat_lt l (end_of_line t)) refl e (within_none l ts)
  where
    by : (b : Bool) → nat_lt l (end_of_line t) ≡ b → cond b (Some t.number) (first_above l ts) ≡ None → (first_above l ts ≡ None → highest_end ts ≤ l) → highest_end (t ∷ ts) ≤ l
    by true c e rest = cc
    by false c e rest = let le : end_of_line t ≤ l = ltb-false _ _ c in let le' = rest e in omega arith

-- nothing is refused exactly from the required length on
pub refused_at-none : (script : Script) (budget : ℕ) (shape : Shape) (l : ℕ) → (refused_at script budget shape l ≡ None) ↔ (required script budget shape ≤ l)
refused_at-none script budget shape l =
    let ts = (run script Unlimited budget shape).trace in
    let is = rises_tell l 0 ts (omega arith) in
    (λ e. within_none l ts (sym is ∙ e), λ le. is ∙ none_above l 0 ts le)

-- a granted line ends no higher than the highest does
pub end_within : (k : ℕ) (ts : List Attempt) (t : Attempt) → slice_get ts k ≡ Some t → end_of_line t ≤ highest_end ts
end_within k [] t e = cc
end_within zero (u ∷ ts) t e = let same : u ≡ t = cc in let le = ap end_of_line same in omega arith
end_within (suc k) (u ∷ ts) t e = let rest = end_within k ts t e in omega arith

-- from the required length on, the run is the one without a limit
pub long_enough : (script : Script) (budget : ℕ) (shape : Shape) (l : ℕ) → (run script Unlimited budget shape).outcome ≢ Cut Ceiling →
    required script budget shape ≤ l → IsSameButNotes (run script Unlimited budget shape) (run script (Limit l) budget shape)
long_enough script budget shape l uncut le = (same_run script budget shape Unlimited (Limit l) refl (unlimited_least (Limit l)) uncut no_grant).but_notes
  where
    no_grant : RefusesNoGrant (Limit l) (run script Unlimited budget shape).trace
    no_grant k t there granted =
        let within = end_within k (run script Unlimited budget shape).trace t there in
        let end : end_of_line t ≡ end_of_attempt t = ap (granted_end t) granted in
        cond-false (nat_lt l (end_of_attempt t)) (Some Refused) None (le-ltb l (end_of_attempt t) (omega (arith, le, within, end)))
