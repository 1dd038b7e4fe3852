-- The Agreement law, by induction on a process: no statement's meaning is looked at.
use Rattle.std.proofs.Common.{◌≡◌, ◌≢◌, ℕ, ◌+◌, ◌≤◌, arith, ◌⊎◌, inl, inr, Bool, true, false, List, [], ◌∷◌, ◌++◌, length, refl, sym, ◌∙◌, ap, subst, append_assoc, append-nil, Option, Some, None, IsSome, cond}
use Rattle.wb_heap_model.specs.declared.heap.Rule.{Rule}
use Rattle.wb_heap_model.specs.declared.heap.Shape.{Shape}
use Rattle.wb_heap_model.specs.declared.heap.Answer.{Answer}
use Rattle.wb_heap_model.specs.declared.heap.Answer.TheVariants.{Granted, Simulated, Refused}
use Rattle.wb_heap_model.specs.declared.heap.Attempt.{Attempt}
use Rattle.wb_meaning.specs.declared.run.Why.TheVariants.{Ceiling}
use Rattle.wb_tree.specs.declared.script.Script.{Script}
use Rattle.wb_heap_model.specs.Placement.{placement_of}
use Rattle.wb_heap_model.specs.Rules.{refusal_of, unless_refused, answer_to, Request}
use Rattle.wb_meaning.specs.State.{is_cut, State, Query, heap_note, available_note, compress_note, Process, ends, stops, asks, notes}
use Rattle.wb_heap_model.specs.Space.{Space, space_below, bound_below, below_ceiling, space_of}
use Rattle.wb_heap_model.specs.declared.size.Rise.{Rise}
use Rattle.wb_meaning.specs.Account.{stopped, Account, Settled, settled, on_answer, recorded, noted, next_number}
use Rattle.wb_heap_model.specs.Reported.{trace_line}
use Rattle.wb_heap_model.specs.Rises.{trace_with}
use Rattle.wb_meaning.specs.Run.{process, before, result_of, outcome_of}
use Rattle.wb_meaning.specs.Agreement.{RefusesAtLeast, IsSameRun, PartsAt, Agrees}
use Rattle.wb_heap_model.specs.SameRules.{IsNoLimit}
use Rattle.wb_meaning.proofs.AccountLemmas.{KeepsLines, before-lines, recorded-trace, recorded-lines, noted-lines}

-- a note leaves the trace
pub noted-trace : (space : Space) (q : Query) (a : Account) → (noted space q a).trace ≡ a.trace
noted-trace space (heap_note count total) a = refl
noted-trace space (available_note row) a = refl
noted-trace space (compress_note top) a = refl

-- a trace only grows
pub record Extends (old new : List Attempt) : Type 0 where
  pub more : List Attempt
  pub is : new ≡ old ++ more

extends_self : (xs : List Attempt) → Extends xs xs
extends_self xs = record { more = []; is = sym (append-nil xs) }

extends_on : (xs ys zs : List Attempt) → Extends xs ys → Extends ys zs → Extends xs zs
extends_on xs ys zs p q = record { more = p.more ++ q.more; is = q.is ∙ ap (λ l. l ++ q.more) p.is ∙ append_assoc xs p.more q.more }

-- or stays, where the rises are kept
recorded_extends : (space : Space) (n : ℕ) (t : Request) (w : Answer) (a : Account) → Extends a.trace (recorded space n t w a).trace
recorded_extends space n t w a = by a.rises
  where
    by : (o : Option (List Rise)) → Extends a.trace (trace_with o a.trace (trace_line n t w))
    by None = record { more = trace_line n t w ∷ []; is = refl }
    by (Some rs) = extends_self a.trace

pub settled_extends : (rule : Rule) (space : Space) (p : Process) (a : Account) → Extends a.trace (settled rule space p a).account.trace
settled_extends rule space (ends way st) a = extends_self a.trace
settled_extends rule space (stops stop st) a = extends_self a.trace
settled_extends rule space (asks t cut go) a =
    let n = next_number a in
    answered (answer_to rule n t) (λ w. extends_on _ _ _ (recorded_extends space n t w a) (settled_extends rule space (go n w) (recorded space n t w a)))
  where
    answered : (o : Option Answer) → ((w : Answer) → Extends a.trace (settled rule space (go (next_number a) w) (recorded space (next_number a) t w a)).account.trace) →
        Extends a.trace (on_answer o (record { end = stopped (is_cut Ceiling); state = cut; account = a })
        (λ w. settled rule space (go (next_number a) w) (recorded space (next_number a) t w a))).account.trace
    answered None h = extends_self a.trace
    answered (Some w) h = h w
settled_extends rule space (notes q p) a =
    let P : List Attempt → Type 0 = λ l. Extends l (settled rule space p (noted space q a)).account.trace in
    subst P (noted-trace space q a) (settled_extends rule space p (noted space q a))

-- equal answers or not
answer_cases : (x y : Answer) → (x ≡ y) ⊎ (y ≢ x)
answer_cases Granted Granted = inl refl
answer_cases Granted Simulated = inr (λ e. cc)
answer_cases Granted Refused = inr (λ e. cc)
answer_cases Simulated Granted = inr (λ e. cc)
answer_cases Simulated Simulated = inl refl
answer_cases Simulated Refused = inr (λ e. cc)
answer_cases Refused Granted = inr (λ e. cc)
answer_cases Refused Simulated = inr (λ e. cc)
answer_cases Refused Refused = inl refl

-- where the first rule doesn't cut, the second doesn't
not_cut : (r s : Rule) → RefusesAtLeast r s → (n : ℕ) → 1 ≤ n → (t : Request) → answer_to s n t ≡ None → answer_to r n t ≡ None
not_cut r s h n one t = due t.due
  where
    end : ℕ
    end = t.place + t.length

    by : (x y : Option Answer) → (IsSome x → IsSome y) → unless_refused y end ≡ None → unless_refused x end ≡ None
    by None None k e = e
    by None (Some w) k e = cc
    by (Some v) None k e = let no : false ≡ true = k refl in cc
    by (Some v) (Some w) k e = cc

    due : (b : Bool) → cond b (Some Simulated) (unless_refused (refusal_of s n end) end) ≡ None →
        cond b (Some Simulated) (unless_refused (refusal_of r n end) end) ≡ None
    due true e = cc
    due false e = by (refusal_of r n end) (refusal_of s n end) (h n end one) e

-- where the answers differ, the second rule refuses, and what the first rule says is its answer
record Parting (r s : Rule) (n end : ℕ) (v w : Answer) : Type 0 where
  answered : unless_refused (refusal_of r n end) end ≡ Some v
  refused : refusal_of s n end ≡ Some w

parting : (r s : Rule) → RefusesAtLeast r s → (n : ℕ) → 1 ≤ n → (t : Request) (v w : Answer) →
    answer_to r n t ≡ Some v → answer_to s n t ≡ Some w → w ≢ v → Parting r s n (t.place + t.length) v w
parting r s h n one t v w = due t.due
  where
    end : ℕ
    end = t.place + t.length

    by : (x y : Option Answer) → (IsSome x → IsSome y) → unless_refused x end ≡ Some v → unless_refused y end ≡ Some w → w ≢ v → y ≡ Some w
    by x (Some u) k e f ne = f
    by None None k e f ne = absurd (ne cc)
    by (Some u) None k e f ne = let no : false ≡ true = k refl in cc

    due : (b : Bool) → cond b (Some Simulated) (unless_refused (refusal_of r n end) end) ≡ Some v →
        cond b (Some Simulated) (unless_refused (refusal_of s n end) end) ≡ Some w → w ≢ v → Parting r s n end v w
    due true e f ne = absurd (ne cc)
    due false e f ne = record { answered = e; refused = by (refusal_of r n end) (refusal_of s n end) (h n end one) e f ne }

-- two ends that are the same, with accounts that differ in notes alone
pub record Same (x_space y_space : Space) (a b : Account) (x y : Settled) : Type 0 where
  pub end : y.end ≡ x.end
  pub state : y.state ≡ x.state
  pub trace : y.account.trace ≡ x.account.trace
  pub account : y_space ≡ x_space → b ≡ a → y.account ≡ x.account

abbrev Law : Rule → Rule → Space → Space → Account → Account → Settled → Settled → Type 0
Law r s x_space y_space a b x y = Same x_space y_space a b x y ⊎ PartsAt r s x.account.trace y.account.trace

-- accounts that keep the same lines
pub record SameLines (a b : Account) : Type 0 where
  pub one : KeepsLines a
  pub other : KeepsLines b
  pub trace : b.trace ≡ a.trace

same_number : (a b : Account) → SameLines a b → next_number b ≡ next_number a
same_number a b e = omega (arith, e.one.lines, e.other.lines, ap length e.trace)

-- what a process comes to after an answer
abbrev after : Rule → Space → Request → (ℕ → Answer → Process) → Account → ℕ → Answer → Settled
after rule space t go a n w = settled rule space (go n w) (recorded space n t w a)

abbrev cut_at : State → Account → Settled
cut_at st a = record { end = stopped (is_cut Ceiling); state = st; account = a }

recorded_same : (x_space y_space : Space) (t : Request) (w : Answer) (a b : Account) → SameLines a b →
    SameLines (recorded x_space (next_number a) t w a) (recorded y_space (next_number a) t w b)
recorded_same x_space y_space t w a b e =
    let n = next_number a in
    record {
      one = recorded-lines x_space t w a e.one;
      other = subst (λ m. KeepsLines (recorded y_space m t w b)) (same_number a b e) (recorded-lines y_space t w b e.other);
      trace = recorded-trace y_space n t w b e.other.no_rises ∙ ap (λ l. l ++ trace_line n t w ∷ []) e.trace ∙ sym (recorded-trace x_space n t w a e.one.no_rises);
    }

-- the answers differ: the traces part here
parts : (r s : Rule) (x_space y_space : Space) (t : Request) (go : ℕ → Answer → Process) (a b : Account) (v w : Answer) →
    SameLines a b → w ≢ v → Parting r s (next_number a) (t.place + t.length) v w →
    PartsAt r s (after r x_space t go a (next_number a) v).account.trace (after s y_space t go b (next_number a) w).account.trace
parts r s x_space y_space t go a b v w e ne parting =
    let n = next_number a in
    let line : Answer → Attempt = λ u. trace_line n t u in
    let x = settled_extends r x_space (go n v) (recorded x_space n t v a) in
    let y = settled_extends s y_space (go n w) (recorded y_space n t w b) in
    record {
      before = a.trace;
      one = line v;
      other = line w;
      after_one = x.more;
      after_other = y.more;
      is_one = x.is ∙ ap (λ l. l ++ x.more) (recorded-trace x_space n t v a e.one.no_rises) ∙ append_assoc a.trace (line v ∷ []) x.more;
      is_other = y.is ∙ ap (λ l. l ++ y.more) (recorded-trace y_space n t w b e.other.no_rises) ∙ append_assoc b.trace (line w ∷ []) y.more
          ∙ ap (λ l. l ++ line w ∷ y.more) e.trace;
      counted = ap (λ m. m + 1) e.one.lines;
      number = refl;
      length = refl;
      place = refl;
      answered = parting.answered;
      refused = parting.refused;
      answer = ne;
    }

pub agree : (r s : Rule) (x_space y_space : Space) → RefusesAtLeast r s → (p : Process) (a b : Account) → SameLines a b →
    (settled r x_space p a).end ≢ stopped (is_cut Ceiling) → Law r s x_space y_space a b (settled r x_space p a) (settled s y_space p b)
agree r s x_space y_space h (ends way st) a b e not = inl (record { end = refl; state = refl; trace = e.trace; account = λ _ ab. ab })
agree r s x_space y_space h (stops stop st) a b e not = inl (record { end = refl; state = refl; trace = e.trace; account = λ _ ab. ab })
agree r s x_space y_space h (notes q p) a b e not =
    let e' : SameLines (noted x_space q a) (noted y_space q b) = record {
      one = noted-lines x_space q a e.one;
      other = noted-lines y_space q b e.other;
      trace = noted-trace y_space q b ∙ e.trace ∙ sym (noted-trace x_space q a);
    } in
    noted_too (agree r s x_space y_space h p (noted x_space q a) (noted y_space q b) e' not)
  where
    noted_too : {x y : Settled} → Law r s x_space y_space (noted x_space q a) (noted y_space q b) x y → Law r s x_space y_space a b x y
    noted_too (inl same) = inl (record {
      end = same.end;
      state = same.state;
      trace = same.trace;
      account = λ sp ab. same.account sp (ap (λ z. noted z q b) sp ∙ ap (noted x_space q) ab);
    })
    noted_too (inr part) = inr part
agree r s x_space y_space h (asks t cut go) a b e not =
    let P : ℕ → Type 0 = λ m. Law r s x_space y_space a b
    (on_answer (answer_to r (next_number a) t) (cut_at cut a) (after r x_space t go a (next_number a)))
    (on_answer (answer_to s m t) (cut_at cut b) (after s y_space t go b m)) in
    subst P (sym (same_number a b e))
    (told (answer_to r n t) (answer_to s n t) refl refl (not_cut r s h n (omega arith) t)
    (λ w. agree r s x_space y_space h (go n w) (recorded x_space n t w a) (recorded y_space n t w b) (recorded_same x_space y_space t w a b e)) not)
  where
    n : ℕ
    n = next_number a

    recorded_too : (w : Answer) {x y : Settled} → Law r s x_space y_space (recorded x_space n t w a) (recorded y_space n t w b) x y → Law r s x_space y_space a b x y
    recorded_too w (inl same) = inl (record {
      end = same.end;
      state = same.state;
      trace = same.trace;
      account = λ sp ab. same.account sp (ap (λ z. recorded z n t w b) sp ∙ ap (recorded x_space n t w) ab);
    })
    recorded_too w (inr part) = inr part

    one : (v w : Answer) → (v ≡ w) ⊎ (w ≢ v) → (w ≢ v → Parting r s n (t.place + t.length) v w) →
        Law r s x_space y_space (recorded x_space n t v a) (recorded y_space n t v b) (after r x_space t go a n v) (after s y_space t go b n v) →
        Law r s x_space y_space a b (after r x_space t go a n v) (after s y_space t go b n w)
    one v w (inl vw) part ih =
        let P : Answer → Type 0 = λ u. Law r s x_space y_space a b (after r x_space t go a n v) (after s y_space t go b n u) in
        subst P vw (recorded_too v ih)
    one v w (inr ne) part ih = inr (parts r s x_space y_space t go a b v w e ne (part ne))

    told : (o o' : Option Answer) → answer_to r n t ≡ o → answer_to s n t ≡ o' → (o' ≡ None → o ≡ None) →
        ((w : Answer) → (after r x_space t go a n w).end ≢ stopped (is_cut Ceiling) →
        Law r s x_space y_space (recorded x_space n t w a) (recorded y_space n t w b) (after r x_space t go a n w) (after s y_space t go b n w)) →
        (on_answer o (cut_at cut a) (after r x_space t go a n)).end ≢ stopped (is_cut Ceiling) →
        Law r s x_space y_space a b (on_answer o (cut_at cut a) (after r x_space t go a n)) (on_answer o' (cut_at cut b) (after s y_space t go b n))
    told None o' x y k ih not = absurd (not refl)
    told (Some v) None x y k ih not = let never : Some v ≡ None = k refl in absurd cc
    told (Some v) (Some w) x y k ih not = one v w (answer_cases v w) (parting r s h n (omega arith) t v w x y) (ih v not)

-- the law, of whole runs
pub rules_agree-law : (script : Script) (budget : ℕ) (shape : Shape) (r s : Rule) → Agrees script budget shape r s
rules_agree-law script budget shape r s h not =
    of_run (agree r s (space_of r shape) (space_of s shape) h (process script budget (placement_of shape)) (before (space_of r shape)) (before (space_of s shape))
    (record { one = before-lines (space_of r shape); other = before-lines (space_of s shape); trace = refl })
    (λ e. not (ap (λ w. outcome_of w (settled r (space_of r shape) (process script budget (placement_of shape)) (before (space_of r shape))).state) e)))
  where
    x : Settled
    x = settled r (space_of r shape) (process script budget (placement_of shape)) (before (space_of r shape))

    y : Settled
    y = settled s (space_of s shape) (process script budget (placement_of shape)) (before (space_of s shape))

    spaces : (r s : Rule) → IsNoLimit r → IsNoLimit s → space_of s shape ≡ space_of r shape
    spaces r s p q = ap (λ o. space_below (bound_below (below_ceiling o)) shape) (q ∙ sym p)

    whole : Same (space_of r shape) (space_of s shape) (before (space_of r shape)) (before (space_of s shape)) x y → IsNoLimit r → IsNoLimit s → result_of y ≡ result_of x
    whole same p q =
        let sp = spaces r s p q in
        let account : y.account ≡ x.account = same.account sp (ap before sp) in
        ap (λ w. result_of (record { end = w; state = y.state; account = y.account })) same.end
        ∙ ap (λ st. result_of (record { end = x.end; state = st; account = y.account })) same.state
        ∙ ap (λ a. result_of (record { end = x.end; state = x.state; account = a })) account

    of_run : Law r s (space_of r shape) (space_of s shape) (before (space_of r shape)) (before (space_of s shape)) x y →
        IsSameRun r s (result_of x) (result_of y) ⊎ PartsAt r s (result_of x).trace (result_of y).trace
    of_run (inl same) = inl (record {
      but_notes = record {
        outcome = ap (λ w. outcome_of w y.state) same.end ∙ ap (λ st. outcome_of x.end st) same.state;
        trace = same.trace;
        lines = ap (λ st. st.lines) same.state;
        steps = ap (λ st. st.steps) same.state;
      };
      notes_too = whole same;
    })
    of_run (inr part) = inr part
