-- What two runs come to from where they are the same but for numbers, under rules that say the same from there on.
use Rattle.std.proofs.Common.{◌≡◌, ℕ, ◌+◌, ◌≤◌, ◌⊎◌, inl, inr, List, map, refl, sym, ap, ◌∙◌, subst, arith, cond, Option, Some, None}
use Rattle.wb_heap_model.specs.declared.heap.Answer.{Answer}
use Rattle.wb_heap_model.specs.declared.heap.Answer.TheVariants.{Simulated}
use Rattle.wb_heap_model.specs.declared.heap.Header.{Header}
use Rattle.wb_heap_model.specs.declared.heap.Rule.{Rule}
use Rattle.wb_heap_model.specs.declared.heap.Shape.{Shape}
use Rattle.wb_meaning.specs.declared.run.Why.TheVariants.{Budget, Ceiling}
use Rattle.wb_tree.specs.declared.script.Script.{Script}
use Rattle.wb_heap_model.specs.Rules.{Request, unless_refused, refusal_of, answer_to}
use Rattle.wb_heap_model.specs.Space.{Space, space_of}
use Rattle.wb_meaning.specs.State.{State, Way, Stop, panics, is_cut, no_cleanup, Query, heap_note, available_note, compress_note, Process, ends, stops, asks, notes}
use Rattle.wb_meaning.specs.Account.{End, over, stopped, Account, Settled, settled, on_answer, recorded, noted, next_number}
use Rattle.wb_meaning.specs.Rest.{Progress, left_to_do, rest}
use Rattle.wb_heap_model.specs.Reported.{leak_of}
use Rattle.wb_meaning.specs.Run.{outcome_of, whole_of}
use Rattle.wb_renaming.specs.SameButNumbers.{Names, Renaming, one_more, AllBeside, none_beside, one_beside, IsSameHeader, IsSameState, IsSameWay, same_plain, same_return, same_leave}
use Rattle.wb_renaming.specs.Follows.{IsLate, IsPast, IsBeside, Follows, both_end, both_stop, both_ask, both_note, cut_first, AreBeside, IsSameLeak, IsSameOutcome, same_end, same_panic, same_no_cleanup, same_cut, reached, RefusesAlike, RestsAgree}
use Rattle.wb_renaming.proofs.SameHeaps.{headers-beside, all_levels-beside}
use Rattle.wb_renaming.proofs.FollowPieces.{left_to_do-follows}

-- what the rules say of later attempts, by the attempts made in either
abbrev pub SaysAlike : Rule → Rule → Renaming → Type 0
SaysAlike r s w = (n end : ℕ) → 1 ≤ n → refusal_of s (w.other_made + n) end ≡ refusal_of r (w.made + n) end

-- the same end but for numbers
pub data IsSameEnd (names : Names) : End → End → Type 0 where
  same_over : {way other_way : Way} → IsSameWay names way other_way → IsSameEnd names (over way) (over other_way)
  same_stopped : {stop other_stop : Stop} → other_stop ≡ stop → IsSameEnd names (stopped stop) (stopped other_stop)

-- the two have settled alike, after as many attempts
pub record SettlesAlike (budget further : ℕ) (w : Renaming) (x y : Settled) : Type 0 where
  pub v : Renaming
  pub end : IsSameEnd v.names x.end y.end
  pub beside : IsBeside budget further v x.state y.state
  pub made : x.account.attempts ≡ v.made
  pub other_made : y.account.attempts ≡ v.other_made
  pub as_many : v.other_made + w.made ≡ v.made + w.other_made

-- the first has gone on past the budget of the second, which is cut
pub record IsCutFirst (budget further : ℕ) (x y : Settled) : Type 0 where
  pub late : IsLate budget further x.state
  pub cut : y.end ≡ stopped (is_cut Budget)

abbrev pub Settles : ℕ → ℕ → Renaming → Settled → Settled → Type 0
Settles budget further w x y = SettlesAlike budget further w x y ⊎ IsCutFirst budget further x y

-- a note makes no attempt
noted-attempts : (space : Space) (q : Query) (a : Account) → (noted space q a).attempts ≡ a.attempts
noted-attempts space (heap_note count total) a = refl
noted-attempts space (available_note row) a = refl
noted-attempts space (compress_note top) a = refl

-- one attempt further on, there were as many
one_more-settles : (budget further : ℕ) (w : Renaming) (x y : Settled) → Settles budget further (one_more w) x y → Settles budget further w x y
one_more-settles budget further w x y (inl s) = inl (record {
  v = s.v;
  end = s.end;
  beside = s.beside;
  made = s.made;
  other_made = s.other_made;
  as_many = omega (arith, s.as_many);
})
one_more-settles budget further w x y (inr s) = inr s

module _ (budget further : ℕ) where
  -- where a process is past, so is what it settles to
  past-settles : (r : Rule) (space : Space) (p : Process) (a : Account) → IsPast budget further p → IsLate budget further (settled r space p a).state
  past-settles r space (ends way st) a past = past
  past-settles r space (stops stop st) a past = past
  past-settles r space (asks t cut go) a past =
      by (answer_to r (next_number a) t) (λ w. past-settles r space (go (next_number a) w) (recorded space (next_number a) t w a) (past.1 (next_number a) w))
    where
      by : (o : Option Answer) → ((w : Answer) → IsLate budget further (settled r space (go (next_number a) w) (recorded space (next_number a) t w a)).state) →
          IsLate budget further (on_answer o (record { end = stopped (is_cut Ceiling); state = cut; account = a })
          (λ w. settled r space (go (next_number a) w) (recorded space (next_number a) t w a))).state
      by None rest = past.0
      by (Some w) rest = rest w
  past-settles r space (notes q p) a past = past-settles r space p (noted space q a) past

module _ (budget further : ℕ) (r s : Rule) (space other_space : Space) where
  -- the next attempt is answered alike
  answer-same : (w : Renaming) (t u : Request) (a b : Account) → u ≡ t → a.attempts ≡ w.made → b.attempts ≡ w.other_made → SaysAlike r s w →
      answer_to s (next_number b) u ≡ answer_to r (next_number a) t
  answer-same w t u a b e ea eb alike =
      ap (answer_to s (next_number b)) e
      ∙ ap (λ n. answer_to s (n + 1) t) eb
      ∙ ap (λ (o : Option Answer). cond t.due (Some Simulated) (unless_refused o (t.place + t.length))) (alike 1 (t.place + t.length) (omega arith))
      ∙ sym (ap (λ n. answer_to r (n + 1) t) ea)

  onward : (w : Renaming) → SaysAlike r s w → SaysAlike r s (one_more w)
  onward w alike n end from =
      let one : w.made + 1 + n ≡ w.made + (n + 1) = omega arith in
      let two : w.other_made + 1 + n ≡ w.other_made + (n + 1) = omega arith in
      ap (λ m. refusal_of s m end) two ∙ alike (n + 1) end (omega arith) ∙ sym (ap (λ m. refusal_of r m end) one)

  pub settles : {w : Renaming} {p q : Process} → Follows budget further w p q → (a b : Account) → a.attempts ≡ w.made → b.attempts ≡ w.other_made → SaysAlike r s w →
      Settles budget further w (settled r space p a) (settled s other_space q b)
  settles {w = w} (both_end same beside) a b ea eb alike =
      inl (record { v = w; end = same_over same; beside = beside; made = ea; other_made = eb; as_many = omega arith })
  settles {w = w} (both_stop e beside) a b ea eb alike =
      inl (record { v = w; end = same_stopped e; beside = beside; made = ea; other_made = eb; as_many = omega arith })
  settles {w = w} (both_ask {t = t} {other_t = u} {cut = cut} {other_cut = other_cut} {go = go} {other_go = other_go} e beside follow) a b ea eb alike =
      by (answer_to r (next_number a) t) (answer_to s (next_number b) u) (answer-same w t u a b e ea eb alike)
      (λ answer. subst (λ n. Settles budget further w (settled r space (go n answer) (recorded space (next_number a) t answer a))
      (settled s other_space (other_go (next_number b) answer) (recorded other_space (next_number b) u answer b))) (ap (λ n. n + 1) (sym ea))
      (subst (λ n. Settles budget further w (settled r space (go (w.made + 1) answer) (recorded space (next_number a) t answer a))
      (settled s other_space (other_go n answer) (recorded other_space (next_number b) u answer b))) (ap (λ n. n + 1) (sym eb))
      (one_more-settles budget further w _ _
      (settles (follow answer) (recorded space (next_number a) t answer a) (recorded other_space (next_number b) u answer b)
      (ap (λ n. n + 1) ea) (ap (λ n. n + 1) eb) (onward w alike)))))
    where
      by : (o v : Option Answer) → v ≡ o →
          ((answer : Answer) → Settles budget further w (settled r space (go (next_number a) answer) (recorded space (next_number a) t answer a))
          (settled s other_space (other_go (next_number b) answer) (recorded other_space (next_number b) u answer b))) →
          Settles budget further w
          (on_answer o (record { end = stopped (is_cut Ceiling); state = cut; account = a })
          (λ answer. settled r space (go (next_number a) answer) (recorded space (next_number a) t answer a)))
          (on_answer v (record { end = stopped (is_cut Ceiling); state = other_cut; account = b })
          (λ answer. settled s other_space (other_go (next_number b) answer) (recorded other_space (next_number b) u answer b)))
      by None None same rest =
          inl (record { v = w; end = same_stopped refl; beside = beside; made = ea; other_made = eb; as_many = omega arith })
      by (Some x) (Some y) same rest =
          let equal : y ≡ x = cc in
          subst (λ z. Settles budget further w (settled r space (go (next_number a) x) (recorded space (next_number a) t x a))
          (settled s other_space (other_go (next_number b) z) (recorded other_space (next_number b) u z b))) (sym equal) (rest x)
      by None (Some y) same rest = cc
      by (Some x) None same rest = cc
  settles (both_note {q = q} {other_q = u} follow) a b ea eb alike =
      settles follow (noted space q a) (noted other_space u b) (noted-attempts space q a ∙ ea) (noted-attempts other_space u b ∙ eb) alike
  settles (cut_first {p = p} past) a b ea eb alike = inr (record { late = past-settles budget further r space p a past; cut = refl })

-- outcomes
leaks-beside : {names : Names} {hs gs : List Header} → AllBeside (IsSameHeader names) hs gs → AllBeside IsSameLeak (map leak_of hs) (map leak_of gs)
leaks-beside none_beside = none_beside
leaks-beside (one_beside s rest) = one_beside (record { place = s.place; length = s.length }) (leaks-beside rest)

stop-outcome : (st other : State) (stop : Stop) → IsSameOutcome (outcome_of (stopped stop) st) (outcome_of (stopped stop) other)
stop-outcome st other (panics p) = same_panic p
stop-outcome st other (is_cut why) = same_cut why
stop-outcome st other no_cleanup = same_no_cleanup

end-outcome : {names : Names} {e f : End} (st other : State) → IsSameEnd names e f → IsSameState names st other → IsSameOutcome (outcome_of e st) (outcome_of f other)
end-outcome st other (same_over same_plain) s = same_end None (leaks-beside (all_levels-beside (headers-beside s.heap.row)))
end-outcome st other (same_over (same_return r)) s = same_end None (leaks-beside (all_levels-beside (headers-beside s.heap.row)))
end-outcome st other (same_over (same_leave code)) s = same_end (Some code) (leaks-beside (all_levels-beside (headers-beside s.heap.row)))
end-outcome st other (same_stopped {stop = stop} e) s =
    subst (λ z. IsSameOutcome (outcome_of (stopped stop) st) (outcome_of (stopped z) other)) (sym e) (stop-outcome st other stop)

pub rests-agree : (script : Script) (budget further : ℕ) (shape other_shape : Shape) (r s : Rule) (w : Renaming) (p q : Progress) (a b : Account) → AreBeside budget further w p q →
    a.attempts ≡ w.made → b.attempts ≡ w.other_made → RefusesAlike r s (reached p a) (reached q b) →
    RestsAgree budget (reached p a) (reached q b) (rest script budget shape r p a) (rest script budget other_shape s q b)
unfolding rest
rests-agree script budget further shape other_shape r s w p q a b are ea eb alike =
    by (settles budget further r s (space_of r shape) (space_of s other_shape) (left_to_do-follows budget further script are) a b ea eb says)
  where
    says : SaysAlike r s w
    says n end from = ap (λ m. refusal_of s (m + n) end) (sym eb) ∙ alike n end from ∙ ap (λ m. refusal_of r (m + n) end) ea

    x : Settled
    x = settled r (space_of r shape) (left_to_do script budget p) a

    y : Settled
    y = settled s (space_of s other_shape) (left_to_do script budget q) b

    by : Settles budget further w x y → RestsAgree budget (reached p a) (reached q b) (whole_of x) (whole_of y)
    by (inl t) =
        let counted = are.steps in
        let steps = t.beside.steps in
        let within = t.beside.within in
        record {
          alike = λ fits. record {
            outcome = end-outcome x.state y.state t.end t.beside.same;
            steps = omega (arith, counted, steps);
            attempts = omega (arith, t.made, t.other_made, t.as_many, ea, eb);
          };
          cut = λ past. absurd (omega (arith, past, counted, steps, within));
        }
    by (inr t) =
        let counted = are.steps in
        let late = t.late.past in
        record {
          alike = λ fits. absurd (omega (arith, fits, counted, late));
          cut = λ past. ap (λ e. outcome_of e y.state) t.cut;
        }
