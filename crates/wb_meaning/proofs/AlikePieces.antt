-- All that is still to do keeps a lasting fact, and its meaning doesn't depend on the bound of the recursion.
use Rattle.std.proofs.Common.{◌≡◌, ℕ, zero, suc, ◌+◌, ◌<◌, ◌≤◌, Bool, true, false, List, [], ◌∷◌, refl, arith}
use Rattle.std.specs.Prelude.{nat_lt}
use Rattle.std.proofs.lemmas.Bool.{ltb-true}
use Rattle.wb_tree.specs.declared.script.Statement.TheViews.{out-Statement}
use Rattle.wb_meaning.specs.State.{State, Process, ends, stops, asks, notes}
use Rattle.wb_meaning.specs.Statements.{Todo, all, turns, destroy_items, destroy_object, Context, Meaning}
use Rattle.wb_meaning.specs.Meaning.{begun, begun_if, piece, meaning_within}
use Rattle.wb_meaning.proofs.AlikeLemmas.{Lasting, Fine, Keeps, Alike, AlikeAll, then_do-alike, with_some-alike, with_class-alike, release-alike}
use Rattle.wb_meaning.proofs.AlikeFrames.{plain-alike, in_frame-alike, destroyed_item-alike}
use Rattle.wb_meaning.proofs.EachStatement.{statement-alike}

-- a number of steps at least, and no more than the budget
abbrev pub Between : ℕ → ℕ → ℕ → Type 0
Between low budget n = (low ≤ n) × (n ≤ budget)

-- a fact that lasts, beside that
abbrev pub between : Lasting → ℕ → ℕ → Lasting
between L low budget = record L { Counts = Between low budget }

module _ (L : Lasting) where
  pub shows_weaker : (ns : List ℕ) (low higher budget : ℕ) → low ≤ higher → (p : Process) → Keeps (between L higher budget) ns p → Keeps (between L low budget) ns p
  shows_weaker ns low higher budget le (ends way st) k = ((omega (arith, le, k.0.0), k.0.1), k.1, k.2)
  shows_weaker ns low higher budget le (stops stop st) k = (((omega (arith, le, k.0.0.0), k.0.0.1), k.0.1, k.0.2), k.1)
  shows_weaker ns low higher budget le (asks t cut go) k =
      (((omega (arith, le, k.0.0.0), k.0.0.1), k.0.1, k.0.2), k.1, k.2, λ n a. shows_weaker (n ∷ ns) low higher budget le (go n a) (k.3 n a))
  shows_weaker ns low higher budget le (notes q p) k =
      ((k.0.0, ((omega (arith, le, k.0.1.0.0), k.0.1.0.1), k.0.1.1, k.0.1.2), k.0.2), shows_weaker ns low higher budget le p k.1)

  begun-alike : (ns : List ℕ) (budget : ℕ) (st : State) (go go' : State → Process) → st.steps ≤ budget → L.Holds ns st.heap → L.Prints st.lines →
      ((st' : State) → Fine (between L (st.steps + 1) budget) ns st' → Alike (between L (st.steps + 1) budget) ns (go st') (go' st')) →
      Alike (between L st.steps budget) ns (begun budget st go) (begun budget st go')
  unfolding begun begun_if
  begun-alike ns budget st go go' f h lines k = by (nat_lt st.steps budget) refl
    where
      by : (b : Bool) → nat_lt st.steps budget ≡ b → Alike (between L st.steps budget) ns (begun_if b st go) (begun_if b st go')
      by true e =
          let le = ltb-true _ _ e in
          let is = k (record st { steps = st.steps + 1 }) ((omega arith, omega (arith, le)), h, lines) in
          (is.0, shows_weaker ns st.steps (st.steps + 1) budget (omega arith) (go (record st { steps = st.steps + 1 })) is.1)
      by false e = (refl, (((omega arith, f), h, lines), tt))

  pub piece-alike : (ns : List ℕ) (budget : ℕ) (rec rec' : Meaning) (at : Context) (p : Todo) (st : State) → st.steps ≤ budget → L.Holds ns st.heap → L.Prints st.lines →
      AlikeAll (between L (st.steps + 1) budget) rec rec' → Alike (between L st.steps budget) ns (piece L.script budget rec at p st) (piece L.script budget rec' at p st)
  unfolding piece
  piece-alike ns budget rec rec' at (all []) st f h lines k = (refl, ((omega arith, f), h, lines))
  piece-alike ns budget rec rec' at (all (s ∷ rest)) st f h lines k =
      let B = between L (st.steps + 1) budget in
      begun-alike ns budget st _ _ f h lines (λ st g. then_do-alike B _ _ _ _ _ (statement-alike B rec rec' at (out-Statement s.statement) st k g) (λ ns st g. k ns _ _ st g))
  piece-alike ns budget rec rec' at (turns zero body) st f h lines k = (refl, ((omega arith, f), h, lines))
  piece-alike ns budget rec rec' at (turns (suc n) body) st f h lines k =
      let B = between L (st.steps + 1) budget in begun-alike ns budget st _ _ f h lines (λ st g. then_do-alike B _ _ _ _ _ (k ns _ _ st g) (λ ns st g. k ns _ _ st g))
  piece-alike ns budget rec rec' at (destroy_items zero) st f h lines k = (refl, ((omega arith, f), h, lines))
  piece-alike ns budget rec rec' at (destroy_items (suc n)) st f h lines k =
      let B = between L (st.steps + 1) budget in
      begun-alike ns budget st _ _ f h lines (λ st g. with_some-alike B _ _ _ _ _ g (λ item _.
      then_do-alike B _ _ _ _ _ (destroyed_item-alike B L.script rec rec' at item _ k g) (λ ns st g. k ns _ _ st g)))
  piece-alike ns budget rec rec' at (destroy_object p) st f h lines k =
      let B = between L (st.steps + 1) budget in
      begun-alike ns budget st _ _ f h lines (λ st g. with_class-alike B _ _ _ _ g (λ n.
      in_frame-alike B _ _ _ _ _ _ _ _ _ k g (λ ns w st g. plain-alike B _ _ w st g (λ _ st g. release-alike B _ _ g))))

  -- past the budget the bound doesn't matter, and no run counts more steps than its budget
  pub meaning_within-alike : (budget n m : ℕ) (ns : List ℕ) (at : Context) (p : Todo) (st : State) → st.steps ≤ budget →
      L.Holds ns st.heap → L.Prints st.lines → budget < n + st.steps → budget < m + st.steps →
      Alike (between L st.steps budget) ns (meaning_within L.script budget n at p st) (meaning_within L.script budget m at p st)
  unfolding meaning_within
  meaning_within-alike budget zero m ns at p st f h lines l r = absurd (omega (arith, f, l))
  meaning_within-alike budget (suc n) zero ns at p st f h lines l r = absurd (omega (arith, f, r))
  meaning_within-alike budget (suc n) (suc m) ns at p st f h lines l r =
      piece-alike ns budget (meaning_within L.script budget n) (meaning_within L.script budget m) at p st f h lines
      (λ ns at p st' g.
      let is = meaning_within-alike budget n m ns at p st' g.0.1 g.1 g.2 (omega (arith, g.0.0, l)) (omega (arith, g.0.0, r)) in
      (is.0, shows_weaker ns (st.steps + 1) st'.steps budget g.0.0 (meaning_within L.script budget n at p st') is.1))
