-- What is found among the sets that a search tries, as what is found of a part.
use Rattle.std.proofs.Common.{◌≡◌, ℕ, ◌+◌, ◌≤◌, arith, Bool, true, false, List, [], ◌∷◌, length, refl, sym, ◌∙◌, ap, subst, inl, inr, max}
use Rattle.std.proofs.lemmas.Bool.{cases_lt, false≢true, true≢false}
use Rattle.wb_runs.specs.declared.failures.Failures.TheVariants.{Single}
use Rattle.wb_heap_model.specs.declared.heap.Shape.{Shape}
use Rattle.wb_runs.specs.declared.part.Part.{Part}
use Rattle.wb_meaning.specs.declared.run.RunResult.{RunResult}
use Rattle.wb_tree.specs.declared.script.Script.{Script}
use Rattle.wb_runs.specs.EverySet.{AreAllSetsFineIn}
use Rattle.wb_runs.specs.Parts.{last_attempt, IsNumberOf}
use Rattle.wb_runs.specs.SetParts.{least_number, AreSetsFineIn, IsSetOf}
use Rattle.wb_runs.specs.Sets.{set_comes_before, set_run, IsSet}
use Rattle.wb_runs.specs.Sweeps.{is_fine}
use Rattle.wb_runs.proofs.SetLemmas.{none-fails, past-last}
use Rattle.wb_runs.proofs.SetOrder.{fewer-before}
use Rattle.wb_runs.proofs.SweepLemmas.{fine_uncut}
use Rattle.wb_states.specs.Answers.{at_least_one, AreFineWhere, IsAnswer, IsLeastShownIn, IsWholeIf}
use Rattle.wb_states.specs.declared.searching.Searched.{Searched}
use Rattle.wb_states.specs.declared.searching.Searched.TheVariants as found
use Rattle.wb_states.specs.declared.state.Shown.{Shown}
use Rattle.wb_states.specs.Ground.{Ground, IsTriedSet}
use Rattle.wb_states.specs.Many.{IsMetOf}
use Rattle.wb_runs.specs.Met.{AreManyStatesIn, AreWithin, AsksAfter, IsMetIn}

-- an answer that names a set is that answer where it is known that no single failure shows anything
pub at-least-shown : (answer : Searched) (shown : Shown) → at_least_one answer ≡ found.Shown shown → answer ≡ found.Shown shown
at-least-shown (found.Shown other) shown e = e
at-least-shown found.Fine shown e = cc
at-least-shown (found.FineTo most) shown e = cc
at-least-shown (found.ManyStates fewer) shown e = cc

module _ (script : Script) (budget : ℕ) (shape : Shape) (whole : Bool) (part : Part) (last allowed : ℕ) where
  abbrev pub ground-of : Ground
  ground-of = record { script = script; budget = budget; shape = shape; whole = whole; part = part; last = last; allowed = allowed }

  module _ (is_last : last ≡ last_attempt Single script budget shape) (if_whole : IsWholeIf whole part last) where
    tried : (numbers : List ℕ) → IsSetOf part (last_attempt Single script budget shape) numbers → IsTriedSet ground-of numbers
    tried numbers is = record { set = is.set; least = λ in_part. record { from = is.least.from; to = is.least.to; made = omega (arith, is.least.made, is_last) } }

    same_last : length (set_run script budget shape []).trace ≡ last
    same_last = ap (λ (r : RunResult). length r.trace) (none-fails script budget shape) ∙ sym is_last

    -- the least number of a set that shows something is that of an attempt which the run without failure makes
    within : (numbers : List ℕ) → IsSet numbers → is_fine (set_run script budget shape numbers) ≡ false → whole ≡ true →
        AreFineWhere ground-of (λ other. set_comes_before other numbers ≡ true) → least_number numbers ≤ last
    within [] up shows all least = omega arith
    within (n ∷ ns) up shows all least = elim (cases_lt last n) [
      | inl past ↦
          let empty : IsTriedSet ground-of [] = record { set = tt; least = λ in_part. absurd (true≢false (sym all ∙ in_part)) } in
          let fine = least [] empty (fewer-before [] (n ∷ ns) (omega arith)) in
          let same = past-last script budget shape [] (n ∷ ns) (fine_uncut (set_run script budget shape []) fine) (omega (arith, past, same_last), up.1) in
          absurd (false≢true (sym shows ∙ ap is_fine same ∙ fine))
      | inr le ↦ le
    ]

    in_part : (numbers : List ℕ) → IsTriedSet ground-of numbers → (whole ≡ true → least_number numbers ≤ last) → (w : Bool) → whole ≡ w →
        IsNumberOf part (last_attempt Single script budget shape) (least_number numbers)
    in_part numbers is made true all =
        let from = if_whole.start all in
        let to = if_whole.end all in
        let le = made all in
        record { from = omega (arith, from); to = omega (arith, le, to); made = omega (arith, le, is_last) }
    in_part numbers is made false some =
        let least = is.least some in
        record { from = least.from; to = least.to; made = (let le = least.made in omega (arith, le, is_last)) }

    pub shown-in : (shown : Shown) → IsAnswer ground-of (found.Shown shown) → IsLeastShownIn part script budget shape shown
    shown-in shown (is, least) = record {
      tried = record {
        set = is.tried.set;
        least = in_part shown.numbers is.tried (λ all. within shown.numbers is.tried.set is.shows all least) whole refl;
      };
      shows = is.shows;
      least = λ other other_tried comes. least other (tried other other_tried) comes;
      run_is = is.run_is;
    }

    pub fine-in : IsAnswer ground-of found.Fine → AreAllSetsFineIn part script budget shape
    fine-in fine numbers is = fine numbers (tried numbers is) tt

    pub fine-to-in : (most : ℕ) → IsAnswer ground-of (found.FineTo most) → AreSetsFineIn part most script budget shape
    fine-to-in most fine numbers is few = fine numbers (tried numbers is) few

    -- where single failures are known to show nothing
    pub fine-to-one : (most : ℕ) → AreSetsFineIn part 1 script budget shape → IsAnswer ground-of (found.FineTo most) → AreSetsFineIn part (max most 1) script budget shape
    fine-to-one most one fine numbers is few = elim (cases_lt most 1) [
      | inl less ↦ one numbers is (omega (arith, few, less))
      | inr more ↦ fine numbers (tried numbers is) (omega (arith, few, more))
    ]

    -- ---- more states than are allowed

    -- an attempt that a run makes, or asks for at the ceiling, is no later than its trace says
    made-at-most : (numbers : List ℕ) (attempts : ℕ) → AsksAfter script budget shape numbers attempts → attempts ≤ length (set_run script budget shape numbers).trace
    made-at-most numbers attempts (inl more) = omega (arith, more)
    made-at-most numbers attempts (inr is) = omega (arith, is.0)

    module _ (one : AreSetsFineIn part 1 script budget shape) where
      -- the run without failure is fine
      none-fine : whole ≡ true → is_fine (set_run script budget shape []) ≡ true
      none-fine all =
          let from = if_whole.start all in
          one [] (record { set = tt; least = record { from = omega (arith, from); to = omega arith; made = omega arith } }) (omega arith)

      -- the least attempt of a set whose attempts were made is one that the run without failure makes
      made-by-last : (numbers : List ℕ) (attempts : ℕ) → IsSet numbers → AreWithin attempts numbers → AsksAfter script budget shape numbers attempts →
          whole ≡ true → least_number numbers ≤ last
      made-by-last [] attempts up made asks all = omega arith
      made-by-last (n ∷ ns) attempts up made asks all = elim (cases_lt last n) [
        | inl past ↦
            let same = past-last script budget shape [] (n ∷ ns) (fine_uncut (set_run script budget shape []) (none-fine all)) (omega (arith, past, same_last), up.1) in
            let length_same = ap (λ (r : RunResult). length r.trace) same in
            absurd (omega (arith, past, made.0, made-at-most (n ∷ ns) attempts asks, length_same, same_last))
        | inr le ↦ le
      ]

      met-in : (most more : ℕ) → most ≤ more → (numbers : List ℕ) (attempts : ℕ) → IsMetOf ground-of most numbers attempts →
          IsMetIn part more script budget shape numbers attempts
      met-in most more le numbers attempts is = record {
        tried = elim is.tried [
          | inl none ↦ inl none
          | inr set ↦ inr (record { set = set.set; least = in_part numbers set (made-by-last numbers attempts set.set is.made is.asks) whole refl })
        ];
        few = (let few = is.few in omega (arith, few, le));
        made = is.made;
        asks = is.asks;
      }

      pub many-in : (fewer : ℕ) → IsAnswer ground-of (found.ManyStates fewer) →
          (1 ≤ max fewer 1) × AreSetsFineIn part (max fewer 1) script budget shape × AreManyStatesIn part (max fewer 1 + 1) allowed script budget shape
      many-in fewer is = (
        omega arith,
        fine,
        record {
          pairs = is.many.pairs;
          more = is.many.more;
          different = is.many.different;
          each = λ i pair at. met-in (fewer + 1) (max fewer 1 + 1) (omega arith) pair.0 pair.1 (is.many.each i pair at);
        },
      )
        where
          fine : AreSetsFineIn part (max fewer 1) script budget shape
          fine numbers set few = elim (cases_lt fewer 1) [
            | inl less ↦ one numbers set (omega (arith, few, less))
            | inr more ↦ is.fine (omega (arith, more)) numbers (tried numbers set) (omega (arith, few, more))
          ]

      -- so says an answer that is raised to one
      pub many-told : (answer : Searched) (fine : ℕ) → at_least_one answer ≡ found.ManyStates fine → IsAnswer ground-of answer →
          (1 ≤ fine) × AreSetsFineIn part fine script budget shape × AreManyStatesIn part (fine + 1) allowed script budget shape
      many-told (found.ManyStates fewer) fine e is =
          let same : max fewer 1 ≡ fine = cc in
          subst (λ n. (1 ≤ n) × AreSetsFineIn part n script budget shape × AreManyStatesIn part (n + 1) allowed script budget shape) same (many-in fewer is)
      many-told (found.Shown shown) fine e is = cc
      many-told found.Fine fine e is = cc
      many-told (found.FineTo most) fine e is = cc
