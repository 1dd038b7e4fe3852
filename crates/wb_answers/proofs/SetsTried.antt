-- Of the sets that are tried of a part one is the least whose run isn't fine, or all are fine: size by size, and of any size, since no set of
-- attempts that are made has more of them than any run makes.
use Rattle.std.proofs.Common.{◌≡◌, ℕ, zero, suc, ◌+◌, ◌-◌, ◌<◌, ◌≤◌, ◌⊎◌, inl, inr, arith, Bool, true, false, List, [], ◌∷◌, length, refl, sym, ◌∙◌, subst}
use Rattle.std.proofs.lemmas.Bool.{cases_lt}
use Rattle.wb_runs.specs.declared.failures.Failures.TheVariants.{Single}
use Rattle.wb_heap_model.specs.declared.heap.Rule.TheVariants.{Number, Set}
use Rattle.wb_heap_model.specs.declared.heap.Shape.{Shape}
use Rattle.wb_runs.specs.declared.part.Part.{Part}
use Rattle.wb_tree.specs.declared.script.Script.{Script}
use Rattle.wb_runs.specs.EverySet.{AreAllSetsFineIn}
use Rattle.wb_runs.specs.Parts.{last_attempt, IsNumberOf}
use Rattle.wb_runs.specs.SetParts.{AreSetsFineIn, AreSetsFineInBefore, IsSetOf}
use Rattle.wb_runs.specs.Sets.{has_lesser_number, AscendsPast}
use Rattle.wb_runs.specs.Sweeps.{is_fine}
use Rattle.wb_runs.proofs.SetOrder.{before-by, lesser-first, none-is-lesser}
use Rattle.wb_answers.proofs.LeastNumber.{least-or-none, AllFrom, LeastFrom}
use Rattle.wb_answers.proofs.LeastSets.{beyond, rests, runs, AreFewerFine, AreRestsFine, HasLeastRest, IsFine}
use Rattle.wb_answers.proofs.MostAttempts.{most_of, run-within}

module _ (script : Script) (budget : ℕ) (shape : Shape) (part : Part) where
  abbrev last : ℕ
  last = last_attempt Single script budget shape

  abbrev IsTriedFine : List ℕ → Type 0
  IsTriedFine numbers = IsSetOf part last numbers → IsFine script budget shape numbers

  -- ---- of one size

  abbrev AreOfSizeFine : ℕ → Type 0
  AreOfSizeFine size = (numbers : List ℕ) → IsSetOf part last numbers → length numbers ≡ size → IsFine script budget shape numbers

  record HasLeastOfSize (size : ℕ) : Type 0 where
    pub numbers : List ℕ
    pub tried : IsSetOf part last numbers
    pub many : length numbers ≡ size
    pub unfine : is_fine (runs script budget shape numbers) ≡ false
    pub least : (other : List ℕ) → IsSetOf part last other → length other ≡ size → has_lesser_number other numbers ≡ true →
        IsFine script budget shape other

  empty-fine : IsTriedFine [] → AreOfSizeFine 0
  empty-fine fine [] tried many = fine tried
  empty-fine fine (n ∷ ns) tried many = absurd (omega (arith, many))

  of-none : HasLeastOfSize 0 ⊎ AreOfSizeFine 0
  of-none = by (cases_lt 0 part.from) (is_fine (runs script budget shape [])) refl
    where
      by : (0 < part.from) ⊎ (part.from ≤ 0) → (b : Bool) → is_fine (runs script budget shape []) ≡ b → HasLeastOfSize 0 ⊎ AreOfSizeFine 0
      by (inl less) b e = inr (empty-fine (λ tried. absurd (omega (arith, less, tried.least.from))))
      by (inr le) true e = inr (empty-fine (λ tried. e))
      by (inr le) false e = inl (record {
        numbers = [];
        tried = record { set = tt; least = record { from = le; to = omega arith; made = omega arith } };
        many = refl;
        unfine = e;
        least = λ other tried many lesser. absurd (none-is-lesser other lesser);
      })

  -- the sets whose least number is this one
  record HasFirst (size n : ℕ) : Type 0 where
    pub tried : IsNumberOf part last n
    pub counted : 0 < n
    pub further : HasLeastRest script budget shape (n ∷ []) n size

  abbrev AreFirstsFine : ℕ → ℕ → Type 0
  AreFirstsFine size n = IsNumberOf part last n → 0 < n → AreRestsFine script budget shape (n ∷ []) n size

  set-with : (n : ℕ) (rest : List ℕ) → IsNumberOf part last n → 0 < n → AscendsPast n rest → IsSetOf part last (n ∷ rest)
  set-with n rest tried counted up = record { set = (counted, up); least = tried }

  fewer-first : (size n : ℕ) → AllFrom AreOfSizeFine 0 (suc size) → IsNumberOf part last n → 0 < n → AreFewerFine script budget shape (n ∷ []) n size
  fewer-first size n fine tried counted rest up few =
      fine (length (n ∷ rest)) (omega arith) (omega (arith, few)) (n ∷ rest) (set-with n rest tried counted up) refl

  decided : (size n : ℕ) → AllFrom AreOfSizeFine 0 (suc size) → part.from ≤ n → n ≤ last → HasFirst size n ⊎ AreFirstsFine size n
  decided size n fine ge le = by (cases_lt part.to n) (cases_lt 0 n)
    where
      by : (part.to < n) ⊎ (n ≤ part.to) → (0 < n) ⊎ (n ≤ 0) → HasFirst size n ⊎ AreFirstsFine size n
      by (inl past) counts = inr (λ tried counted. absurd (omega (arith, past, tried.to)))
      by (inr to) (inr none) = inr (λ tried counted. absurd (omega (arith, none, counted)))
      by (inr to) (inl counted) =
          let tried : IsNumberOf part last n = record { from = ge; to = to; made = le } in
          elim (rests script budget shape size (n ∷ []) n (fewer-first size n fine tried counted)) [
            | inl is ↦ inl (record { tried = tried; counted = counted; further = is })
            | inr fine ↦ inr (λ _ _. fine)
          ]

  first-of-size : (size : ℕ) → LeastFrom (HasFirst size) (AreFirstsFine size) part.from (part.from + (last + 1 - part.from)) →
      HasLeastOfSize (suc size)
  first-of-size size is = record {
    numbers = n ∷ is.has.further.rest;
    tried = set-with n is.has.further.rest is.has.tried is.has.counted is.has.further.up;
    many = omega (arith, is.has.further.many);
    unfine = is.has.further.unfine;
    least = least;
  }
    where
      n : ℕ
      n = is.number

      least : (other : List ℕ) → IsSetOf part last other → length other ≡ suc size →
          has_lesser_number other (n ∷ is.has.further.rest) ≡ true → IsFine script budget shape other
      least [] tried many lesser = cc
      least (m ∷ ms) tried many lesser = by (lesser-first m n ms is.has.further.rest lesser)
        where
          by : (m < n) ⊎ ((m ≡ n) × (has_lesser_number ms is.has.further.rest ≡ true)) → IsFine script budget shape (m ∷ ms)
          by (inl less) = is.lesser m tried.least.from less tried.least tried.set.0 ms tried.set.1 (omega (arith, many))
          by (inr same) =
              let up : AscendsPast n ms = subst (λ k. AscendsPast k ms) same.0 tried.set.1 in
              subst (λ k. IsFine script budget shape (k ∷ ms)) (sym same.0) (is.has.further.least ms up (omega (arith, many)) same.1)

  none-of-size : (size : ℕ) → AllFrom (AreFirstsFine size) part.from (part.from + (last + 1 - part.from)) → AreOfSizeFine (suc size)
  none-of-size size none [] tried many = absurd (omega (arith, many))
  none-of-size size none (n ∷ ns) tried many =
      none n tried.least.from (omega (arith, tried.least.from, tried.least.made)) tried.least tried.set.0 ns tried.set.1 (omega (arith, many))

  of-size : (size : ℕ) → AllFrom AreOfSizeFine 0 size → HasLeastOfSize size ⊎ AreOfSizeFine size
  of-size zero fine = of-none
  of-size (suc size) fine =
      elim (least-or-none (HasFirst size) (AreFirstsFine size) part.from (last + 1 - part.from)
      (λ n ge lt none. decided size n fine ge (omega (arith, ge, lt)))) [
        | inl is ↦ inl (first-of-size size is)
        | inr none ↦ inr (none-of-size size none)
      ]

  -- ---- of any size

  pub record HasLeastUnfine (most : ℕ) : Type 0 where
    pub numbers : List ℕ
    pub tried : IsSetOf part last numbers
    pub few : length numbers ≤ most
    pub unfine : is_fine (runs script budget shape numbers) ≡ false
    pub least : AreSetsFineInBefore part script budget shape numbers

  least-of-sizes : (most : ℕ) → LeastFrom HasLeastOfSize AreOfSizeFine 0 (0 + (most + 1)) → HasLeastUnfine most
  least-of-sizes most is = record {
    numbers = is.has.numbers;
    tried = is.has.tried;
    few = omega (arith, is.has.many, is.within);
    unfine = is.has.unfine;
    least = λ other tried comes. elim (before-by other is.has.numbers comes) [
      | inl fewer ↦ is.lesser (length other) (omega arith) (omega (arith, fewer, is.has.many)) other tried refl
      | inr same ↦ is.has.least other tried (same.0 ∙ is.has.many) same.1
    ];
  }

  pub few-tried : (most : ℕ) → HasLeastUnfine most ⊎ AreSetsFineIn part most script budget shape
  few-tried most =
      elim (least-or-none HasLeastOfSize AreOfSizeFine 0 (most + 1) (λ size ge lt fine. of-size size fine)) [
        | inl is ↦ inl (least-of-sizes most is)
        | inr fine ↦ inr (λ numbers tried few. fine (length numbers) (omega arith) (omega (arith, few)) numbers tried refl)
      ]

  abbrev most : ℕ
  most = most_of script budget shape

  beyond-fine : AreSetsFineIn part most script budget shape → (numbers : List ℕ) → IsSetOf part last numbers → most < length numbers →
      IsFine script budget shape numbers
  beyond-fine fine [] tried lt = absurd (omega (arith, lt))
  beyond-fine fine (n ∷ ns) tried lt =
      let made = run-within script budget shape (Number 0) in
      beyond script budget shape most (λ numbers. run-within script budget shape (Set numbers)) ns (n ∷ []) n tried.set.1
      (omega (arith, tried.set.0)) (omega (arith, made, tried.least.made)) (omega (arith, lt, tried.set.0))
      (λ few up less. fine (n ∷ few) (set-with n few tried.least tried.set.0 up) (omega (arith, less)))

  pub every-tried : HasLeastUnfine most ⊎ AreAllSetsFineIn part script budget shape
  every-tried = elim (few-tried most) [
    | inl is ↦ inl is
    | inr fine ↦ inr (λ numbers tried. elim (cases_lt most (length numbers)) [
      | inl more ↦ beyond-fine fine numbers tried more
      | inr few ↦ fine numbers tried few
    ])
  ]
