-- Numbers that are counted on from an attempt: that they ascend, and that a set's numbers are those past the next attempt, with that attempt or without.
use Rattle.std.proofs.Common.{◌≡◌, ℕ, ◌+◌, ◌-◌, ◌<◌, ◌≤◌, ◌⊎◌, inl, inr, arith, List, [], ◌∷◌, ◌++◌, length, map, refl, sym, ◌∙◌, ap, subst, zero-add, add_assoc}
use Rattle.std.proofs.lemmas.Bool.{cases_lt}
use Rattle.std.specs.Prelude.{slice_index_or}
use Rattle.wb_runs.specs.Sets.{AscendsPast, IsSet}
use Rattle.wb_runs.proofs.SetLemmas.{ascends-last, ascends-weaker}
use Rattle.wb_states.specs.Ground.{past}

pub past-zero : (numbers : List ℕ) → past 0 numbers ≡ numbers
past-zero [] = refl
past-zero (n ∷ ns) = ap (λ k. k ∷ past 0 ns) (zero-add n) ∙ ap (λ ks. n ∷ ks) (past-zero ns)

pub past-past : (first then : ℕ) (numbers : List ℕ) → past first (past then numbers) ≡ past (first + then) numbers
past-past first then [] = refl
past-past first then (n ∷ ns) =
    ap (λ k. k ∷ past first (past then ns)) (sym (add_assoc first then n)) ∙ ap (λ ks. (first + then + n) ∷ ks) (past-past first then ns)

past-from : (attempts from : ℕ) (numbers : List ℕ) → AscendsPast from numbers → AscendsPast (attempts + from) (past attempts numbers)
past-from attempts from [] up = tt
past-from attempts from (n ∷ ns) up = (omega (arith, up.0), past-from attempts n ns up.1)

-- they are past the attempt, and past each before it
pub past-ascends : (before attempts : ℕ) (numbers : List ℕ) → before ≤ attempts → IsSet numbers → AscendsPast before (past attempts numbers)
past-ascends before attempts numbers le up = ascends-weaker before (attempts + 0) (past attempts numbers) (omega (arith, le)) (past-from attempts 0 numbers up)

-- what is left of a set once its first numbers are taken off is past an attempt if its first number is
pub left-past : (attempts : ℕ) (set other rest : List ℕ) → IsSet set → set ≡ other ++ rest → (1 ≤ length rest → attempts < slice_index_or rest 0 0) →
    (more : List ℕ) × (set ≡ other ++ more) × AscendsPast attempts more
left-past attempts set other [] up same later = ([], same, tt)
left-past attempts set other (n ∷ ns) up same later = (n ∷ ns, same, (later (omega arith), (ascends-last 0 other (n ∷ ns) (subst IsSet same up)).1))

-- ---- whether the next attempt is among the numbers

-- each number less one
abbrev less : List ℕ → List ℕ
less numbers = map (λ n. n - 1) numbers

less-ascends : (before : ℕ) (numbers : List ℕ) → AscendsPast (before + 1) numbers → AscendsPast before (less numbers)
less-ascends before [] up = tt
less-ascends before (n ∷ ns) up =
    let again : n ≡ (n - 1) + 1 = omega (arith, up.0) in
    (omega (arith, up.0), less-ascends (n - 1) ns (subst (λ k. AscendsPast k ns) again up.1))

past-less : (before : ℕ) (numbers : List ℕ) → AscendsPast before numbers → past 1 (less numbers) ≡ numbers
past-less before [] up = refl
past-less before (n ∷ ns) up =
    let again : 1 + (n - 1) ≡ n = omega (arith, up.0) in
    ap (λ k. k ∷ past 1 (less ns)) again ∙ ap (λ ks. n ∷ ks) (past-less n ns up.1)

-- attempt 1 is not among a set's numbers, or is, and the others are counted on from it
abbrev pub IsParted : List ℕ → Type 0
IsParted numbers =
    ((rest : List ℕ) × IsSet rest × (numbers ≡ past 1 rest))
    ⊎ ((rest : List ℕ) × IsSet rest × (numbers ≡ 1 ∷ past 1 rest))

pub parted : (numbers : List ℕ) → IsSet numbers → IsParted numbers
parted [] up = inl ([], tt, refl)
parted (n ∷ ns) up = by (cases_lt 1 n)
  where
    by : (1 < n) ⊎ (n ≤ 1) → IsParted (n ∷ ns)
    by (inl later) = inl (less (n ∷ ns), less-ascends 0 (n ∷ ns) (later, up.1), sym (past-less 0 (n ∷ ns) up))
    by (inr le) =
        let is_one : n ≡ 1 = omega (arith, le, up.0) in
        inr (less ns, less-ascends 0 ns (subst (λ k. AscendsPast k ns) is_one up.1), ap (λ k. k ∷ ns) is_one ∙ ap (λ ks. 1 ∷ ks) (sym (past-less n ns up.1)))
