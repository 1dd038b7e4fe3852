-- One more line of a script: what it adds, where it leads, and that it fits.
use Rattle.std.proofs.Common.{◌≡◌, refl, ℕ, zero, suc, ◌+◌, ◌<◌, List, [], ◌∷◌, ◌++◌, length, take, get_or, map, Option, Some, None, Bool, true, false, not, IsTrue, sym, ap, ◌∙◌, append-nil, append_assoc, add-zero, add-one, arith}
use Rattle.std.specs.Prelude.{if◌then◌else◌}
use Rattle.std.specs.Option.{option_map}
use Rattle.std.proofs.lemmas.List.{take_more, take-map, get_or-map, length-map, length-take}
use Rattle.wb_tree.specs.declared.script_lines.Role.TheVariants as role
use Rattle.wb_language.specs.Forms.{role_of_form}
use Rattle.wb_language.specs.Grammar.{IsGrammatical}
use Rattle.wb_language.specs.Passes.{first_bad, state_after}
use Rattle.wb_tree.specs.Sound.{Declared}
use Rattle.wb_language.specs.Trees.{Indexed, counted, counted_from}
use Rattle.wb_nesting.specs.declared.open.Open.{Open}
use Rattle.wb_script.specs.Building.{AllFit, counts_of, fits, unfit, counts_after, nothing_counted}
use Rattle.wb_nesting.specs.Machine.{after_line}
use Rattle.wb_nesting.proofs.Misfits.{blocks_after, one_line, never_stuck}

counted_last : (number : ℕ) (lines : List Indexed) (line : Indexed) → counted_from number (lines ++ line ∷ []) ≡ counted_from number lines ++ counted (number + length lines) line
counted_last number [] line = append-nil (counted number line) ∙ ap (λ n. counted n line) (sym (add-zero number))
counted_last number (l ∷ ls) line =
    let same : suc number + length ls ≡ number + suc (length ls) = omega arith in
    ap (λ more. counted number l ++ more) (counted_last (suc number) ls line ∙ ap (λ n. counted_from (suc number) ls ++ counted n line) same)
    ∙ sym (append_assoc (counted number l) (counted_from (suc number) ls) (counted (number + suc (length ls)) line))

pub counted_more : (lines : List Indexed) (n : ℕ) (line : Indexed) → n < length lines → line ≡ get_or lines n line → counted_from 1 (take (n + 1) lines) ≡ counted_from 1 (take n lines) ++ counted (n + 1) line
counted_more lines n line lt is =
    let number : 1 + length (take n lines) ≡ n + 1 = omega (arith, length-take n lines) in
    ap (counted_from 1) (take_more lines n line lt ∙ ap (λ l. take n lines ++ l ∷ []) (sym is))
    ∙ counted_last 1 (take n lines) line
    ∙ ap (λ k. counted_from 1 (take n lines) ++ counted k line) number

pub line_step : (lines : List Indexed) (n : ℕ) (line : Indexed) (stack : List Open) → n < length lines → line ≡ get_or lines n line → blocks_after (map role_of_form (take n lines)) ≡ Some stack → blocks_after (map role_of_form (take (n + 1) lines)) ≡ after_line stack (role_of_form line)
line_step lines n line stack lt here is =
    let longer : n < length (map role_of_form lines) = simp length-map lt in
    ap blocks_after (sym (take-map role_of_form (n + 1) lines))
    ∙ one_line (map role_of_form lines) n (role_of_form line) stack longer (get_or-map role_of_form lines n line role.Skip lt ∙ ap role_of_form (sym here)) (ap blocks_after (take-map role_of_form n lines) ∙ is)

pub never_none : (lines : List Indexed) (n : ℕ) → IsGrammatical (map role_of_form lines) → blocks_after (map role_of_form (take n lines)) ≡ None → ⊥
never_none lines n f is = never_stuck (map role_of_form lines) n f (ap blocks_after (take-map role_of_form n lines) ∙ is)

pub good_first : (b : Bool) (o : Option ℕ) → (if b then Some 0 else option_map suc o) ≡ None → (b ≡ false) × (o ≡ None)
good_first true o e = let clash : ⊥ = cc in absurd clash
good_first false None e = (refl, refl)
good_first false (Some n) e = let clash : ⊥ = cc in absurd clash

module _ {S L : Type 0} (next : S → L → S) (bad : S → L → Bool) where
  -- where no line is bad, each is good in the state after the lines before it
  never_bad : (lines : List L) (state : S) (n : ℕ) (d : L) → first_bad next bad state lines ≡ None → n < length lines → bad (state_after next state (take n lines)) (get_or lines n d) ≡ false
  never_bad [] state n d good lt = absurd (omega arith)
  never_bad (line ∷ lines) state zero d good lt = (good_first (bad state line) (first_bad next bad (next state line) lines) good).0
  never_bad (line ∷ lines) state (suc n) d good lt = never_bad lines (next state line) n d (good_first (bad state line) (first_bad next bad (next state line) lines) good).1 (omega arith)

module _ {S L : Type 0} (next : S → L → S) where
  state_more : (lines : List L) (state : S) (n : ℕ) (d : L) → n < length lines → state_after next state (take (suc n) lines) ≡ next (state_after next state (take n lines)) (get_or lines n d)
  state_more [] state n d lt = absurd (omega arith)
  state_more (line ∷ lines) state zero d lt = refl
  state_more (line ∷ lines) state (suc n) d lt = state_more lines (next state line) n d (omega arith)

pub line_fits : (declared : Declared) (lines : List Indexed) (n : ℕ) (line : Indexed) → AllFit declared lines → n < length lines → line ≡ get_or lines n line → IsTrue (fits declared (counts_of (take n lines)) line)
line_fits declared lines n line all lt is = go (fits declared (counts_of (take n lines)) line) (ap (unfit declared (counts_of (take n lines))) is ∙ never_bad counts_after (unfit declared) lines nothing_counted n line all lt)
  where
    go : (b : Bool) → not b ≡ false → IsTrue b
    go true e = refl
    go false e = let clash : ⊥ = cc in absurd clash

pub counts_more : (lines : List Indexed) (n : ℕ) (line : Indexed) → n < length lines → line ≡ get_or lines n line → counts_of (take (n + 1) lines) ≡ counts_after (counts_of (take n lines)) line
counts_more lines n line lt is = rw (add-one n) (state_more counts_after lines nothing_counted n line lt ∙ ap (counts_after (counts_of (take n lines))) (sym is))
