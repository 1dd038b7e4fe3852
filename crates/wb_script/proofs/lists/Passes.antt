-- The steps of a loop that makes a pass.
use Rattle.std.proofs.Common.{◌≡◌, ℕ, suc, ◌+◌, ◌<◌, ◌≤◌, List, [], ◌∷◌, length, get_or, drop, map, Option, Some, None, Bool, true, false, refl, ap, ◌∙◌, arith, add-zero, add-one, drop-cons, ◌++◌, take, sym}
use Rattle.std.proofs.lemmas.List.{drop_all, take_more, map-append}
use Rattle.std.specs.Prelude.{if◌then◌else◌}
use Rattle.std.specs.Option.{option_map}
use Rattle.wb_language.specs.Passes.{first_bad, each_with, state_after}
use Rattle.wb_language.specs.Scripts.{number_of_line}
use Rattle.wb_script.specs.Checks.{or_here}

shifted : (i : ℕ) (o : Option ℕ) → option_map (λ n. i + n) (option_map suc o) ≡ option_map (λ n. suc i + n) o
shifted i None = refl
shifted i (Some n) = ap Some (omega arith)

module _ {S L V : Type 0} (view : V → L) (next : S → L → S) (bad : S → L → Bool) where
  -- what is found from line i on, in a state
  abbrev pub found_from : List V → ℕ → S → Option ℕ
  found_from lines i state = option_map (λ n. i + n) (first_bad next bad state (map view (drop i lines)))

  pub found_here : (lines : List V) (i : ℕ) (state : S) (d : V) → i < length lines → bad state (view (get_or lines i d)) ≡ true → found_from lines i state ≡ Some i
  found_here lines i state d lt is = rw (drop-cons lines i d lt) (rw is (ap Some (add-zero i)))

  pub found_later : (lines : List V) (i : ℕ) (state : S) (d : V) → i < length lines → bad state (view (get_or lines i d)) ≡ false → found_from lines i state ≡ found_from lines (i + 1) (next state (view (get_or lines i d)))
  found_later lines i state d lt is = rw (drop-cons lines i d lt) (rw is (rw (add-one i) (shifted i (first_bad next bad (next state (view (get_or lines i d))) (map view (drop (suc i) lines))))))

  pub found_none : (lines : List V) (i : ℕ) (state : S) → length lines ≤ i → found_from lines i state ≡ None
  found_none lines i state le = rw (drop_all i lines le) refl

-- what one more line is to a pass over the lines before it
module _ {S L : Type 0} (next : S → L → S) where
  pub state_last : (lines : List L) (line : L) (state : S) → state_after next state (lines ++ line ∷ []) ≡ next (state_after next state lines) line
  state_last [] line state = refl
  state_last (l ∷ ls) line state = state_last ls line (next state l)

  pub each_last : {M : Type 0} (out : S → L → M) (lines : List L) (line : L) (state : S) → each_with next out state (lines ++ line ∷ []) ≡ each_with next out state lines ++ out (state_after next state lines) line ∷ []
  each_last out [] line state = refl
  each_last out (l ∷ ls) line state = ap (λ xs. out state l ∷ xs) (each_last out ls line (next state l))

  pub each_length : {M : Type 0} (out : S → L → M) (lines : List L) (state : S) → length (each_with next out state lines) ≡ length lines
  each_length out [] state = refl
  each_length out (l ∷ ls) state = ap suc (each_length out ls (next state l))

  pub first_last : (bad : S → L → Bool) (lines : List L) (line : L) (state : S) → number_of_line (first_bad next bad state (lines ++ line ∷ [])) ≡ or_here (number_of_line (first_bad next bad state lines)) (suc (length lines)) (bad (state_after next state lines) line)
  first_last bad [] line state = go (bad state line)
    where
      go : (b : Bool) → number_of_line (if b then Some 0 else None) ≡ or_here None 1 b
      go true = refl
      go false = refl
  first_last bad (l ∷ ls) line state = go (bad state l) (first_bad next bad (next state l) (ls ++ line ∷ [])) (first_bad next bad (next state l) ls) (first_last bad ls line (next state l))
    where
      later : (o : Option ℕ) (n : ℕ) (b : Bool) → option_map suc (or_here o n b) ≡ or_here (option_map suc o) (suc n) b
      later (Some first) n b = refl
      later None n true = refl
      later None n false = refl

      go : (b : Bool) (long short : Option ℕ) → number_of_line long ≡ or_here (number_of_line short) (suc (length ls)) (bad (state_after next (next state l) ls) line) →
          number_of_line (if b then Some 0 else option_map suc long) ≡ or_here (number_of_line (if b then Some 0 else option_map suc short)) (suc (suc (length ls))) (bad (state_after next (next state l) ls) line)
      go true long short same = refl
      go false long short same = ap (option_map suc) same ∙ later (number_of_line short) (suc (length ls)) (bad (state_after next (next state l) ls) line)

-- one more element under a function that maps each
pub map_more : {A B : Type 0} (f : A → B) (xs : List A) (n : ℕ) (x : A) → n < length xs → x ≡ get_or xs n x → map f (take (n + 1) xs) ≡ map f (take n xs) ++ f x ∷ []
map_more f xs n x lt is = ap (map f) (take_more xs n x lt ∙ ap (λ y. take n xs ++ y ∷ []) (sym is)) ∙ map-append f (take n xs) (x ∷ [])
