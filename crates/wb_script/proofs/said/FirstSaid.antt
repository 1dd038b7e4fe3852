-- A check that a pass makes finds the first line of which something is so, where it is so of the lines that the pass refuses.
use Rattle.std.proofs.Common.{◌≡◌, ℕ, suc, List, [], ◌∷◌, ◌++◌, length, Option, Some, None, Bool, true, false, refl, sym, ap, subst, ◌∙◌, append_assoc}
use Rattle.std.specs.Prelude.{if◌then◌else◌}
use Rattle.std.specs.Option.{option_map}
use Rattle.wb_tree.specs.declared.script_lines.Form.{Form}
use Rattle.wb_language.specs.FirstLines.{Said, IsOfNone, IsFirstLine, IsOfNoLine}
use Rattle.wb_language.specs.Names.{Text, NamesSoFar, known_after, nothing_known, first_refused}
use Rattle.wb_language.specs.Passes.{first_bad, state_after}
use Rattle.wb_language.specs.Scripts.{number_of_line}
use Rattle.wb_script.proofs.one_script.FaultLaws.{found_line}
use Rattle.wb_script.proofs.names.DeclaredHere.{known_following}

module _ {S L : Type 0} (next : S → L → S) (bad : S → L → Bool) where
  -- where a pass finds nothing, no line is bad
  none_bad : (lines before after : List L) (line : L) (state : S) → first_bad next bad state lines ≡ None → lines ≡ before ++ line ∷ after → bad (state_after next state before) line ≡ false
  none_bad [] [] after line state none parts = let clash : ⊥ = cc in absurd clash
  none_bad [] (x ∷ before) after line state none parts = let clash : ⊥ = cc in absurd clash
  none_bad (l ∷ ls) before after line state none parts =
      go (bad state l) refl (first_bad next bad (next state l) ls) (λ front e split. none_bad ls front after line (next state l) e split) before parts none
    where
      go : (b : Bool) → bad state l ≡ b → (o : Option ℕ) → ((front : List L) → o ≡ None → ls ≡ front ++ line ∷ after → bad (state_after next (next state l) front) line ≡ false) →
          (before : List L) → l ∷ ls ≡ before ++ line ∷ after → (if b then Some 0 else option_map suc o) ≡ None → bad (state_after next state before) line ≡ false
      go true e o rest before parts h = let clash : ⊥ = cc in absurd clash
      go false e (Some i) rest before parts h = let clash : ⊥ = cc in absurd clash
      go false e None rest [] parts h = let same : l ≡ line = cc in subst (λ x. bad state x ≡ false) same e
      go false e None rest (x ∷ before) parts h =
          let first : l ≡ x = cc in
          let split : ls ≡ before ++ line ∷ after = cc in
          subst (λ y. bad (state_after next (next state y) before) line ≡ false) first (rest before refl split)

  -- where it finds a line, that one is bad, and it finds nothing in those before
  bad_here : (lines : List L) (state : S) (n : ℕ) → first_bad next bad state lines ≡ Some n →
      (before after : List L) × (line : L) × (lines ≡ before ++ line ∷ after) × (length before ≡ n) × (bad (state_after next state before) line ≡ true) × (first_bad next bad state before ≡ None)
  bad_here [] state n is = let clash : ⊥ = cc in absurd clash
  bad_here (l ∷ ls) state n is = go (bad state l) refl (first_bad next bad (next state l) ls) (bad_here ls (next state l)) is
    where
      go : (b : Bool) → bad state l ≡ b → (o : Option ℕ) →
          ((m : ℕ) → o ≡ Some m → (before after : List L) × (line : L) × (ls ≡ before ++ line ∷ after) × (length before ≡ m) × (bad (state_after next (next state l) before) line ≡ true) × (first_bad next bad (next state l) before ≡ None)) →
          (if b then Some 0 else option_map suc o) ≡ Some n →
          (before after : List L) × (line : L) × (l ∷ ls ≡ before ++ line ∷ after) × (length before ≡ n) × (bad (state_after next state before) line ≡ true) × (first_bad next bad state before ≡ None)
      go true e o rest h = let same : 0 ≡ n = cc in ([], ls, l, refl, same, e, refl)
      go false e None rest h = let clash : ⊥ = cc in absurd clash
      go false e (Some m) rest h =
          let (before, after, line, parts, at, is, none) = rest m refl in
          let same : suc m ≡ n = cc in
          (l ∷ before, after, line, ap (λ t. l ∷ t) parts, ap suc at ∙ same, is, ap (λ (b : Bool). if b then Some 0 else option_map suc (first_bad next bad (next state l) before)) e ∙ ap (option_map suc) none)

module _ (said : Said) (bad : NamesSoFar → Form Text → Bool) (forms : List (Form Text)) where
  -- the pass refuses a line exactly if it is so of it
  abbrev pub AreRefused : Type 0
  AreRefused = (before after : List (Form Text)) (form : Form Text) → forms ≡ before ++ form ∷ after →
      (bad (known_following before) form ≡ true → said forms before form) × (said forms before form → bad (known_following before) form ≡ true)

  module _ (agree : AreRefused) where
    -- it is so of no line of the first ones, where the pass refuses none of these
    so_of_none : (lines rest : List (Form Text)) → forms ≡ lines ++ rest → first_refused bad lines ≡ None → IsOfNone said forms lines
    so_of_none lines rest whole none before after form parts is =
        let split : forms ≡ before ++ form ∷ (after ++ rest) = whole ∙ ap (λ l. l ++ rest) parts ∙ append_assoc before (form ∷ after) rest in
        let refused = (agree before (after ++ rest) form split).1 is in
        let passed = none_bad known_after bad lines before after form nothing_known none parts in
        cc (refused, passed)

    pub first_said : (n : ℕ) → number_of_line (first_refused bad forms) ≡ Some n → IsFirstLine said forms n
    first_said n is =
        let (index, found, number) = found_line (first_refused bad forms) n is in
        let (before, after, form, parts, at, refused, none) = bad_here known_after bad forms nothing_known index found in
        (before, after, form, parts, sym (ap suc at ∙ number), (agree before after form parts).0 refused, so_of_none before (form ∷ after) parts none)

    pub none_said : first_refused bad forms ≡ None → IsOfNoLine said forms
    none_said none = so_of_none forms [] (nothing_more forms) none
      where
        nothing_more : (lines : List (Form Text)) → lines ≡ lines ++ []
        nothing_more [] = refl
        nothing_more (l ∷ ls) = ap (λ t. l ∷ t) (nothing_more ls)
