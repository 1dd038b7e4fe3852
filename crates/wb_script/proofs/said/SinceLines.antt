-- The lines from the last that begins something on.
use Rattle.std.proofs.Common.{◌≡◌, List, [], ◌∷◌, ◌++◌, Bool, true, false, ◌||◌, ◌⊎◌, inl, inr, refl, sym, ap, subst, ◌∙◌, append_assoc, append-nil}
use Rattle.std.specs.Prelude.{if◌then◌else◌}
use Rattle.std.specs.List.{list_any}
use Rattle.std.proofs.lemmas.List.Folds.{list_any-append}
use Rattle.wb_script.proofs.names.AbsentNames.{or_false}

pub neither : (a b : Bool) → (a || b) ≡ false → (a ≡ false) × (b ≡ false)
neither true b is = let clash : ⊥ = cc in absurd clash
neither false b is = (refl, is)

pub either_false : (a b : Bool) → a ≡ false → b ≡ false → (a || b) ≡ false
either_false true b is other = is
either_false false b is other = other

-- an element that passes, in its place
pub found_in : {X : Type 0} (p : X → Bool) (xs : List X) → list_any p xs ≡ true → (before after : List X) × (x : X) × (xs ≡ before ++ x ∷ after) × (p x ≡ true)
found_in p [] is = let clash : ⊥ = cc in absurd clash
found_in p (x ∷ xs) is = go (p x) refl (found_in p xs) is
  where
    go : {X : Type 0} {p : X → Bool} {x : X} {xs : List X} (b : Bool) → p x ≡ b → (list_any p xs ≡ true → (before after : List X) × (y : X) × (xs ≡ before ++ y ∷ after) × (p y ≡ true)) → (b || list_any p xs) ≡ true →
        (before after : List X) × (y : X) × (x ∷ xs ≡ before ++ y ∷ after) × (p y ≡ true)
    go {x = x} {xs = xs} true e later h = ([], xs, x, refl, e)
    go {x = x} false e later h = let (before, after, y, parts, passes) = later h in (x ∷ before, after, y, ap (λ l. x ∷ l) parts, passes)

pub passes_in : {X : Type 0} (p : X → Bool) (before after : List X) (x : X) → p x ≡ true → list_any p (before ++ x ∷ after) ≡ true
passes_in p [] after x is = ap (λ b. b || list_any p after) is
passes_in p (y ∷ before) after x is = go (p y) (passes_in p before after x is)
  where
    go : {rest : Bool} (b : Bool) → rest ≡ true → (b || rest) ≡ true
    go true e = refl
    go false e = e

module _ {X : Type 0} (begins : X → Bool) where
  -- with one more line
  abbrev pub since_after : List X → X → List X
  since_after since line = if begins line then line ∷ [] else since ++ line ∷ []

  abbrev pub since_from : List X → List X → List X
  since_from since [] = since
  since_from since (line ∷ lines) = since_from (since_after since line) lines

  -- the lines from the last that begins on, or all of them
  abbrev pub lines_since : List X → List X
  lines_since lines = since_from [] lines

  -- the last lines of all: from the first of these on none begins, and this one does or is the first of all
  pub data AreSince : List X → List X → Type 0 where
    no_lines : AreSince [] []
    last_lines : (earlier inside : List X) (head : X) → list_any begins inside ≡ false → (begins head ≡ true) ⊎ (earlier ≡ []) → AreSince (earlier ++ head ∷ inside) (head ∷ inside)

  with_line : (lines since : List X) (line : X) → AreSince lines since → AreSince (lines ++ line ∷ []) (since_after since line)
  with_line lines since line is = go (begins line) refl is
    where
      go : {lines since : List X} (b : Bool) → begins line ≡ b → AreSince lines since → AreSince (lines ++ line ∷ []) (if b then line ∷ [] else since ++ line ∷ [])
      go {lines = lines} true e is = AreSince.last_lines lines [] line refl (inl e)
      go false e AreSince.no_lines = AreSince.last_lines [] [] line refl (inr refl)
      go false e (AreSince.last_lines earlier inside head none first) =
          let not_inside : list_any begins (inside ++ line ∷ []) ≡ false = list_any-append begins inside (line ∷ []) ∙ either_false (list_any begins inside) (begins line || false) none (or_false (begins line) ∙ e) in
          subst (λ l. AreSince l (head ∷ (inside ++ line ∷ []))) (sym (append_assoc earlier (head ∷ inside) (line ∷ []))) (AreSince.last_lines earlier (inside ++ line ∷ []) head not_inside first)

  since_more : (lines since more : List X) → AreSince lines since → AreSince (lines ++ more) (since_from since more)
  since_more lines since [] is = subst (λ l. AreSince l since) (sym (append-nil lines)) is
  since_more lines since (line ∷ more) is =
      subst (λ l. AreSince l (since_from (since_after since line) more)) (append_assoc lines (line ∷ []) more) (since_more (lines ++ line ∷ []) (since_after since line) more (with_line lines since line is))

  pub they_are_since : (lines : List X) → AreSince lines (lines_since lines)
  they_are_since lines = since_more [] [] lines AreSince.no_lines

  -- the other way round: which lines these are
  since_parts : (since first more : List X) → since_from since (first ++ more) ≡ since_from (since_from since first) more
  since_parts since [] more = refl
  since_parts since (line ∷ first) more = since_parts (since_after since line) first more

  pub none_begins : (since more : List X) → list_any begins more ≡ false → since_from since more ≡ since ++ more
  none_begins since [] none = sym (append-nil since)
  none_begins since (line ∷ more) none =
      let (here, later) = neither (begins line) (list_any begins more) none in
      none_begins (since_after since line) more later
      ∙ ap (λ (b : Bool). (if b then line ∷ [] else since ++ line ∷ []) ++ more) here
      ∙ append_assoc since (line ∷ []) more

  pub since_head : (earlier inside : List X) (head : X) → begins head ≡ true → list_any begins inside ≡ false → lines_since (earlier ++ head ∷ inside) ≡ head ∷ inside
  since_head earlier inside head is none =
      since_parts [] earlier (head ∷ inside)
      ∙ none_begins (since_after (lines_since earlier) head) inside none
      ∙ ap (λ (b : Bool). (if b then head ∷ [] else lines_since earlier ++ head ∷ []) ++ inside) is

  -- no line after this one begins, so it is among them, and all after it are
  pub since_holds : (earlier inside : List X) (line : X) → list_any begins inside ≡ false → (front : List X) × (lines_since (earlier ++ line ∷ inside) ≡ front ++ line ∷ inside)
  since_holds earlier inside line none = go (begins line) refl
    where
      whole : (b : Bool) → begins line ≡ b → lines_since (earlier ++ line ∷ inside) ≡ (if b then line ∷ [] else lines_since earlier ++ line ∷ []) ++ inside
      whole b e = since_parts [] earlier (line ∷ inside) ∙ none_begins (since_after (lines_since earlier) line) inside none ∙ ap (λ (b : Bool). (if b then line ∷ [] else lines_since earlier ++ line ∷ []) ++ inside) e

      go : (b : Bool) → begins line ≡ b → (front : List X) × (lines_since (earlier ++ line ∷ inside) ≡ front ++ line ∷ inside)
      go true e = ([], whole true e)
      go false e = (lines_since earlier, whole false e ∙ append_assoc (lines_since earlier) (line ∷ []) inside)

  -- one of them passes, exactly if a line does after which none begins
  module _ (passes : X → Bool) where
    within : {lines since : List X} → AreSince lines since → list_any passes since ≡ true → (earlier later : List X) × (line : X) × (lines ≡ earlier ++ line ∷ later) × (passes line ≡ true) × (list_any begins later ≡ false)
    within AreSince.no_lines is = let clash : ⊥ = cc in absurd clash
    within (AreSince.last_lines earlier inside head none first) is =
        let (before, after, line, parts, here) = found_in passes (head ∷ inside) is in
        (earlier ++ before, after, line, ap (λ l. earlier ++ l) parts ∙ sym (append_assoc earlier before (line ∷ after)), here, later_none before after line parts)
      where
        later_none : (before after : List X) (line : X) → head ∷ inside ≡ before ++ line ∷ after → list_any begins after ≡ false
        later_none [] after line parts = let same : inside ≡ after = cc in subst (λ l. list_any begins l ≡ false) same none
        later_none (x ∷ before) after line parts =
            let same : inside ≡ before ++ line ∷ after = cc in
            let whole : list_any begins (before ++ line ∷ after) ≡ false = subst (λ l. list_any begins l ≡ false) same none in
            (neither (begins line) (list_any begins after) (neither (list_any begins before) (list_any begins (line ∷ after)) (sym (list_any-append begins before (line ∷ after)) ∙ whole)).1).1

    pub passed_since : (lines : List X) → list_any passes (lines_since lines) ≡ true → (earlier later : List X) × (line : X) × (lines ≡ earlier ++ line ∷ later) × (passes line ≡ true) × (list_any begins later ≡ false)
    passed_since lines is = within (they_are_since lines) is

    pub since_passed : (lines earlier later : List X) (line : X) → lines ≡ earlier ++ line ∷ later → passes line ≡ true → list_any begins later ≡ false → list_any passes (lines_since lines) ≡ true
    since_passed lines earlier later line parts is none =
        let (front, whole) = since_holds earlier later line none in
        ap (λ l. list_any passes (lines_since l)) parts ∙ ap (list_any passes) whole ∙ passes_in passes front later line is
