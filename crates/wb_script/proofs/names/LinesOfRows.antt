-- The lines of rows: with one more, the first and the last of them.
use Rattle.std.proofs.Common.{◌≡◌, refl, sym, ap, subst, ◌∙◌, ℕ, zero, suc, ◌+◌, ◌-◌, ◌<◌, ◌≤◌, List, [], ◌∷◌, ◌++◌, length, get_or, take, drop, arith, add-one, append-nil, take-append-drop}
use Rattle.std.proofs.lemmas.List.{drop_all, drop_more, drop-append-le, length-drop, length-take, same_from_push, take_all, take_more, take-append-le}
use Rattle.wb_tree.specs.declared.script_lines.Form.{Form}
use Rattle.wb_tree.specs.declared.script_lines.Operand.{Operand}
use Rattle.wb_tree.specs.declared.script_lines.Referent.{Referent}
use Rattle.wb_script.specs.declared.checks.resolved_lines.Row.{Row}
use Rattle.wb_script.specs.ResolvedLines.{count_of, counted_in, lines_of_rows, with_operands}

pub one_more_counted : (rows : List Row) (r : Row) → counted_in (rows ++ r ∷ []) ≡ counted_in rows + count_of r
one_more_counted [] r = omega arith
one_more_counted (q ∷ rows) r = omega (arith, one_more_counted rows r)

-- there is a line for each row
pub one_for_each : (rows : List Row) (operands : List (Operand Referent)) → length (lines_of_rows rows operands) ≡ length rows
one_for_each [] operands = refl
one_for_each (r ∷ rows) operands = ap suc (one_for_each rows (drop (count_of r) operands))

-- one more row, whose line has these operands
pub one_more_line : (rows : List Row) (operands : List (Operand Referent)) (r : Row) (more : List (Operand Referent)) → counted_in rows ≡ length operands → count_of r ≡ length more →
    lines_of_rows (rows ++ r ∷ []) (operands ++ more) ≡ lines_of_rows rows operands ++ with_operands r more ∷ []
one_more_line [] [] r more whole counted = ap (λ l. with_operands r l ∷ []) (take_all (count_of r) more (omega (arith, counted)))
one_more_line [] (o ∷ operands) r more whole counted = let clash : ⊥ = omega (arith, whole) in absurd clash
one_more_line (q ∷ rows) operands r more whole counted =
    let enough : count_of q ≤ length operands = omega (arith, whole) in
    let rest : counted_in rows ≡ length (drop (count_of q) operands) = omega (arith, whole, length-drop (count_of q) operands) in
    rw (take-append-le (count_of q) operands more enough, drop-append-le (count_of q) operands more enough)
    (ap (λ l. with_operands q (take (count_of q) operands) ∷ l) (one_more_line rows (drop (count_of q) operands) r more rest counted))

-- one more row, whose line has no operands
pub one_more_bare : (rows : List Row) (operands : List (Operand Referent)) (r : Row) → counted_in rows ≡ length operands → count_of r ≡ 0 →
    lines_of_rows (rows ++ r ∷ []) operands ≡ lines_of_rows rows operands ++ with_operands r [] ∷ []
one_more_bare rows operands r whole none = ap (lines_of_rows (rows ++ r ∷ [])) (sym (append-nil operands)) ∙ one_more_line rows operands r [] whole none

-- the line of the last row has the last operands
last_of : (front : List Row) (r : Row) (operands : List (Operand Referent)) (before : List (Form Referent)) (line : Form Referent) → counted_in (front ++ r ∷ []) ≡ length operands →
    lines_of_rows (front ++ r ∷ []) operands ≡ before ++ line ∷ [] → with_operands r (drop (length operands - count_of r) operands) ≡ line
last_of front r operands before line whole lines =
    let at = length operands - count_of r in
    let counted : counted_in front + count_of r ≡ length operands = sym (one_more_counted front r) ∙ whole in
    let front_is : counted_in front ≡ length (take at operands) = omega (arith, counted, length-take at operands) in
    let last_is : count_of r ≡ length (drop at operands) = omega (arith, counted, length-drop at operands) in
    (same_from_push _ _ _ _ (sym (one_more_line front (take at operands) r (drop at operands) front_is last_is) ∙ ap (lines_of_rows (front ++ r ∷ [])) (take-append-drop at operands) ∙ lines)).1

-- the last row stands after the others
last_after : (rows : List Row) (r : Row) → 0 < length rows → r ≡ get_or rows (length rows - 1) r → rows ≡ take (length rows - 1) rows ++ r ∷ []
last_after rows r some is =
    sym (take_all (length rows - 1 + 1) rows (omega arith))
    ∙ take_more rows (length rows - 1) r (omega (arith, some))
    ∙ ap (λ q. take (length rows - 1) rows ++ q ∷ []) (sym is)

pub last_line : (rows : List Row) (r : Row) (operands : List (Operand Referent)) (before : List (Form Referent)) (line : Form Referent) → counted_in rows ≡ length operands → 0 < length rows →
    r ≡ get_or rows (length rows - 1) r → lines_of_rows rows operands ≡ before ++ line ∷ [] → with_operands r (drop (length operands - count_of r) operands) ≡ line
last_line rows r operands before line whole some is lines =
    let parted = last_after rows r some is in
    last_of (take (length rows - 1) rows) r operands before line (ap counted_in (sym parted) ∙ whole) (ap (λ l. lines_of_rows l operands) (sym parted) ∙ lines)

-- as many operands are there as the last line has
pub last_counted : (rows : List Row) (r : Row) → 0 < length rows → r ≡ get_or rows (length rows - 1) r → count_of r ≤ counted_in rows
last_counted rows r some is = omega (arith, ap counted_in (last_after rows r some is) ∙ one_more_counted (take (length rows - 1) rows) r)

-- what stands in front of what is left of a list is its next element
record IsNext {X : Type 0} (xs : List X) (i : ℕ) (x : X) (later : List X) : Type 0 where
  pub within : i < length xs
  pub here : x ≡ get_or xs i x
  pub rest : drop (i + 1) xs ≡ later

next_of : {X : Type 0} (xs : List X) (i : ℕ) (x : X) (later : List X) → drop i xs ≡ x ∷ later → IsNext xs i x later
next_of {X = X} xs i x later is = record {
  within = within xs i is;
  here = here xs i is;
  rest = ap (λ n. drop n xs) (add-one i) ∙ rest xs i is;
}
  where
    within : (xs : List X) (i : ℕ) → drop i xs ≡ x ∷ later → i < length xs
    within [] zero is = let clash : ⊥ = cc in absurd clash
    within [] (suc i) is = let clash : ⊥ = cc in absurd clash
    within (y ∷ xs) zero is = omega arith
    within (y ∷ xs) (suc i) is = omega (arith, within xs i is)

    here : (xs : List X) (i : ℕ) → drop i xs ≡ x ∷ later → x ≡ get_or xs i x
    here [] i is = refl
    here (y ∷ xs) zero is = cc
    here (y ∷ xs) (suc i) is = here xs i is

    rest : (xs : List X) (i : ℕ) → drop i xs ≡ x ∷ later → drop (suc i) xs ≡ later
    rest [] zero is = let clash : ⊥ = cc in absurd clash
    rest [] (suc i) is = let clash : ⊥ = cc in absurd clash
    rest (y ∷ xs) zero is = cc
    rest (y ∷ xs) (suc i) is = rest xs i is

-- the lines of the rows from an index on, with the operands that are left, are those from there on
pub record AreLeft (rows : List Row) (i : ℕ) (operands : List (Operand Referent)) (lines : List (Form Referent)) : Type 0 where
  pub left : lines_of_rows (drop i rows) operands ≡ drop i lines
  pub counted : counted_in (drop i rows) ≡ length operands

module _ (rows : List Row) (i : ℕ) (operands : List (Operand Referent)) (lines : List (Form Referent)) (are : AreLeft rows i operands lines) where
  -- after the last row no line is left
  pub all_taken : length rows ≤ i → take i lines ≡ lines
  all_taken past =
      let none : drop i lines ≡ [] = sym are.left ∙ ap (λ l. lines_of_rows l operands) (drop_all i rows past) in
      sym (append-nil (take i lines)) ∙ ap (λ l. take i lines ++ l) (sym none) ∙ take-append-drop i lines

  module _ (d : Row) (lt : i < length rows) where
    abbrev next : Row
    next = get_or rows i d

    rows_left : drop i rows ≡ next ∷ drop (i + 1) rows
    rows_left = drop_more rows i d lt

    counted_left : count_of next + counted_in (drop (i + 1) rows) ≡ length operands
    counted_left = ap counted_in (sym rows_left) ∙ are.counted

    -- the next line takes its operands from the front of those that are left
    pub enough_left : count_of next ≤ length operands
    enough_left = omega (arith, counted_left)

    line_left : IsNext lines i (with_operands next (take (count_of next) operands)) (lines_of_rows (drop (i + 1) rows) (drop (count_of next) operands))
    line_left = next_of lines i _ _ (sym are.left ∙ ap (λ l. lines_of_rows l operands) rows_left)

    pub line_within : i < length lines
    line_within = line_left.within

    pub line_here : (line : Form Referent) → line ≡ with_operands next (take (count_of next) operands) → line ≡ get_or lines i line
    line_here line same = subst (λ l. l ≡ get_or lines i l) (sym same) line_left.here

    pub later_left : (later : List (Operand Referent)) → later ≡ drop (count_of next) operands → AreLeft rows (i + 1) later lines
    later_left later same = record {
      left = ap (lines_of_rows (drop (i + 1) rows)) same ∙ sym line_left.rest;
      counted = omega (arith, counted_left, ap length same ∙ length-drop (count_of next) operands);
    }
