-- What is read of an argument whose values passed.
use Rattle.std.proofs.Common.{◌≡◌, ◌∙◌, inl, inr, Bool, cond, true, false, refl, sym, ap, subst, List, [], ◌∷◌, Option, Some, None}
use Rattle.std.specs.Prelude.{slice_get, find, option_map, option_and_then}
use Rattle.std.specs.Option.{MatchOption}
use Rattle.std.specs.Str.{bytes_eq}
use Rattle.std.proofs.lemmas.Slice.Eq.{bytes_eq-Decides}
use Rattle.clap.specs.Values.{read_as}
use Rattle.clap.specs.Walk.{Row, Rule, Text, first_of, one_of, reading_by, row_text}
use Rattle.clap.proofs.WalkLemmas.{both}
use Rattle.wb_command_line.specs.Passed.{IsIn, RowPasses, RowsPass}
use Rattle.clap.specs.Takes.{value_passes, values_pass}
use Rattle.clap.specs.declared.builder.value_parser.Reading.{Reading}
use Rattle.wb_command_line.proofs.PassedRows.{row_found}

-- ---- what is read of an argument

-- the first value of an argument passed its parser, and is read as the parser says
pub record PassedAs (a : Rule) (value : Text) (read : Option Text) : Type 0 where
  pub passed : value_passes a value ≡ true
  pub as_read : read ≡ Some (read_as (reading_by a) value)

abbrev first_text : Row → Option Text
first_text r = slice_get r.values 0

-- the rule is the only one with this id
abbrev pub IsOnly : List Rule → Text → Rule → Type 0
IsOnly c id a = (x : Rule) → IsIn x c → bytes_eq x.id id ≡ true → x ≡ a

-- the rules with this id
abbrev pub named : Text → List Rule → List Rule
named id [] = []
named id (x ∷ xs) = cond (bytes_eq x.id id) (x ∷ named id xs) (named id xs)

in_named : (c : List Rule) (id : Text) (x : Rule) → IsIn x c → bytes_eq x.id id ≡ true → IsIn x (named id c)
in_named [] id x is_in e = absurd is_in
in_named (y ∷ ys) id x is_in e = elim is_in [
  | inl here ↦ let same : bytes_eq y.id id ≡ true = ap (λ (r : Rule). bytes_eq r.id id) here ∙ e in rw same (inl here)
  | inr there ↦ later (bytes_eq y.id id) (in_named ys id x there e)
]
  where
    later : (b : Bool) → IsIn x (named id ys) → IsIn x (cond b (y ∷ named id ys) (named id ys))
    later true more = inr more
    later false more = more

pub only : (c : List Rule) (id : Text) (a : Rule) → named id c ≡ a ∷ [] → IsOnly c id a
only c id a alone x is_in e = elim (subst (IsIn x) alone (in_named c id x is_in e)) [ inl here ↦ sym here | inr none ↦ absurd none ]

found_has : {X : Type 0} (p : X → Bool) (xs : List X) (x : X) → find p xs ≡ Some x → p x ≡ true
found_has p [] x e = absurd (cc)
found_has p (y ∷ ys) x e = go (p y) refl (found_has p ys x)
  where
    go : (b : Bool) → p y ≡ b → (find p ys ≡ Some x → p x ≡ true) → p x ≡ true
    go true is later =
        let here : Some y ≡ Some x = rw is at e in
        let same : y ≡ x = cc in rw (← same) is
    go false isnt later = later (rw isnt at e)

-- an argument that was not used, or a value that passed
pub first_passed : (c : List Rule) (id : Text) (a : Rule) (rows : List Row) → IsOnly c id a → RowsPass c rows
    → MatchOption (first_of id rows) (one_of id rows ≡ None) (λ t. PassedAs a t (one_of id rows))
first_passed c id a rows only good = go (find (λ r. bytes_eq r.id id) rows) refl
  where
    of_row : (r : Row) → bytes_eq r.id id ≡ true → RowPasses c r → MatchOption (first_text r) (row_text r ≡ None) (λ t. PassedAs a t (row_text r))
    of_row r named passed =
        let row_id : r.id ≡ id = (bytes_eq-Decides r.id id).0 named in
        let is_rule : passed.0 ≡ a = only passed.0 passed.1 (subst (λ t. bytes_eq passed.0.id t ≡ true) row_id passed.2.id) in
        by_values r.values r.reading (sym (ap reading_by is_rule) ∙ sym passed.2.reading) (subst (λ b. values_pass b r.values ≡ true) is_rule passed.2.values)
      where
        by_values : (vs : List Text) (how : Reading) → reading_by a ≡ how → values_pass a vs ≡ true
            → MatchOption (slice_get vs 0) (option_map (read_as how) (slice_get vs 0) ≡ None) (λ t. PassedAs a t (option_map (read_as how) (slice_get vs 0)))
        by_values [] how reads pass = refl
        by_values (v ∷ vs) how reads pass = record { passed = (both (value_passes a v) _ pass).0; as_read = ap (λ h. Some (read_as h v)) (sym reads) }

    go : (o : Option Row) → find (λ r. bytes_eq r.id id) rows ≡ o
        → MatchOption (option_and_then first_text o) (option_and_then row_text o ≡ None) (λ t. PassedAs a t (option_and_then row_text o))
    go None is = refl
    go (Some r) is = of_row r (found_has _ rows r is) (row_found c _ rows r good is)
