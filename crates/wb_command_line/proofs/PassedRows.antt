-- Rows of which each value passed the parser of its argument, and faults that are none.
use Rattle.std.proofs.Common.{◌≡◌, ◌∙◌, inl, inr, Bool, true, false, refl, sym, ap, subst, List, [], ◌∷◌, ◌++◌, Some, None, true≢false}
use Rattle.std.specs.Prelude.{find}
use Rattle.std.specs.List.{list_all}
use Rattle.std.specs.Str.{bytes_eq}
use Rattle.std.proofs.lemmas.Slice.Eq.{bytes_eq-Decides}
use Rattle.clap.specs.ValueTests.{accepts}
use Rattle.clap.specs.Facts.{parser_of_value}
use Rattle.clap.specs.Walk.{Row, Rule, Text, action_of, at_row, has_row, more_values, with_values, without}
use Rattle.clap.proofs.WalkLemmas.{both}
use Rattle.wb_command_line.specs.Passed.{IsIn, RowPasses, RowsPass}
use Rattle.clap.specs.Kinds.{Kinds, or_else, value_kinds}
use Rattle.clap.specs.Faults.{values_fault}
use Rattle.clap.specs.Takes.{value_passes, values_pass}
use Rattle.clap.specs.declared.builder.action.ArgAction.{ArgAction}
use Rattle.clap.specs.declared.builder.action.ArgAction.TheVariants as action
use Rattle.clap.specs.declared.error.kind.ErrorKind.{ErrorKind}
use Rattle.clap.specs.declared.builder.value_parser.Reading.{Reading}
use Rattle.clap.specs.declared.parser.matches.ValueSource.{ValueSource}

-- ---- faults, in their order

pub no_kind : (k : ErrorKind) (ks : Kinds) → k ∷ ks ≡ [] → ⊥
no_kind k ks e = absurd (cc)

pub neither : (a b : Kinds) → or_else a b ≡ [] → (a ≡ []) × (b ≡ [])
neither [] b e = (refl, e)
neither (k ∷ ks) b e = absurd (no_kind k ks e)

-- ---- rules of a list

pub found_in : (p : Rule → Bool) (xs : List Rule) (a : Rule) → find p xs ≡ Some a → IsIn a xs
found_in p [] a e = absurd (cc)
found_in p (x ∷ xs) a e = go (p x) refl (found_in p xs a)
  where
    go : (b : Bool) → p x ≡ b → (find p xs ≡ Some a → IsIn a xs) → IsIn a (x ∷ xs)
    go true is later = let here : Some x ≡ Some a = rw is at e in inl (cc)
    go false isnt later = inr (later (rw isnt at e))

-- a use of the argument neither counts nor adds to what is
abbrev pub is_single : ArgAction → Bool
is_single action.Append = false
is_single action.Count = false
is_single _ = true

abbrev pub are_single : List Rule → Bool
are_single rules = list_all (λ a. is_single (action_of a)) rules

pub single_in : (xs : List Rule) (a : Rule) → are_single xs ≡ true → IsIn a xs → is_single (action_of a) ≡ true
single_in [] a e is_in = absurd is_in
single_in (x ∷ xs) a e is_in =
    let parts = both (is_single (action_of x)) _ e in
    elim is_in [
      | inl here ↦ ap (λ (r : Rule). is_single (action_of r)) (sym here) ∙ parts.0
      | inr there ↦ single_in xs a parts.1 there
    ]

-- ---- rows whose values passed

module _ (c : List Rule) where
  pub one_more : (rows : List Row) (r : Row) → RowsPass c rows → RowPasses c r → RowsPass c (rows ++ r ∷ [])
  one_more [] r rest passed = (passed, tt)
  one_more (x ∷ xs) r rest passed = (rest.0, one_more xs r rest.1 passed)

  pub row_found : (p : Row → Bool) (rows : List Row) (r : Row) → RowsPass c rows → find p rows ≡ Some r → RowPasses c r
  row_found p [] r all e = absurd (cc)
  row_found p (x ∷ xs) r all e = go (p x) refl (row_found p xs r all.1)
    where
      go : (b : Bool) → p x ≡ b → (find p xs ≡ Some r → RowPasses c r) → RowPasses c r
      go true is later =
          let here : Some x ≡ Some r = rw is at e in
          let same : x ≡ r = cc in subst (RowPasses c) same all.0
      go false isnt later = later (rw isnt at e)

at_no_row : (id : Text) (change : Row → List Row) (missing rows : List Row) → has_row id rows ≡ false → at_row id change missing rows ≡ rows ++ missing
at_no_row id change missing [] e = refl
at_no_row id change missing (r ∷ rs) e = go (bytes_eq r.id id) refl (at_no_row id change missing rs)
  where
    go : (b : Bool) → bytes_eq r.id id ≡ b → (has_row id rs ≡ false → at_row id change missing rs ≡ rs ++ missing) → at_row id change missing (r ∷ rs) ≡ (r ∷ rs) ++ missing
    go true is later = absurd (true≢false (rw is at e))
    go false isnt later = rw isnt (ap (λ l. r ∷ l) (later (rw isnt at e)))

append_none : (rows : List Row) → rows ++ [] ≡ rows
append_none [] = refl
append_none (r ∷ rs) = ap (λ l. r ∷ l) (append_none rs)

-- a first use adds a row
pub first_use : (id : Text) (how : Reading) (s : ValueSource) (values : List Text) (rows : List Row) → has_row id rows ≡ false
    → with_values id how s values (without id rows) ≡ rows ++ (record { id = id; values = values; count = None; source = Some s; reading = how }) ∷ []
first_use id how s values rows e =
    let kept : without id rows ≡ rows = at_no_row id (λ _. []) [] rows e ∙ append_none rows in
    ap (with_values id how s values) kept ∙ at_no_row id (more_values s values) _ rows e

pub first_default : (id : Text) (how : Reading) (s : ValueSource) (values : List Text) (rows : List Row) → has_row id rows ≡ false
    → with_values id how s values rows ≡ rows ++ (record { id = id; values = values; count = None; source = Some s; reading = how }) ∷ []
first_default id how s values rows e = at_no_row id (more_values s values) _ rows e

pub same_text : (t : Text) → bytes_eq t t ≡ true
same_text t = (bytes_eq-Decides t t).1 refl

faultless_value : (a : Rule) (v : Text) → value_kinds a.ignore_case (parser_of_value a.parser) v ≡ [] → value_passes a v ≡ true
faultless_value a v e = go (accepts a.ignore_case (parser_of_value a.parser) v) refl
  where
    go : (b : Bool) → accepts a.ignore_case (parser_of_value a.parser) v ≡ b → value_passes a v ≡ true
    go true is = is
    go false isnt = absurd (no_kind _ _ (rw isnt at e))

pub faultless_values : (a : Rule) (vs : List Text) → values_fault a vs ≡ [] → values_pass a vs ≡ true
faultless_values a [] e = refl
faultless_values a (v ∷ vs) e =
    let parts = neither (value_kinds a.ignore_case (parser_of_value a.parser) v) _ e in
    rw (faultless_value a v parts.0) (faultless_values a vs parts.1)
