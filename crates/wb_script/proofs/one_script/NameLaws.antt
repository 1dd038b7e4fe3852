-- The first unknown name is the first that its body, its class or the script doesn't declare.
use Rattle.std.proofs.Common.{◌≡◌, ℕ, suc, ◌≤◌, List, [], ◌∷◌, ◌++◌, length, Option, Some, None, Bool, true, false, not, ◌||◌, ◌⊎◌, inl, inr, refl, sym, ap, subst, ◌∙◌, arith}
use Rattle.std.specs.Prelude.{if◌then◌else◌}
use Rattle.std.specs.Option.{option_map}
use Rattle.std.specs.List.{list_all, list_any}
use Rattle.std.specs.Str.{bytes_eq}
use Rattle.std.proofs.lemmas.List.Folds.{list_all-append}
use Rattle.std.proofs.lemmas.Slice.Eq.{bytes_eq-Decides}
use Rattle.wb_tree.specs.declared.script_lines.Form.{Form}
use Rattle.wb_language.specs.declared.fault.ScriptFault.TheVariants.{UnknownName}
use Rattle.wb_tree.specs.declared.script.Script.{Script}
use Rattle.wb_language.specs.Forms.{forms_of}
use Rattle.wb_language.specs.Lines.{lines_of, is_too_long}
use Rattle.wb_language.specs.Scripts.{IsScriptOf, IsFaultOf, number_of_line, first_unknown}
use Rattle.wb_language.specs.Names.{Text, NamesSoFar, Declaration, known_after, nothing_known, is_among, items_of, names_of, first_refused}
use Rattle.wb_language.specs.Passes.{first_bad, state_after}
use Rattle.wb_language.specs.Resolved.{uses_unknown}
use Rattle.wb_language.specs.Undeclared.{local_used, item_used, used_in, IsDeclared, uses_undeclared_field, UsesUndeclared, UsesDeclaredUpTo, IsFirstUndeclaredLine}
use Rattle.wb_lines.specs.Typed.{is_typed, AreTyped}
use Rattle.wb_lines.proofs.Cuts.{lines_within}
use Rattle.wb_script.proofs.one_script.FaultLaws.{found_line}
use Rattle.wb_lines.proofs.Foreign.{at_most}
use Rattle.wb_lines.proofs.TypedLemmas.{both, lines_typed}
use Rattle.wb_script.proofs.names.ResolvedLemmas.{names_and_kinds}
use Rattle.wb_script.proofs.names.AbsentNames.{absent, is_known_here, absent_here, unknown_is_absent}
use Rattle.wb_script.proofs.names.DeclaredHere.{either_true, known_following, declared_is, is_declared}

-- one of the names passes a test, and it is among them
some_name : (p : Text → Bool) (names : List Text) → list_any p names ≡ true → (name : Text) × (is_among names name ≡ true) × (p name ≡ true)
some_name p [] is = let clash : ⊥ = cc in absurd clash
some_name p (n ∷ ns) is = go (p n) refl (some_name p ns) is
  where
    go : (b : Bool) → p n ≡ b → (list_any p ns ≡ true → (name : Text) × (is_among ns name ≡ true) × (p name ≡ true)) → (b || list_any p ns) ≡ true → (name : Text) × (is_among (n ∷ ns) name ≡ true) × (p name ≡ true)
    go true e others h = (n, rw ((bytes_eq-Decides n n).1 refl) refl, e)
    go false e others h = let (name, among, passes) = others h in (name, later (bytes_eq n name) among, passes)
      where
        later : {rest : Bool} (b : Bool) → rest ≡ true → (b || rest) ≡ true
        later true e = refl
        later false e = e

any_of : (p : Text → Bool) (names : List Text) (name : Text) → is_among names name ≡ true → p name ≡ true → list_any p names ≡ true
any_of p [] name among passes = let clash : ⊥ = cc in absurd clash
any_of p (n ∷ ns) name among passes = go (bytes_eq n name) (λ e. (bytes_eq-Decides n name).0 e) (λ h. any_of p ns name h passes) among
  where
    later : {rest : Bool} (b : Bool) → rest ≡ true → (b || rest) ≡ true
    later true e = refl
    later false e = e

    go : (b : Bool) → (b ≡ true → n ≡ name) → (is_among ns name ≡ true → list_any p ns ≡ true) → (b || is_among ns name) ≡ true → (p n || list_any p ns) ≡ true
    go true same others h = rw (ap p (same refl) ∙ passes) refl
    go false same others h = later (p n) (others h)

-- which of two holds
which : (a b : Bool) → (a || b) ≡ true → (a ≡ true) ⊎ (b ≡ true)
which true b is = inl refl
which false b is = inr is

not_true : (b : Bool) → not b ≡ true → b ≡ false
not_true true is = let clash : ⊥ = cc in absurd clash
not_true false is = refl

is_false : (b : Bool) → (b ≡ true → ⊥) → b ≡ false
is_false true never = absurd (never refl)
is_false false never = refl

module _ (forms before : List (Form Text)) (form : Form Text) (typed : AreTyped before) where
  abbrev items : List Declaration
  items = items_of forms

  abbrev here : NamesSoFar
  here = known_following before

  -- what the line uses of each space, that isn't in it
  abbrev local_absent : Bool
  local_absent = list_any (absent_here here) (used_in local_used form)

  abbrev item_absent : Bool
  item_absent = list_any (absent (names_of items)) (used_in item_used form)

  uses : uses_unknown items here form ≡ ((local_absent || item_absent) || uses_undeclared_field forms before form)
  uses = unknown_is_absent items here (names_and_kinds before typed) form

  pub undeclared : uses_unknown items here form ≡ true → UsesUndeclared forms before form
  undeclared is = go (which (local_absent || item_absent) (uses_undeclared_field forms before form) (sym uses ∙ is))
    where
      by_name : (local_absent ≡ true) ⊎ (item_absent ≡ true) → UsesUndeclared forms before form
      by_name (inl some) =
          let (name, among, missing) = some_name (absent_here here) (used_in local_used form) some in
          let none = not_true (is_known_here here name) missing in
          inl (name, inl (among, λ declares. let there = declared_is before name declares in cc (there, none)))
      by_name (inr some) =
          let (name, among, missing) = some_name (absent (names_of items)) (used_in item_used form) some in
          inl (name, inr (among, not_true (is_among (names_of items) name) missing))

      go : ((local_absent || item_absent) ≡ true) ⊎ (uses_undeclared_field forms before form ≡ true) → UsesUndeclared forms before form
      go (inl some) = by_name (which local_absent item_absent some)
      go (inr field) = inr field

  pub is_unknown : UsesUndeclared forms before form → uses_unknown items here form ≡ true
  is_unknown (inl (name, is)) = uses ∙ either_true (local_absent || item_absent) (uses_undeclared_field forms before form) (inl (either_true local_absent item_absent (go is)))
    where
      go : ((is_among (used_in local_used form) name ≡ true) × (IsDeclared before name → ⊥)) ⊎ ((is_among (used_in item_used form) name ≡ true) × (is_among (names_of items) name ≡ false)) → (local_absent ≡ true) ⊎ (item_absent ≡ true)
      go (inl (among, undeclared)) = inl (any_of (absent_here here) (used_in local_used form) name among (ap not (is_false (is_known_here here name) (λ e. undeclared (is_declared before name e)))))
      go (inr (among, missing)) = inr (any_of (absent (names_of items)) (used_in item_used form) name among (ap not missing))
  is_unknown (inr field) = uses ∙ either_true (local_absent || item_absent) (uses_undeclared_field forms before form) (inr field)

-- where a pass finds a line
module _ {S L : Type 0} (next : S → L → S) (bad : S → L → Bool) where
  first_split : (lines : List L) (state : S) (n : ℕ) → first_bad next bad state lines ≡ Some n → (before after : List L) × (line : L) × (lines ≡ before ++ line ∷ after) × (length before ≡ n) × (bad (state_after next state before) line ≡ true)
  first_split [] state n is = let clash : ⊥ = cc in absurd clash
  first_split (l ∷ ls) state n is = go (bad state l) refl (first_bad next bad (next state l) ls) (first_split ls (next state l)) is
    where
      go : (b : Bool) → bad state l ≡ b → (o : Option ℕ) → ((m : ℕ) → o ≡ Some m → (before after : List L) × (line : L) × (ls ≡ before ++ line ∷ after) × (length before ≡ m) × (bad (state_after next (next state l) before) line ≡ true)) →
          (if b then Some 0 else option_map suc o) ≡ Some n → (before after : List L) × (line : L) × (l ∷ ls ≡ before ++ line ∷ after) × (length before ≡ n) × (bad (state_after next state before) line ≡ true)
      go true e o rest h = let same : 0 ≡ n = cc in ([], ls, l, refl, same, e)
      go false e None rest h = let clash : ⊥ = cc in absurd clash
      go false e (Some m) rest h =
          let (before, after, line, parts, at, is) = rest m refl in
          let same : suc m ≡ n = cc in
          (l ∷ before, after, line, ap (λ t. l ∷ t) parts, ap suc at ∙ same, is)

  found_by : (before after : List L) (line : L) (state : S) → bad (state_after next state before) line ≡ true → (n : ℕ) × (first_bad next bad state (before ++ line ∷ after) ≡ Some n) × (n ≤ length before)
  found_by [] after line state is = (0, rw is refl, omega arith)
  found_by (l ∷ ls) after line state is = go (bad state l) (found_by ls after line (next state l) is)
    where
      go : (b : Bool) → (n : ℕ) × (first_bad next bad (next state l) (ls ++ line ∷ after) ≡ Some n) × (n ≤ length ls) → (n : ℕ) × ((if b then Some 0 else option_map suc (first_bad next bad (next state l) (ls ++ line ∷ after))) ≡ Some n) × (n ≤ suc (length ls))
      go true rest = (0, refl, omega arith)
      go false (m, e, le) = (suc m, ap (option_map suc) e, omega (arith, le))

front_typed : (before after : List (Form Text)) → AreTyped (before ++ after) → AreTyped before
front_typed before after typed = (both (list_all is_typed before) (list_all is_typed after) (sym (list_all-append is_typed before after) ∙ typed)).0

-- a line that uses a name of no space
abbrev unknown_in : List (Form Text) → NamesSoFar → Form Text → Bool
unknown_in forms = uses_unknown (items_of forms)

-- nothing is found before what is found, and nothing at all where nothing is
declared_up_to : (forms : List (Form Text)) (n : ℕ) → AreTyped forms → ((m : ℕ) → first_unknown forms ≡ Some m → n ≤ m) → UsesDeclaredUpTo forms n
declared_up_to forms n typed least before after form parts lt undeclared =
    let whole : AreTyped (before ++ form ∷ after) = subst AreTyped parts typed in
    let (m, found, le) = found_by known_after (unknown_in forms) before after form nothing_known (is_unknown forms before form (front_typed before (form ∷ after) whole) undeclared) in
    let at_least = least m (ap (first_refused (unknown_in forms)) parts ∙ found) in
    omega (arith, at_least, le, lt)

pub first_undeclared : (forms : List (Form Text)) (n : ℕ) → AreTyped forms → number_of_line (first_unknown forms) ≡ Some n → IsFirstUndeclaredLine forms n
first_undeclared forms n typed is =
    let (index, found, same) = found_line (first_unknown forms) n is in
    let (before, after, form, parts, at, unknown) = first_split known_after (unknown_in forms) forms nothing_known index found in
    let whole : AreTyped (before ++ form ∷ after) = subst AreTyped parts typed in
    let here = undeclared forms before form (front_typed before (form ∷ after) whole) unknown in
    let least : (m : ℕ) → first_unknown forms ≡ Some m → index ≤ m = λ m e. let both_are : index ≡ m = cc (found, e) in omega (arith, both_are) in
    (index, sym same, ((before, after, form, parts, at, here), declared_up_to forms index typed least))

pub all_declared : (forms : List (Form Text)) → AreTyped forms → first_unknown forms ≡ None → UsesDeclaredUpTo forms (length forms)
all_declared forms typed none = declared_up_to forms (length forms) typed (λ m e. let clash : ⊥ = cc (none, e) in absurd clash)

pub typed_lines : (bytes : List ℕ) → is_too_long bytes ≡ false → AreTyped (forms_of (lines_of bytes))
typed_lines bytes short = lines_typed (lines_of bytes) (lines_within 65536 bytes (at_most bytes short))

pub unknown_undeclared : (bytes : List ℕ) (n : ℕ) → IsFaultOf bytes (UnknownName n) → IsFirstUndeclaredLine (forms_of (lines_of bytes)) n
unknown_undeclared bytes n (formed, is) = first_undeclared (forms_of (lines_of bytes)) n (typed_lines bytes formed.text.short) is

pub script_declared : (bytes : List ℕ) (script : Script) → IsScriptOf bytes script → UsesDeclaredUpTo (forms_of (lines_of bytes)) (length (forms_of (lines_of bytes)))
script_declared bytes script is = all_declared (forms_of (lines_of bytes)) (typed_lines bytes is.well_formed.text.short) is.tree.named.known
