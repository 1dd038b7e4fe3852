-- What the body that is open declares, in the order of its lines, is what a pass knows.
use Rattle.std.proofs.Common.{◌≡◌, ℕ, zero, suc, List, [], ◌∷◌, ◌++◌, length, map, Option, Some, None, Bool, true, false, ◌||◌, ◌⊎◌, inl, inr, refl, sym, ap, subst, ◌∙◌, append-nil}
use Rattle.std.specs.Prelude.{if◌then◌else◌, slice_get}
use Rattle.std.specs.List.{flat_map, list_all}
use Rattle.std.specs.Option.{option_map}
use Rattle.std.specs.Str.{bytes_eq}
use Rattle.std.proofs.lemmas.Bool.{false≢true}
use Rattle.std.proofs.lemmas.List.{map-append}
use Rattle.std.proofs.lemmas.List.Concat.{flat_map-append}
use Rattle.wb_tree.specs.declared.script_lines.LineKind.TheVariants as line_kind
use Rattle.wb_tree.specs.declared.script_lines.LocalKind.{LocalKind}
use Rattle.wb_tree.specs.declared.script_lines.Operand.{Operand}
use Rattle.wb_tree.specs.declared.script_lines.Operand.TheVariants.{Name, Parameter}
use Rattle.wb_tree.specs.declared.script_lines.Form.{Form}
use Rattle.wb_tree.specs.declared.script_lines.Form.TheVariants.{Skip, Unknown, Line}
use Rattle.wb_language.specs.DeclaredAgain.{Space, begins_space}
use Rattle.wb_language.specs.Forms.{role_of_form}
use Rattle.wb_language.specs.MissedFields.{Held, held_by, held_by_parameter, names_held, IsFirstHeld, IsHeldAs, IsOpenBody}
use Rattle.wb_language.specs.Names.{Text, NamesSoFar, begins_body, first_declaration_of, is_among, kind_of_parameter, kinds_by, known_after, locals_by, name_passed, nothing_known, parameter_type_of}
use Rattle.wb_language.specs.Passes.{state_after}
use Rattle.wb_lines.specs.Typed.{is_typed, AreTyped}
use Rattle.wb_lines.proofs.TypedLemmas.{both}
use Rattle.wb_script.proofs.names.DeclaredHere.{known_following}
use Rattle.wb_script.proofs.said.DoubleNames.{same_name, its_own}
use Rattle.wb_script.proofs.said.SinceLines.{AreSince, since_after, since_from, lines_since, since_head, none_begins, they_are_since}

abbrev pub kinds_held : List Held → List (LocalKind Text)
kinds_held held = map (λ h. h.1) held

passed_names : (operands : List (Operand Text)) → flat_map name_passed operands ≡ names_held (flat_map held_by_parameter operands)
passed_names [] = refl
passed_names (Parameter n t ∷ os) = ap (λ l. n ∷ l) (passed_names os)
passed_names (_ ∷ os) = passed_names os

passed_kinds : (operands : List (Operand Text)) → map kind_of_parameter (flat_map parameter_type_of operands) ≡ kinds_held (flat_map held_by_parameter operands)
passed_kinds [] = refl
passed_kinds (Parameter n t ∷ os) = ap (λ l. kind_of_parameter t ∷ l) (passed_kinds os)
passed_kinds (_ ∷ os) = passed_kinds os

-- a line declares the names of what it holds, and their kinds
abbrev AreHeld : Form Text → Type 0
AreHeld form = (locals_by (role_of_form form) form ≡ names_held (held_by form)) × (kinds_by (role_of_form form) form ≡ kinds_held (held_by form))

they_are_held : (form : Form Text) → is_typed form ≡ true → AreHeld form
they_are_held (Line line_kind.Proc os) typed = (passed_names os, passed_kinds os)
they_are_held (Line line_kind.Op os) typed = (passed_names os, passed_kinds os)
they_are_held (Line line_kind.Ptr []) typed = absurd (false≢true typed)
they_are_held (Line line_kind.Ptr (Name n ∷ os)) typed = (refl, refl)
they_are_held (Line line_kind.Ptr (_ ∷ os)) typed = absurd (false≢true typed)
they_are_held (Line line_kind.ClassPtr []) typed = absurd (false≢true typed)
they_are_held (Line line_kind.ClassPtr (Name n ∷ os)) typed = (refl, refl)
they_are_held (Line line_kind.ClassPtr (_ ∷ os)) typed = absurd (false≢true typed)
they_are_held (Line line_kind.Int []) typed = absurd (false≢true typed)
they_are_held (Line line_kind.Int (Name n ∷ os)) typed = (refl, refl)
they_are_held (Line line_kind.Int (_ ∷ os)) typed = absurd (false≢true typed)
they_are_held (Line line_kind.Buf []) typed = absurd (false≢true typed)
they_are_held (Line line_kind.Buf (Name n ∷ os)) typed = (refl, refl)
they_are_held (Line line_kind.Buf (_ ∷ os)) typed = absurd (false≢true typed)
they_are_held (Line line_kind.View []) typed = absurd (false≢true typed)
they_are_held (Line line_kind.View (Name n ∷ os)) typed = (refl, refl)
they_are_held (Line line_kind.View (_ ∷ os)) typed = absurd (false≢true typed)
they_are_held (Line k os) typed = (refl, refl)
they_are_held Skip typed = (refl, refl)
they_are_held Unknown typed = (refl, refl)

abbrev pub heads_body : Form Text → Bool
heads_body = begins_space Space.of_body

abbrev pub held_in : List (Form Text) → List Held
held_in lines = flat_map held_by lines

-- one more line of what a list of lines gives
module _ {X : Type 0} (of_held : List Held → List X) (apart : (a b : List Held) → of_held (a ++ b) ≡ of_held a ++ of_held b) where
  with_line : (b : Bool) (since : List (Form Text)) (form : Form Text) (xs added : List X) → xs ≡ of_held (held_in since) → added ≡ of_held (held_by form) →
      (if b then added else xs ++ added) ≡ of_held (held_in (if b then form ∷ [] else since ++ form ∷ []))
  with_line true since form xs added is adds = adds ∙ ap of_held (sym (append-nil (held_by form)))
  with_line false since form xs added is adds =
      ap (λ l. l ++ added) is
      ∙ ap (λ l. of_held (held_in since) ++ l) adds
      ∙ sym (apart (held_in since) (held_by form))
      ∙ ap (λ l. of_held (held_in since ++ l)) (sym (append-nil (held_by form)))
      ∙ ap of_held (sym (flat_map-append held_by since (form ∷ [])))

names_apart : (a b : List Held) → names_held (a ++ b) ≡ names_held a ++ names_held b
names_apart a b = map-append (λ (h : Held). h.0) a b

kinds_apart : (a b : List Held) → kinds_held (a ++ b) ≡ kinds_held a ++ kinds_held b
kinds_apart a b = map-append (λ (h : Held). h.1) a b

abbrev IsKnown : NamesSoFar → List (Form Text) → Type 0
IsKnown known since = (known.locals ≡ names_held (held_in since)) × (known.kinds ≡ kinds_held (held_in since))

known_from : (lines since : List (Form Text)) (known : NamesSoFar) → AreTyped lines → IsKnown known since → IsKnown (state_after known_after known lines) (since_from heads_body since lines)
known_from [] since known typed is = is
known_from (form ∷ lines) since known typed (names, kinds) =
    let (here, rest) = both (is_typed form) (list_all is_typed lines) typed in
    let (more_names, more_kinds) = they_are_held form here in
    known_from lines (since_after heads_body since form) (known_after known form) rest (
      with_line names_held names_apart (begins_body (role_of_form form)) since form known.locals (locals_by (role_of_form form) form) names more_names,
      with_line kinds_held kinds_apart (begins_body (role_of_form form)) since form known.kinds (kinds_by (role_of_form form) form) kinds more_kinds,
    )

pub held_known : (before : List (Form Text)) → AreTyped before → IsKnown (known_following before) (lines_since heads_body before)
held_known before typed = known_from before [] nothing_known typed (refl, refl)

-- The lines since the last head are the body that is open.
pub since_is_open : (before : List (Form Text)) → (lines_since heads_body before ≡ [] → ⊥) → IsOpenBody before (lines_since heads_body before)
since_is_open before some = go (they_are_since heads_body before) some
  where
    go : {lines since : List (Form Text)} → AreSince heads_body lines since → (since ≡ [] → ⊥) → IsOpenBody lines since
    go AreSince.no_lines some = absurd (some refl)
    go (AreSince.last_lines earlier inside head stays_in first) some = (earlier, inside, head, refl, refl, stays_in, first)

pub open_is_since : (before body : List (Form Text)) → IsOpenBody before body → lines_since heads_body before ≡ body
open_is_since before body (outside, inside, head, parts, whole, stays_in, first) =
    ap (lines_since heads_body) (parts ∙ ap (λ l. outside ++ l) whole) ∙ go first ∙ sym whole
  where
    go : (heads_body head ≡ true) ⊎ (outside ≡ []) → lines_since heads_body (outside ++ head ∷ inside) ≡ head ∷ inside
    go (inl heads) = since_head heads_body outside inside head heads stays_in
    go (inr nothing) = ap (λ l. lines_since heads_body (l ++ head ∷ inside)) nothing ∙ none_begins heads_body (since_after heads_body [] head) inside stays_in ∙ only (begins_body (role_of_form head))
      where
        only : (b : Bool) → (if b then head ∷ [] else head ∷ []) ++ inside ≡ head ∷ inside
        only true = refl
        only false = refl

-- The first of a name, by its index.
pub found_held : (held : List Held) (name : Text) (i : ℕ) → first_declaration_of (names_held held) name ≡ Some i → (kind : LocalKind Text) × (slice_get (kinds_held held) i ≡ Some kind) × IsFirstHeld held name kind
found_held [] name i is = let clash : ⊥ = cc in absurd clash
found_held ((n, k) ∷ rest) name i is = go (bytes_eq n name) refl (first_declaration_of (names_held rest) name) (found_held rest name) i is
  where
    go : (b : Bool) → bytes_eq n name ≡ b → (o : Option ℕ) → ((j : ℕ) → o ≡ Some j → (kind : LocalKind Text) × (slice_get (kinds_held rest) j ≡ Some kind) × IsFirstHeld rest name kind) → (i : ℕ) → (if b then Some 0 else option_map suc o) ≡ Some i →
        (kind : LocalKind Text) × (slice_get (k ∷ kinds_held rest) i ≡ Some kind) × IsFirstHeld ((n, k) ∷ rest) name kind
    go true e o later zero h = (k, refl, ([], rest, ap (λ m. (m, k) ∷ rest) (same_name n name e), refl))
    go true e o later (suc i) h = let clash : ⊥ = cc in absurd clash
    go false e None later i h = let clash : ⊥ = cc in absurd clash
    go false e (Some j) later zero h = let clash : ⊥ = cc in absurd clash
    go false e (Some j) later (suc i) h =
        let same : j ≡ i = cc in
        let (kind, there, (first, last, parts, not_first)) = later j refl in
        (kind, subst (λ m. slice_get (kinds_held rest) m ≡ Some kind) same there, ((n, k) ∷ first, last, ap (λ l. (n, k) ∷ l) parts, ap (λ b. b || is_among (names_held first) name) e ∙ not_first))

pub held_found : (first last : List Held) (name : Text) (kind : LocalKind Text) → is_among (names_held first) name ≡ false →
    (first_declaration_of (names_held (first ++ (name, kind) ∷ last)) name ≡ Some (length first)) × (slice_get (kinds_held (first ++ (name, kind) ∷ last)) (length first) ≡ Some kind)
held_found [] last name kind none = (ap (λ (b : Bool). if b then Some 0 else option_map suc (first_declaration_of (names_held last) name)) (its_own name), refl)
held_found ((n, k) ∷ first) last name kind none = go (bytes_eq n name) none (held_found first last name kind)
  where
    go : (b : Bool) → (b || is_among (names_held first) name) ≡ false →
        (is_among (names_held first) name ≡ false → (first_declaration_of (names_held (first ++ (name, kind) ∷ last)) name ≡ Some (length first)) × (slice_get (kinds_held (first ++ (name, kind) ∷ last)) (length first) ≡ Some kind)) →
        ((if b then Some 0 else option_map suc (first_declaration_of (names_held (first ++ (name, kind) ∷ last)) name)) ≡ Some (suc (length first))) × (slice_get (kinds_held (first ++ (name, kind) ∷ last)) (length first) ≡ Some kind)
    go true h later = let clash : ⊥ = cc in absurd clash
    go false h later = let (found, there) = later h in (ap (option_map suc) found, there)

-- So what a pass knows of a name is what its first declaration in the body says.
module _ (before : List (Form Text)) (typed : AreTyped before) where
  abbrev since : List (Form Text)
  since = lines_since heads_body before

  names_are : (known_following before).locals ≡ names_held (held_in since)
  names_are = (held_known before typed).0

  kinds_are : (known_following before).kinds ≡ kinds_held (held_in since)
  kinds_are = (held_known before typed).1

  some_lines : (name : Text) (k : LocalKind Text) → IsFirstHeld (held_in since) name k → since ≡ [] → ⊥
  some_lines name k (first, last, split, none) nothing = not_empty first (sym split ∙ ap held_in nothing)
    where
      not_empty : (first : List Held) → first ++ (name, k) ∷ last ≡ [] → ⊥
      not_empty [] e = cc
      not_empty (x ∷ xs) e = cc

  pub name_held : (name : Text) (i : ℕ) → first_declaration_of (known_following before).locals name ≡ Some i → (k : LocalKind Text) × (slice_get (known_following before).kinds i ≡ Some k) × IsHeldAs before name k
  name_held name i at =
      let (k, there, first) = found_held (held_in since) name i (ap (λ l. first_declaration_of l name) (sym names_are) ∙ at) in
      (k, ap (λ l. slice_get l i) kinds_are ∙ there, (since, since_is_open before (some_lines name k first), first))

  pub held_named : (name : Text) (k : LocalKind Text) → IsHeldAs before name k → (i : ℕ) × (first_declaration_of (known_following before).locals name ≡ Some i) × (slice_get (known_following before).kinds i ≡ Some k)
  held_named name k (body, is_open, (first, last, split, none)) =
      let (found, there) = held_found first last name k none in
      let held = ap held_in (open_is_since before body is_open) ∙ split in
      (length first, ap (λ l. first_declaration_of l name) (names_are ∙ ap names_held held) ∙ found, ap (λ l. slice_get l (length first)) (kinds_are ∙ ap kinds_held held) ∙ there)
