-- In a body of a class, the class of `self` is the last that the lines before begin.
use Rattle.std.proofs.Common.{◌≡◌, ℕ, suc, ◌+◌, ◌-◌, ◌<◌, ◌≤◌, List, [], ◌∷◌, ◌++◌, map, Option, Some, None, Bool, true, false, ◌||◌, cond, inl, inr, refl, sym, ap, subst, ◌∙◌, append_assoc, arith}
use Rattle.std.specs.Prelude.{if◌then◌else◌}
use Rattle.std.specs.List.{list_all, list_any}
use Rattle.std.proofs.lemmas.Bool.{false≢true}
use Rattle.std.proofs.lemmas.List.Folds.{list_all-append}
use Rattle.wb_tree.specs.declared.script_lines.ItemKind.TheVariants as item
use Rattle.wb_tree.specs.declared.script_lines.LineKind.TheVariants as line_kind
use Rattle.wb_tree.specs.declared.script_lines.Operand.TheVariants.{Name}
use Rattle.wb_tree.specs.declared.script_lines.Role.{Role}
use Rattle.wb_tree.specs.declared.script_lines.Role.TheVariants as role
use Rattle.wb_tree.specs.declared.script_lines.Form.{Form}
use Rattle.wb_tree.specs.declared.script_lines.Form.TheVariants.{Skip, Unknown, Line}
use Rattle.wb_language.specs.DeclaredAgain.{Space, begins_space, is_class_role}
use Rattle.wb_language.specs.Forms.{role_of_form}
use Rattle.wb_language.specs.Grammar.{IsGrammatical}
use Rattle.wb_language.specs.MissedFields.{IsClassAround}
use Rattle.wb_language.specs.Names.{Text, Declaration, NamesSoFar, begins_body, count_begun, following_fields, item_of_kind, items_by, items_of, known_after, nothing_known}
use Rattle.wb_language.specs.PassedLimits.{count_of}
use Rattle.wb_language.specs.Passes.{state_after}
use Rattle.wb_language.specs.Resolved.{fields_of_class, fields_of_item, has_this}
use Rattle.wb_language.specs.Undeclared.{is_of_object}
use Rattle.wb_lines.specs.Typed.{is_typed, AreTyped}
use Rattle.wb_lines.proofs.TypedLemmas.{both}
use Rattle.wb_nesting.specs.declared.open.Open.{Open}
use Rattle.wb_nesting.specs.declared.open.Open.TheVariants.{Fields, Made, Destroyed, Declarations, Statements, Branch, Block}
use Rattle.wb_nesting.specs.Machine.{step}
use Rattle.wb_nesting.proofs.Runs.{run, items_run}
use Rattle.wb_script.proofs.building.PlacesOfLines.{run_first}
use Rattle.wb_script.proofs.names.DeclaredHere.{known_following, this_after}
use Rattle.wb_script.proofs.names.KnownLines.{never_unknown}
use Rattle.wb_script.proofs.names.ResolvedLemmas.{contents_of, contents_after}
use Rattle.wb_script.proofs.said.ManyLines.{all_counted, classes_counted, class_counted, one_counted}
use Rattle.wb_script.proofs.said.SinceLines.{AreSince, they_are_since}

-- In the lines of a class, one began it.
abbrev in_class : List Open → Bool
in_class [] = false
in_class (Fields ∷ below) = true
in_class (Made ∷ below) = true
in_class (Destroyed ∷ below) = true
in_class (place ∷ below) = in_class below

abbrev in_class_if : Option (List Open) → Bool
in_class_if None = false
in_class_if (Some stack) = in_class stack

-- only the head of a class begins one
kept : (r : Role) (stack : List Open) → is_class_role r ≡ false → in_class_if (step stack r) ≡ true → in_class stack ≡ true
kept r (Fields ∷ below) other is = refl
kept r (Made ∷ below) other is = refl
kept r (Destroyed ∷ below) other is = refl
kept role.Class [] other is = let clash : ⊥ = cc in absurd clash
kept role.Procedure [] other is = absurd (false≢true is)
kept _ [] other is = absurd (false≢true is)
kept role.Declaration (Declarations ∷ below) other is = is
kept role.Plain (Declarations ∷ below) other is = is
kept role.Loop (Declarations ∷ below) other is = is
kept role.If (Declarations ∷ below) other is = is
kept role.End (Declarations ∷ below) other is = is
kept _ (Declarations ∷ below) other is = absurd (false≢true is)
kept role.Plain (Statements ∷ below) other is = is
kept role.Loop (Statements ∷ below) other is = is
kept role.If (Statements ∷ below) other is = is
kept role.End (Statements ∷ below) other is = is
kept _ (Statements ∷ below) other is = absurd (false≢true is)
kept role.Plain (Branch ∷ below) other is = is
kept role.Loop (Branch ∷ below) other is = is
kept role.If (Branch ∷ below) other is = is
kept role.Else (Branch ∷ below) other is = is
kept role.End (Branch ∷ below) other is = is
kept _ (Branch ∷ below) other is = absurd (false≢true is)
kept role.Plain (Block ∷ below) other is = is
kept role.Loop (Block ∷ below) other is = is
kept role.If (Block ∷ below) other is = is
kept role.End (Block ∷ below) other is = is
kept _ (Block ∷ below) other is = absurd (false≢true is)

-- a body of a class is in one
of_object : (r : Role) (stack next : List Open) → step stack r ≡ Some next → is_of_object r ≡ true → in_class stack ≡ true
of_object r (Fields ∷ below) next moves is = refl
of_object r (Made ∷ below) next moves is = refl
of_object r (Destroyed ∷ below) next moves is = refl
of_object role.Construct [] next moves is = let clash : ⊥ = cc in absurd clash
of_object role.Destroy [] next moves is = let clash : ⊥ = cc in absurd clash
of_object role.Construct (Declarations ∷ below) next moves is = let clash : ⊥ = cc in absurd clash
of_object role.Destroy (Declarations ∷ below) next moves is = let clash : ⊥ = cc in absurd clash
of_object role.Construct (Statements ∷ below) next moves is = let clash : ⊥ = cc in absurd clash
of_object role.Destroy (Statements ∷ below) next moves is = let clash : ⊥ = cc in absurd clash
of_object role.Construct (Branch ∷ below) next moves is = let clash : ⊥ = cc in absurd clash
of_object role.Destroy (Branch ∷ below) next moves is = let clash : ⊥ = cc in absurd clash
of_object role.Construct (Block ∷ below) next moves is = let clash : ⊥ = cc in absurd clash
of_object role.Destroy (Block ∷ below) next moves is = let clash : ⊥ = cc in absurd clash
of_object _ stack next moves is = absurd (false≢true is)

-- where there is a class, one was begun
record HasClass (stack : List Open) (known : NamesSoFar) : Type 0 where
  pub is_open : in_class stack ≡ true → 0 < known.classes
  pub this : has_this known.body ≡ true → 0 < known.classes

after_line : (form : Form Text) (stack next : List Open) (known : NamesSoFar) → is_typed form ≡ true → step stack (role_of_form form) ≡ Some next → HasClass stack known → HasClass next (known_after known form)
after_line form stack next known typed moves has = go (is_class_role (role_of_form form)) refl
  where
    more : known.classes ≤ (known_after known form).classes
    more = omega arith

    this_before : (begins object here : Bool) → has_this known.body ≡ here → is_of_object (role_of_form form) ≡ object → (if begins then object else (here || object)) ≡ true → 0 < known.classes
    this_before true true here eh eo is = has.is_open (of_object (role_of_form form) stack next moves eo)
    this_before true false here eh eo is = absurd (false≢true is)
    this_before false true here eh eo is = has.is_open (of_object (role_of_form form) stack next moves eo)
    this_before false false true eh eo is = has.this eh
    this_before false false false eh eo is = absurd (false≢true is)

    go : (b : Bool) → is_class_role (role_of_form form) ≡ b → HasClass next (known_after known form)
    go true e =
        let one : count_begun item.Class form ≡ cond true 1 0 = class_counted form typed ∙ ap (λ b. cond b 1 0) e in
        let some : 0 < (known_after known form).classes = omega (arith, one) in
        record { is_open = λ is. some; this = λ is. some }
    go false e = record {
      is_open = λ is. let before = has.is_open (kept (role_of_form form) stack e (ap in_class_if moves ∙ is)) in omega (arith, more, before);
      this = λ is. let before = this_before (begins_body (role_of_form form)) (is_of_object (role_of_form form)) (has_this known.body) refl refl (sym (this_after form known) ∙ is) in omega (arith, more, before);
    }

has_from : (before rest : List (Form Text)) (stack last : List Open) (known : NamesSoFar) → AreTyped before → run stack (contents_of (before ++ rest)) ≡ Some last → HasClass stack known → (end : List Open) × HasClass end (state_after known_after known before)
has_from [] rest stack last known typed reads has = (stack, has)
has_from (Skip ∷ before) rest stack last known typed reads has =
    has_from before rest stack last (known_after known Skip) typed reads (record { is_open = λ is. let h = has.is_open is in omega (arith, h); this = λ is. let h = has.this is in omega (arith, h) })
has_from (Unknown ∷ before) rest stack last known typed reads has =
    let (next, moves, later) = run_first stack last role.Unknown (contents_of (before ++ rest)) reads in
    let clash : ⊥ = cc (moves, never_unknown stack) in
    absurd clash
has_from (Line k operands ∷ before) rest stack last known typed reads has =
    let form = Line k operands in
    let (here, more) = both (is_typed form) (list_all is_typed before) typed in
    let (next, moves, later) = run_first stack last (role_of_form form) (contents_of (before ++ rest)) (ap (run stack) (sym (contents_after k operands (before ++ rest))) ∙ reads) in
    has_from before rest next last (known_after known form) more later (after_line form stack next known here moves has)

pub class_begun_before : (forms before rest : List (Form Text)) → IsGrammatical (map role_of_form forms) → AreTyped forms → forms ≡ before ++ rest → has_this (known_following before).body ≡ true → 0 < (known_following before).classes
class_begun_before forms before rest grammar typed parts this =
    let whole : AreTyped (before ++ rest) = subst AreTyped parts typed in
    let first : AreTyped before = (both (list_all is_typed before) (list_all is_typed rest) (sym (list_all-append is_typed before rest) ∙ whole)).0 in
    let reads : run [] (contents_of (before ++ rest)) ≡ Some [] = ap (λ l. run [] (contents_of l)) (sym parts) ∙ items_run grammar in
    let none : HasClass [] nothing_known = record { is_open = λ is. absurd (false≢true is); this = λ is. absurd (false≢true is) } in
    let (end, has) = has_from before rest [] [] nothing_known first reads none in
    has.this this

-- The class that was begun last has an index: how many are before it.
abbrev heads_class : Form Text → Bool
heads_class = begins_space Space.of_class

abbrev fields_at : List Declaration → ℕ → List Text
fields_at items index = fields_of_item (item_of_kind item.Class items index)

class_item : (earlier following : List (Form Text)) (head : Form Text) → AreTyped (earlier ++ head ∷ following) → heads_class head ≡ true →
    fields_of_item (item_of_kind item.Class (items_of (earlier ++ head ∷ following)) (count_of is_class_role earlier)) ≡ following_fields following
class_item [] following (Line line_kind.Class (Name n ∷ os)) typed is = refl
class_item [] following (Line line_kind.Class []) typed is = absurd (false≢true typed)
class_item [] following (Line line_kind.Class (_ ∷ os)) typed is = absurd (false≢true typed)
class_item [] following (Line k os) typed is = absurd (false≢true is)
class_item [] following Skip typed is = absurd (false≢true is)
class_item [] following Unknown typed is = absurd (false≢true is)
class_item (form ∷ earlier) following head typed is =
    let rest = earlier ++ head ∷ following in
    let (here, later) = both (is_typed form) (list_all is_typed rest) typed in
    one form here (class_item earlier following head later is)
  where
    count : (form : Form Text) → count_of is_class_role (form ∷ earlier) ≡ cond (is_class_role (role_of_form form)) 1 0 + count_of is_class_role earlier
    count form = one_counted is_class_role form earlier

    same_count : (form : Form Text) → is_class_role (role_of_form form) ≡ false → count_of is_class_role (form ∷ earlier) ≡ count_of is_class_role earlier
    same_count form other =
        let one : count_of is_class_role (form ∷ earlier) ≡ cond false 1 0 + count_of is_class_role earlier = one_counted is_class_role form earlier ∙ ap (λ b. cond b 1 0 + count_of is_class_role earlier) other in
        omega (arith, one)

    one : (form : Form Text) → is_typed form ≡ true → fields_at (items_of (earlier ++ head ∷ following)) (count_of is_class_role earlier) ≡ following_fields following → fields_at (items_by form (earlier ++ head ∷ following) ++ items_of (earlier ++ head ∷ following)) (count_of is_class_role (form ∷ earlier)) ≡ following_fields following
    one (Line line_kind.Class (Name n ∷ os)) here later =
        let more : count_of is_class_role (Line line_kind.Class (Name n ∷ os) ∷ earlier) ≡ suc (count_of is_class_role earlier) = omega (arith, count (Line line_kind.Class (Name n ∷ os))) in
        ap (fields_at (items_by (Line line_kind.Class (Name n ∷ os)) (earlier ++ head ∷ following) ++ items_of (earlier ++ head ∷ following))) more ∙ later
    one (Line line_kind.Class []) here later = absurd (false≢true here)
    one (Line line_kind.Class (_ ∷ os)) here later = absurd (false≢true here)
    one (Line line_kind.Proc []) here later = absurd (false≢true here)
    one (Line line_kind.Proc (Name n ∷ os)) here later = ap (fields_at (items_of (earlier ++ head ∷ following))) (same_count (Line line_kind.Proc (Name n ∷ os)) refl) ∙ later
    one (Line line_kind.Proc (_ ∷ os)) here later = absurd (false≢true here)
    one (Line line_kind.Op []) here later = absurd (false≢true here)
    one (Line line_kind.Op (Name n ∷ os)) here later = ap (fields_at (items_of (earlier ++ head ∷ following))) (same_count (Line line_kind.Op (Name n ∷ os)) refl) ∙ later
    one (Line line_kind.Op (_ ∷ os)) here later = absurd (false≢true here)
    one (Line k os) here later = ap (fields_at (items_of (earlier ++ head ∷ following))) (same_count (Line k os) refl) ∙ later
    one Skip here later = ap (fields_at (items_of (earlier ++ head ∷ following))) (same_count Skip refl) ∙ later
    one Unknown here later = ap (fields_at (items_of (earlier ++ head ∷ following))) (same_count Unknown refl) ∙ later

none_counted : (lines : List (Form Text)) → list_any heads_class lines ≡ false → count_of is_class_role lines ≡ 0
none_counted [] none = refl
none_counted (form ∷ lines) none = go (heads_class form) refl (none_counted lines) none
  where
    go : (b : Bool) → heads_class form ≡ b → (list_any heads_class lines ≡ false → count_of is_class_role lines ≡ 0) → (b || list_any heads_class lines) ≡ false → count_of is_class_role (form ∷ lines) ≡ 0
    go true e later h = let clash : ⊥ = cc in absurd clash
    go false e later h =
        let one : count_of is_class_role (form ∷ lines) ≡ cond false 1 0 + count_of is_class_role lines = one_counted is_class_role form lines ∙ ap (λ b. cond b 1 0 + count_of is_class_role lines) e in
        let rest = later h in
        omega (arith, one, rest)

module _ (forms before rest : List (Form Text)) (typed : AreTyped forms) (parts : forms ≡ before ++ rest) where
  first_typed : AreTyped before
  first_typed =
      let whole : AreTyped (before ++ rest) = subst AreTyped parts typed in
      (both (list_all is_typed before) (list_all is_typed rest) (sym (list_all-append is_typed before rest) ∙ whole)).0

  pub fields_around : (following : List (Form Text)) → IsClassAround forms before following → fields_of_class (items_of forms) ((known_following before).classes - 1) ≡ following_fields following
  fields_around following (earlier, later, head, split, class, none, whole) =
      let classes = classes_counted before first_typed in
      let counted : count_of is_class_role before ≡ count_of is_class_role (earlier ++ head ∷ later) = ap (count_of is_class_role) split in
      let apart = all_counted is_class_role earlier (head ∷ later) in
      let one : count_of is_class_role (head ∷ later) ≡ cond true 1 0 + count_of is_class_role later = one_counted is_class_role head later ∙ ap (λ b. cond b 1 0 + count_of is_class_role later) class in
      let no_more = none_counted later none in
      let index : (known_following before).classes - 1 ≡ count_of is_class_role earlier = omega (arith, classes, counted, apart, one, no_more) in
      ap (fields_of_class (items_of forms)) index
      ∙ ap (λ l. fields_of_item (item_of_kind item.Class (items_of l) (count_of is_class_role earlier))) whole
      ∙ class_item earlier following head (subst AreTyped whole typed) class

  pub class_around : 0 < (known_following before).classes → (following : List (Form Text)) × IsClassAround forms before following
  class_around some = go (they_are_since heads_class before) parts (let classes = classes_counted before first_typed in omega (arith, some, classes))
    where
      go : {lines since : List (Form Text)} → AreSince heads_class lines since → forms ≡ lines ++ rest → 0 < count_of is_class_role lines → (following : List (Form Text)) × IsClassAround forms lines following
      go AreSince.no_lines whole many = absurd (omega (arith, many))
      go (AreSince.last_lines earlier inside head none (inl class)) whole many = (inside ++ rest, (earlier, inside, head, refl, class, none, whole ∙ append_assoc earlier (head ∷ inside) rest))
      go (AreSince.last_lines earlier inside head none (inr nothing)) whole many = by (heads_class head) refl
        where
          by : (b : Bool) → heads_class head ≡ b → (following : List (Form Text)) × IsClassAround forms (earlier ++ head ∷ inside) following
          by true class = (inside ++ rest, (earlier, inside, head, refl, class, none, whole ∙ append_assoc earlier (head ∷ inside) rest))
          by false other =
              let only : count_of is_class_role (earlier ++ head ∷ inside) ≡ count_of is_class_role (head ∷ inside) = ap (λ l. count_of is_class_role (l ++ head ∷ inside)) nothing in
              let one : count_of is_class_role (head ∷ inside) ≡ cond false 1 0 + count_of is_class_role inside = one_counted is_class_role head inside ∙ ap (λ b. cond b 1 0 + count_of is_class_role inside) other in
              let no_more = none_counted inside none in
              absurd (omega (arith, many, only, one, no_more))
