-- A pass refuses the lines that declare a name again.
use Rattle.std.proofs.Common.{◌≡◌, ℕ, ◌<◌, suc, ◌+◌, List, [], ◌∷◌, ◌++◌, length, map, Option, Some, None, Bool, true, false, ◌||◌, inl, inr, refl, sym, ap, ◌∙◌, append_assoc, append-nil, length-append, nat_lt, arith}
use Rattle.std.specs.Prelude.{if◌then◌else◌, is_some}
use Rattle.std.specs.List.{list_any, flat_map}
use Rattle.std.specs.Option.{option_map, option_map_or}
use Rattle.std.specs.Str.{bytes_eq}
use Rattle.std.proofs.lemmas.Bool.Decides.{nat_tests}
use Rattle.std.proofs.lemmas.List.{map-append}
use Rattle.std.proofs.lemmas.List.Folds.{list_any-append}
use Rattle.std.proofs.lemmas.Slice.Eq.{bytes_eq-Decides}
use Rattle.wb_language.specs.declared.fault.ScriptFault.{ScriptFault}
use Rattle.wb_language.specs.declared.fault.ScriptFault.TheVariants.{DoubleName}
use Rattle.wb_tree.specs.declared.script.Script.{Script}
use Rattle.wb_tree.specs.declared.script_lines.ItemKind.{ItemKind}
use Rattle.wb_tree.specs.declared.script_lines.LineKind.TheVariants as line_kind
use Rattle.wb_tree.specs.declared.script_lines.Operand.TheVariants.{Name}
use Rattle.wb_tree.specs.declared.script_lines.Role.{Role}
use Rattle.wb_tree.specs.declared.script_lines.Role.TheVariants as role
use Rattle.wb_tree.specs.declared.script_lines.Form.{Form}
use Rattle.wb_tree.specs.declared.script_lines.Form.TheVariants.{Skip, Unknown, Line}
use Rattle.wb_language.specs.DeclaredAgain.{Space, names_by, declares_in, is_class_role, begins_space, IsDeclaredIn, DeclaresAnother, DeclaresAgain}
use Rattle.wb_language.specs.FaultOrder.{number_of_fault}
use Rattle.wb_language.specs.FirstLines.{IsFirstLine, IsOfNoLine}
use Rattle.wb_language.specs.Forms.{forms_of, role_of_form}
use Rattle.wb_language.specs.Lines.{lines_of}
use Rattle.wb_language.specs.Names.{Text, Declaration, NamesSoFar, begins_body, declaration_of, declares_again, fields_after, first_declaration_of, first_name, has_double, is_among, is_declared_there, is_item_before, items_before, items_by, items_of, known_after, locals_by, names_of, nothing_known, parameter_names}
use Rattle.wb_language.specs.Passes.{first_where, state_after}
use Rattle.wb_language.specs.Scripts.{IsFaultOf, IsScriptOf}
use Rattle.wb_script.proofs.names.DeclaredHere.{known_following}
use Rattle.wb_script.proofs.said.LaterFaults.{none_double}
use Rattle.wb_script.proofs.said.FirstSaid.{AreRefused, first_said, none_said}
use Rattle.wb_script.proofs.said.SinceLines.{found_in, passes_in, since_after, since_from, lines_since, none_begins, passed_since, since_passed}

-- A name is among names exactly where it is one of them.
pub same_name : (n name : Text) → bytes_eq n name ≡ true → n ≡ name
same_name n name is = (bytes_eq-Decides n name).0 is

-- a name is found exactly where it is among the names
pub found_is : (names : List Text) (name : Text) → is_some (first_declaration_of names name) ≡ is_among names name
found_is [] name = refl
found_is (n ∷ names) name = go (bytes_eq n name) (first_declaration_of names name) (found_is names name)
  where
    go : (b : Bool) (o : Option ℕ) → is_some o ≡ is_among names name → is_some (if b then Some 0 else option_map suc o) ≡ (b || is_among names name)
    go true o is = refl
    go false None is = is
    go false (Some i) is = is

pub its_own : (name : Text) → bytes_eq name name ≡ true
its_own name = (bytes_eq-Decides name name).1 refl

-- one of the names passes a test
some_passes : (p : Text → Bool) (names : List Text) (name : Text) → is_among names name ≡ true → p name ≡ true → list_any p names ≡ true
some_passes p names name among is =
    let (first, last, n, parts, same) = found_in (λ n. bytes_eq n name) names among in
    let equal : n ≡ name = same_name n name same in
    ap (list_any p) parts ∙ passes_in p first last n (ap p equal ∙ is)

-- what the lines declare, from these on
abbrev pub declared_by : Space → Form Text → List Text
declared_by space form = names_by space (role_of_form form) form

flat_more : (space : Space) (lines more : List (Form Text)) → flat_map (declared_by space) (lines ++ more) ≡ flat_map (declared_by space) lines ++ flat_map (declared_by space) more
flat_more space [] more = refl
flat_more space (l ∷ lines) more = ap (λ t. declared_by space l ++ t) (flat_more space lines more) ∙ sym (append_assoc (declared_by space l) (flat_map (declared_by space) lines) (flat_map (declared_by space) more))

among_flat : (space : Space) (name : Text) (lines : List (Form Text)) → is_among (flat_map (declared_by space) lines) name ≡ list_any (declares_in space name) lines
among_flat space name [] = refl
among_flat space name (l ∷ lines) = list_any-append (λ n. bytes_eq n name) (declared_by space l) (flat_map (declared_by space) lines) ∙ ap (λ b. declares_in space name l || b) (among_flat space name lines)

-- What a pass knows of a space is what the lines declare in it since it began.
module _ (space : Space) (names_in : NamesSoFar → List Text)
    (next : (known : NamesSoFar) (form : Form Text) → names_in (known_after known form) ≡ (if begins_space space form then declared_by space form else names_in known ++ declared_by space form)) where
  known_since : (lines since : List (Form Text)) (known : NamesSoFar) → names_in known ≡ flat_map (declared_by space) since → names_in (state_after known_after known lines) ≡ flat_map (declared_by space) (since_from (begins_space space) since lines)
  known_since [] since known is = is
  known_since (form ∷ lines) since known is = known_since lines (since_after (begins_space space) since form) (known_after known form) (next known form ∙ go (begins_space space form))
    where
      go : (b : Bool) → (if b then declared_by space form else names_in known ++ declared_by space form) ≡ flat_map (declared_by space) (if b then form ∷ [] else since ++ form ∷ [])
      go true = sym (append-nil (declared_by space form))
      go false = ap (λ l. l ++ declared_by space form) is ∙ ap (λ l. flat_map (declared_by space) since ++ l) (sym (append-nil (declared_by space form))) ∙ sym (flat_more space since (form ∷ []))

  pub known_in_space : (before : List (Form Text)) → names_in nothing_known ≡ [] → names_in (known_following before) ≡ flat_map (declared_by space) (lines_since (begins_space space) before)
  known_in_space before start = known_since before [] nothing_known start

fields_next : (known : NamesSoFar) (form : Form Text) → (known_after known form).fields ≡ (if begins_space Space.of_class form then declared_by Space.of_class form else known.fields ++ declared_by Space.of_class form)
fields_next known form = by (role_of_form form)
  where
    by : (r : Role) → fields_after r form known.fields ≡ (if is_class_role r then names_by Space.of_class r form else known.fields ++ names_by Space.of_class r form)
    by role.Class = refl
    by role.Field = refl
    by _ = sym (append-nil known.fields)

of_body_by : (r : Role) (form : Form Text) → locals_by r form ≡ names_by Space.of_body r form
of_body_by role.Procedure form = refl
of_body_by role.Declaration form = refl
of_body_by _ form = refl

locals_next : (known : NamesSoFar) (form : Form Text) → (known_after known form).locals ≡ (if begins_space Space.of_body form then declared_by Space.of_body form else known.locals ++ declared_by Space.of_body form)
locals_next known form = ap (λ l. if begins_body (role_of_form form) then l else known.locals ++ l) (of_body_by (role_of_form form) form)

pub fields_known : (before : List (Form Text)) → (known_following before).fields ≡ flat_map (declared_by Space.of_class) (lines_since (begins_space Space.of_class) before)
fields_known before = known_in_space Space.of_class (λ known. known.fields) fields_next before refl

pub locals_known : (before : List (Form Text)) → (known_following before).locals ≡ flat_map (declared_by Space.of_body) (lines_since (begins_space Space.of_body) before)
locals_known before = known_in_space Space.of_body (λ known. known.locals) locals_next before refl

-- The script's own space never begins anew.
never_begins : (lines : List (Form Text)) → list_any (begins_space Space.of_script) lines ≡ false
never_begins [] = refl
never_begins (l ∷ lines) = never_begins lines

all_since : (before : List (Form Text)) → lines_since (begins_space Space.of_script) before ≡ before
all_since before = none_begins (begins_space Space.of_script) [] before (never_begins before)

names_declared : (form : Form Text) (following : List (Form Text)) (kind : ItemKind) (names : List Text) → names_of (map (declaration_of form following kind) names) ≡ names
names_declared form following kind [] = refl
names_declared form following kind (n ∷ names) = ap (λ l. n ∷ l) (names_declared form following kind names)

pub item_names : (form : Form Text) (following : List (Form Text)) → names_of (items_by form following) ≡ declared_by Space.of_script form
item_names (Line line_kind.Class operands) following = names_declared (Line line_kind.Class operands) following _ (first_name (Line line_kind.Class operands))
item_names (Line line_kind.Proc operands) following = names_declared (Line line_kind.Proc operands) following _ (first_name (Line line_kind.Proc operands))
item_names (Line line_kind.Op operands) following = names_declared (Line line_kind.Op operands) following _ (first_name (Line line_kind.Op operands))
item_names (Line k operands) following = refl
item_names Skip following = refl
item_names Unknown following = refl

names_split : (before rest : List (Form Text)) → names_of (items_of (before ++ rest)) ≡ flat_map (declared_by Space.of_script) before ++ names_of (items_of rest)
names_split [] rest = refl
names_split (form ∷ before) rest =
    map-append (λ (item : Declaration). item.name) (items_by form (before ++ rest)) (items_of (before ++ rest))
    ∙ ap (λ l. l ++ names_of (items_of (before ++ rest))) (item_names form (before ++ rest))
    ∙ ap (λ l. declared_by Space.of_script form ++ l) (names_split before rest)
    ∙ sym (append_assoc (declared_by Space.of_script form) (flat_map (declared_by Space.of_script) before) (names_of (items_of rest)))

items_next : (known : NamesSoFar) (form : Form Text) → items_before (known_after known form) ≡ items_before known + length (declared_by Space.of_script form)
items_next known (Line line_kind.Class []) = omega arith
items_next known (Line line_kind.Class (Name n ∷ os)) = omega arith
items_next known (Line line_kind.Class (_ ∷ os)) = omega arith
items_next known (Line line_kind.Proc []) = omega arith
items_next known (Line line_kind.Proc (Name n ∷ os)) = omega arith
items_next known (Line line_kind.Proc (_ ∷ os)) = omega arith
items_next known (Line line_kind.Op []) = omega arith
items_next known (Line line_kind.Op (Name n ∷ os)) = omega arith
items_next known (Line line_kind.Op (_ ∷ os)) = omega arith
items_next known (Line k operands) = omega arith
items_next known Skip = omega arith
items_next known Unknown = omega arith

items_from : (lines : List (Form Text)) (known : NamesSoFar) → items_before (state_after known_after known lines) ≡ items_before known + length (flat_map (declared_by Space.of_script) lines)
items_from [] known = omega arith
items_from (form ∷ lines) known =
    let later = items_from lines (known_after known form) in
    let here = items_next known form in
    let whole = length-append (declared_by Space.of_script form) (flat_map (declared_by Space.of_script) lines) in
    omega (arith, later, here, whole)

-- the first of all names that passes is one of the first ones exactly if one of these passes
first_within : (p : Text → Bool) (names rest : List Text) → option_map_or (λ i. nat_lt i (length names)) (first_where p (names ++ rest)) false ≡ list_any p names
first_within p [] rest = go (first_where p rest)
  where
    go : (o : Option ℕ) → option_map_or (λ i. nat_lt i 0) o false ≡ false
    go None = refl
    go (Some i) = grind (arith, nat_tests)
first_within p (n ∷ names) rest = go (p n) (first_where p (names ++ rest)) (first_within p names rest)
  where
    go : (b : Bool) (o : Option ℕ) → option_map_or (λ i. nat_lt i (length names)) o false ≡ list_any p names → option_map_or (λ i. nat_lt i (suc (length names))) (if b then Some 0 else option_map suc o) false ≡ (b || list_any p names)
    go true o is = grind (arith, nat_tests)
    go false None is = is
    go false (Some i) is = grind (arith, nat_tests, is)

item_known : (before rest : List (Form Text)) (name : Text) → is_item_before (names_of (items_of (before ++ rest))) (items_before (known_following before)) name ≡ list_any (declares_in Space.of_script name) (lines_since (begins_space Space.of_script) before)
item_known before rest name =
    let own = flat_map (declared_by Space.of_script) before in
    let from = items_from before nothing_known in
    let count : items_before (known_following before) ≡ length own = omega (arith, from) in
    ap (λ l. is_item_before l (items_before (known_following before)) name) (names_split before rest)
    ∙ ap (λ k. is_item_before (own ++ names_of (items_of rest)) k name) count
    ∙ first_within (λ n. bytes_eq n name) own (names_of (items_of rest))
    ∙ among_flat Space.of_script name before
    ∙ ap (list_any (declares_in Space.of_script name)) (sym (all_since before))

-- two of these names are alike
twice_found : (names : List Text) → has_double names ≡ true → (name : Text) × (first between last : List Text) × (names ≡ first ++ name ∷ (between ++ name ∷ last))
twice_found [] is = let clash : ⊥ = cc in absurd clash
twice_found (n ∷ names) is = go (is_among names n) refl (twice_found names) is
  where
    go : (b : Bool) → is_among names n ≡ b → (has_double names ≡ true → (name : Text) × (first between last : List Text) × (names ≡ first ++ name ∷ (between ++ name ∷ last))) → (b || has_double names) ≡ true →
        (name : Text) × (first between last : List Text) × (n ∷ names ≡ first ++ name ∷ (between ++ name ∷ last))
    go true e later h =
        let (between, last, m, parts, same) = found_in (λ m. bytes_eq m n) names e in
        let equal : m ≡ n = same_name m n same in
        (n, [], between, last, ap (λ l. n ∷ l) (parts ∙ ap (λ k. between ++ k ∷ last) equal))
    go false e later h = let (name, first, between, last, parts) = later h in (name, n ∷ first, between, last, ap (λ l. n ∷ l) parts)

later_true : {rest : Bool} (b : Bool) → rest ≡ true → (b || rest) ≡ true
later_true true e = refl
later_true false e = e

twice_is : (first between last : List Text) (name : Text) → has_double (first ++ name ∷ (between ++ name ∷ last)) ≡ true
twice_is [] between last name = ap (λ b. b || has_double (between ++ name ∷ last)) (passes_in (λ n. bytes_eq n name) between last name (its_own name))
twice_is (n ∷ first) between last name = later_true (is_among (first ++ name ∷ (between ++ name ∷ last)) n) (twice_is first between last name)

module _ (forms before after : List (Form Text)) (form : Form Text) (whole : forms ≡ before ++ form ∷ after) where
  abbrev own : List Text
  own = names_of (items_of forms)

  abbrev here : NamesSoFar
  here = known_following before

  abbrev declared_since : Space → Text → Bool
  declared_since space name = list_any (declares_in space name) (lines_since (begins_space space) before)

  item_there : (name : Text) → is_item_before own (items_before here) name ≡ declared_since Space.of_script name
  item_there name = ap (λ l. is_item_before (names_of (items_of l)) (items_before here) name) whole ∙ item_known before (form ∷ after) name

  field_there : (name : Text) → is_some (first_declaration_of here.fields name) ≡ declared_since Space.of_class name
  field_there name = found_is here.fields name ∙ ap (λ l. is_among l name) (fields_known before) ∙ among_flat Space.of_class name (lines_since (begins_space Space.of_class) before)

  local_there : (name : Text) → is_some (first_declaration_of here.locals name) ≡ declared_since Space.of_body name
  local_there name = found_is here.locals name ∙ ap (λ l. is_among l name) (locals_known before) ∙ among_flat Space.of_body name (lines_since (begins_space Space.of_body) before)

  by_line : (space : Space) (name : Text) → declared_since space name ≡ true → IsDeclaredIn space before name
  by_line space name is = passed_since (begins_space space) (declares_in space name) before is

  by_pass : (space : Space) (name : Text) → IsDeclaredIn space before name → declared_since space name ≡ true
  by_pass space name (earlier, later, line, parts, declares, none) = since_passed (begins_space space) (declares_in space name) before earlier later line parts declares none

  another : (r : Role) → role_of_form form ≡ r → (name : Text) → is_among (first_name form) name ≡ true → is_declared_there own here r name ≡ true → DeclaresAnother before form
  another role.Class e name declares is =
      (Space.of_script, name, refl, ap (λ r. is_among (names_by Space.of_script r form) name) e ∙ declares, by_line Space.of_script name (sym (item_there name) ∙ is))
  another role.Procedure e name declares is =
      (Space.of_script, name, refl, ap (λ r. is_among (names_by Space.of_script r form) name) e ∙ declares, by_line Space.of_script name (sym (item_there name) ∙ is))
  another role.Field e name declares is =
      (Space.of_class, name, ap is_class_role e, ap (λ r. is_among (names_by Space.of_class r form) name) e ∙ declares, by_line Space.of_class name (sym (field_there name) ∙ is))
  another role.Declaration e name declares is =
      (Space.of_body, name, ap begins_body e, ap (λ r. is_among (names_by Space.of_body r form) name) e ∙ declares, by_line Space.of_body name (sym (local_there name) ∙ is))
  another _ e name declares is = let clash : ⊥ = cc in absurd clash

  declares_again_here : declares_again own here form ≡ true → DeclaresAgain forms before form
  declares_again_here is = go (list_any (is_declared_there own here (role_of_form form)) (first_name form)) refl is
    where
      go : (b : Bool) → list_any (is_declared_there own here (role_of_form form)) (first_name form) ≡ b → (b || has_double (parameter_names form)) ≡ true → DeclaresAgain forms before form
      go true e h =
          let (first, last, name, parts, there) = found_in (is_declared_there own here (role_of_form form)) (first_name form) e in
          inl (another (role_of_form form) refl name (ap (λ l. is_among l name) parts ∙ passes_in (λ n. bytes_eq n name) first last name (its_own name)) there)
      go false e h = inr (twice_found (parameter_names form) h)

  there : (space : Space) (r : Role) → role_of_form form ≡ r → (name : Text) → begins_space space form ≡ false → is_among (names_by space r form) name ≡ true → declared_since space name ≡ true →
      (is_among (first_name form) name ≡ true) × (is_declared_there own here r name ≡ true)
  there Space.of_script role.Class e name goes_on declares is = (declares, item_there name ∙ is)
  there Space.of_script role.Procedure e name goes_on declares is = (declares, item_there name ∙ is)
  there Space.of_script _ e name goes_on declares is = let clash : ⊥ = cc in absurd clash
  there Space.of_class role.Field e name goes_on declares is = (declares, field_there name ∙ is)
  there Space.of_class _ e name goes_on declares is = let clash : ⊥ = cc in absurd clash
  there Space.of_body role.Procedure e name goes_on declares is = let begins : begins_body (role_of_form form) ≡ true = ap begins_body e in let clash : ⊥ = cc in absurd clash
  there Space.of_body role.Declaration e name goes_on declares is = (declares, local_there name ∙ is)
  there Space.of_body _ e name goes_on declares is = let clash : ⊥ = cc in absurd clash

  is_refused : DeclaresAgain forms before form → declares_again own here form ≡ true
  is_refused (inl (space, name, goes_on, declares, declared)) =
      let (among, is) = there space (role_of_form form) refl name goes_on declares (by_pass space name declared) in
      ap (λ b. b || has_double (parameter_names form)) (some_passes (is_declared_there own here (role_of_form form)) (first_name form) name among is)
  is_refused (inr (name, first, between, last, parts)) =
      later_true (list_any (is_declared_there own here (role_of_form form)) (first_name form)) (ap has_double parts ∙ twice_is first between last name)

refused_again : (forms : List (Form Text)) → AreRefused DeclaresAgain (declares_again (names_of (items_of forms))) forms
refused_again forms before after form whole = (declares_again_here forms before after form whole, is_refused forms before after form whole)

pub double_declared_again : (bytes : List ℕ) (n : ℕ) → IsFaultOf bytes (DoubleName n) → IsFirstLine DeclaresAgain (forms_of (lines_of bytes)) n
double_declared_again bytes n (formed, (known, is)) =
    let forms = forms_of (lines_of bytes) in
    first_said DeclaresAgain (declares_again (names_of (items_of forms))) forms (refused_again forms) n is

pub script_declared_once : (bytes : List ℕ) (script : Script) → IsScriptOf bytes script → IsOfNoLine DeclaresAgain (forms_of (lines_of bytes))
script_declared_once bytes script is =
    let forms = forms_of (lines_of bytes) in
    none_said DeclaresAgain (declares_again (names_of (items_of forms))) forms (refused_again forms) is.tree.named.once

pub none_declared_again : (bytes : List ℕ) (fault : ScriptFault) → IsFaultOf bytes fault → 5 < number_of_fault fault → IsOfNoLine DeclaresAgain (forms_of (lines_of bytes))
none_declared_again bytes fault is later =
    let (formed, none) = none_double bytes fault is later in
    let forms = forms_of (lines_of bytes) in
    none_said DeclaresAgain (declares_again (names_of (items_of forms))) forms (refused_again forms) none
