-- Where lines are, by the blocks that are open before them: in the head of a class, whose fields so far are known, or in a body,
-- where the class of `self` is known.
use Rattle.std.proofs.Common.{◌≡◌, refl, sym, ap, subst, ◌∙◌, ℕ, suc, ◌+◌, ◌-◌, ◌<◌, List, [], ◌∷◌, ◌++◌, Bool, true, false, ◌&&◌, length, Option, Some, None, add-zero, length-append, arith}
use Rattle.std.proofs.lemmas.Bool.{false≢true}
use Rattle.std.specs.Prelude.{if◌then◌else◌}
use Rattle.std.specs.List.{list_all}
use Rattle.std.specs.Option.{option_and_then}
use Rattle.wb_tree.specs.declared.script_lines.LineKind.{LineKind}
use Rattle.wb_tree.specs.declared.script_lines.LineKind.TheVariants as line_kind
use Rattle.wb_tree.specs.declared.script_lines.Operand.TheVariants.{Name}
use Rattle.wb_tree.specs.declared.script_lines.Role.{Role}
use Rattle.wb_tree.specs.declared.script_lines.Role.TheVariants as role
use Rattle.wb_tree.specs.declared.script_lines.Form.{Form}
use Rattle.wb_tree.specs.declared.script_lines.Form.TheVariants.{Skip, Unknown, Line}
use Rattle.wb_language.specs.Forms.{role_of_form}
use Rattle.wb_language.specs.LineKinds.{role_of, is_outside_role}
use Rattle.wb_language.specs.Names.{Text, NamesSoFar, Declaration, known_after, begins_body, fields_after, first_name}
use Rattle.wb_language.specs.Resolved.{has_this, class_of_this, resolved_line}
use Rattle.wb_script.specs.Building.{Counts, counts_after, classes_after, with_field, last_count}
use Rattle.wb_nesting.specs.Machine.{move_of, moved, step}
use Rattle.wb_lines.specs.Typed.{is_typed}
use Rattle.wb_nesting.specs.declared.open.Open.{Open}
use Rattle.wb_nesting.specs.declared.open.Open.TheVariants.{Fields, Made, Destroyed, Declarations, Statements, Branch, Block}
use Rattle.wb_nesting.specs.declared.open.Move.{Move}
use Rattle.wb_nesting.specs.declared.open.Move.TheVariants.{Close, Stay, Enter}
use Rattle.wb_script.proofs.counts.CountLemmas.{as_many_with_field}
use Rattle.wb_script.proofs.counts.CountedLines.{Counted}
use Rattle.wb_script.proofs.names.FitLemmas.{both_hold, stands_apart}
use Rattle.wb_nesting.proofs.Runs.{run}
use Rattle.wb_lines.proofs.TypedLemmas.{both}

-- the first of lines that are read
pub run_first : (stack last : List Open) (r : Role) (roles : List Role) → run stack (r ∷ roles) ≡ Some last → (next : List Open) × (step stack r ≡ Some next) × (run next roles ≡ Some last)
run_first stack last r roles is = go (step stack r) refl is
  where
    go : (o : Option (List Open)) → step stack r ≡ o → option_and_then (λ next. run next roles) o ≡ Some last → (next : List Open) × (step stack r ≡ Some next) × (run next roles ≡ Some last)
    go None e is = let clash : ⊥ = cc in absurd clash
    go (Some next) e is = (next, e, is)

-- not in the head of a class
abbrev pub is_no_head : Open → Bool
is_no_head Fields = false
is_no_head _ = true

abbrev pub are_no_heads : List Open → Bool
are_no_heads stack = list_all is_no_head stack

-- a move to no head
abbrev leads_to_none : Option Move → Bool
leads_to_none None = true
leads_to_none (Some Close) = true
leads_to_none (Some (Stay place)) = is_no_head place
leads_to_none (Some (Enter outer inner)) = is_no_head outer && is_no_head inner

abbrev pub is_class_role : Role → Bool
is_class_role role.Class = true
is_class_role _ = false

inner_moves : (place : Open) (r : Role) → is_no_head place ≡ true → leads_to_none (move_of (Some place) r) ≡ true
inner_moves Fields r free = let clash : ⊥ = cc in absurd clash
inner_moves Made role.Destroy free = refl
inner_moves Destroyed role.End free = refl
inner_moves Declarations role.Declaration free = refl
inner_moves Statements role.Plain free = refl
inner_moves Branch role.Else free = refl
inner_moves Block role.Plain free = refl
inner_moves _ _ free = refl

outer_moves : (r : Role) → is_class_role r ≡ false → leads_to_none (move_of None r) ≡ true
outer_moves role.Class free = let clash : ⊥ = cc in absurd clash
outer_moves _ free = refl

no_heads_moved : (m : Option Move) (below next : List Open) → leads_to_none m ≡ true → are_no_heads below ≡ true → moved m below ≡ Some next → are_no_heads next ≡ true
no_heads_moved None below next leads free is = let clash : ⊥ = cc in absurd clash
no_heads_moved (Some Close) below next leads free is = let same : below ≡ next = cc in subst (λ l. are_no_heads l ≡ true) same free
no_heads_moved (Some (Stay place)) below next leads free is = let same : place ∷ below ≡ next = cc in subst (λ l. are_no_heads l ≡ true) same (both_hold _ _ leads free)
no_heads_moved (Some (Enter outer inner)) below next leads free is =
    let (first, second) = both (is_no_head outer) (is_no_head inner) leads in
    let same : inner ∷ (outer ∷ below) ≡ next = cc in
    subst (λ l. are_no_heads l ≡ true) same (both_hold _ _ second (both_hold _ _ first free))

-- only a class begins a head
pub no_heads_after : (stack next : List Open) (r : Role) → is_class_role r ≡ false → are_no_heads stack ≡ true → step stack r ≡ Some next → are_no_heads next ≡ true
no_heads_after [] next r other free is = no_heads_moved (move_of None r) [] next (outer_moves r other) refl is
no_heads_after (place ∷ below) next r other free is =
    let (here, rest) = both (is_no_head place) (are_no_heads below) free in
    no_heads_moved (move_of (Some place) r) below next (inner_moves place r here) rest is

-- where a class begins no block is open
pub class_outside : (stack next : List Open) → step stack role.Class ≡ Some next → (stack ≡ []) × (next ≡ Fields ∷ [])
class_outside [] next is = (refl, cc)
class_outside (Fields ∷ below) next is = let clash : ⊥ = cc in absurd clash
class_outside (_ ∷ below) next is = let clash : ⊥ = cc in absurd clash

-- what may be in the head of a class alone
abbrev needs_head : Role → Bool
needs_head role.Field = true
needs_head role.Construct = true
needs_head _ = false

pub never_in_body : (stack next : List Open) (r : Role) → needs_head r ≡ true → are_no_heads stack ≡ true → step stack r ≡ Some next → ⊥
never_in_body [] next role.Field needs free is = cc
never_in_body [] next role.Construct needs free is = cc
never_in_body (Fields ∷ below) next r needs free is = cc
never_in_body (Made ∷ below) next role.Field needs free is = cc
never_in_body (Made ∷ below) next role.Construct needs free is = cc
never_in_body (place ∷ below) next role.Field needs free is = cc
never_in_body (place ∷ below) next role.Construct needs free is = cc
never_in_body stack next _ needs free is = false≢true needs

-- what may be in bodies alone
abbrev needs_body : Role → Bool
needs_body role.Declaration = true
needs_body role.Plain = true
needs_body role.Loop = true
needs_body role.If = true
needs_body _ = false

pub role_needs_body : (k : LineKind) → stands_apart k ≡ false → needs_body (role_of k) ≡ true
role_needs_body line_kind.Class apart = let clash : ⊥ = cc in absurd clash
role_needs_body line_kind.Field apart = let clash : ⊥ = cc in absurd clash
role_needs_body line_kind.ClassField apart = let clash : ⊥ = cc in absurd clash
role_needs_body line_kind.Constructor apart = let clash : ⊥ = cc in absurd clash
role_needs_body line_kind.Destructor apart = let clash : ⊥ = cc in absurd clash
role_needs_body line_kind.Proc apart = let clash : ⊥ = cc in absurd clash
role_needs_body line_kind.Op apart = let clash : ⊥ = cc in absurd clash
role_needs_body line_kind.Else apart = let clash : ⊥ = cc in absurd clash
role_needs_body line_kind.End apart = let clash : ⊥ = cc in absurd clash
role_needs_body _ apart = refl

not_outside : (r : Role) (next : List Open) → needs_body r ≡ true → step [] r ≡ Some next → ⊥
not_outside role.Declaration next needs is = cc
not_outside _ next needs is = cc

not_in_head : (r : Role) (next : List Open) → needs_body r ≡ true → step (Fields ∷ []) r ≡ Some next → ⊥
not_in_head role.Declaration next needs is = cc
not_in_head _ next needs is = cc

-- Outside of items nothing is known. In the head of a class that class is the last, with its fields so far. In a body, and from there
-- to the next class, the class of `self` is known.
pub data IsWhere (known : NamesSoFar) (counts : Counts) : List Open → Type 0 where
  outside : IsWhere known counts []
  heading : 0 < length counts.classes → last_count counts.classes ≡ length known.fields → IsWhere known counts (Fields ∷ [])
  inside : {stack : List Open} → counts.this ≡ class_of_this known → are_no_heads stack ≡ true → IsWhere known counts stack

pub this_known : (known : NamesSoFar) (counts : Counts) (stack next : List Open) (r : Role) → IsWhere known counts stack → needs_body r ≡ true → step stack r ≡ Some next → counts.this ≡ class_of_this known
this_known known counts stack next r IsWhere.outside needs is = absurd (not_outside r next needs is)
this_known known counts stack next r (IsWhere.heading some fields) needs is = absurd (not_in_head r next needs is)
this_known known counts stack next r (IsWhere.inside this free) needs is = this

pub fields_known : (known : NamesSoFar) (counts : Counts) (stack next : List Open) → IsWhere known counts stack → step stack role.Field ≡ Some next → last_count counts.classes ≡ length known.fields
fields_known known counts stack next IsWhere.outside is = let clash : ⊥ = cc in absurd clash
fields_known known counts stack next (IsWhere.heading some fields) is = fields
fields_known known counts stack next (IsWhere.inside this free) is = absurd (never_in_body stack next role.Field refl free is)

last_begun : (classes : List ℕ) → last_count (classes ++ 0 ∷ []) ≡ 0
last_begun [] = refl
last_begun (count ∷ []) = refl
last_begun (count ∷ next ∷ classes) = last_begun (next ∷ classes)

one_field_more : (classes : List ℕ) → 0 < length classes → last_count (with_field classes) ≡ suc (last_count classes)
one_field_more [] some = absurd (omega arith)
one_field_more (count ∷ []) some = refl
one_field_more (count ∷ next ∷ []) some = refl
one_field_more (count ∷ next ∷ other ∷ classes) some = one_field_more (next ∷ other ∷ classes) (omega arith)

-- a line whose first word declares a name
pub one_name : (form : Form Text) → is_typed form ≡ true → role_of_form form ≡ role.Field → length (first_name form) ≡ 1
one_name (Line line_kind.Field (Name n ∷ os)) typed is = refl
one_name (Line line_kind.Field []) typed is = absurd (false≢true typed)
one_name (Line line_kind.Field (_ ∷ os)) typed is = absurd (false≢true typed)
one_name (Line line_kind.ClassField (Name n ∷ os)) typed is = refl
one_name (Line line_kind.ClassField []) typed is = absurd (false≢true typed)
one_name (Line line_kind.ClassField (_ ∷ os)) typed is = absurd (false≢true typed)
one_name (Line _ operands) typed is = let clash : ⊥ = cc in absurd clash
one_name _ typed is = let clash : ⊥ = cc in absurd clash

module _ (own : List Declaration) (known : NamesSoFar) (counts : Counts) (counted : Counted own known counts) where
  -- what is known and counted after a line
  abbrev next_known : Form Text → NamesSoFar
  next_known form = known_after known form

  abbrev next_counts : Form Text → Counts
  next_counts form = counts_after counts (resolved_line own known form)

  as_before : counts.this ≡ class_of_this known → counts.this ≡ (if has_this known.body then Some (known.classes + 0 - 1) else None)
  as_before is = is ∙ ap (λ n. if has_this known.body then Some (n - 1) else None) (sym (add-zero known.classes))

  -- a line that begins no body leaves `self` what it is
  this_kept : (form : Form Text) → is_outside_role (role_of_form form) ≡ false → counts.this ≡ class_of_this known → (next_counts form).this ≡ class_of_this (next_known form)
  this_kept Skip stays is = as_before is
  this_kept Unknown stays is = as_before is
  this_kept (Line line_kind.Class operands) stays is = let clash : ⊥ = cc in absurd clash
  this_kept (Line line_kind.Field operands) stays is = let clash : ⊥ = cc in absurd clash
  this_kept (Line line_kind.ClassField operands) stays is = let clash : ⊥ = cc in absurd clash
  this_kept (Line line_kind.Constructor operands) stays is = let clash : ⊥ = cc in absurd clash
  this_kept (Line line_kind.Destructor operands) stays is = let clash : ⊥ = cc in absurd clash
  this_kept (Line line_kind.Proc operands) stays is = let clash : ⊥ = cc in absurd clash
  this_kept (Line line_kind.Op operands) stays is = let clash : ⊥ = cc in absurd clash
  this_kept (Line _ operands) stays is = as_before is

  last_class : Some (length counts.classes - 1) ≡ Some (known.classes + 0 - 1)
  last_class = ap (λ n. Some (n - 1)) (counted.classes ∙ sym (add-zero known.classes))

  -- and one that begins a body tells what it is
  this_begun : (form : Form Text) → begins_body (role_of_form form) ≡ true → (next_counts form).this ≡ class_of_this (next_known form)
  this_begun (Line line_kind.Constructor operands) begins = last_class
  this_begun (Line line_kind.Destructor operands) begins = last_class
  this_begun (Line line_kind.Proc operands) begins = refl
  this_begun (Line line_kind.Op operands) begins = refl
  this_begun (Line _ operands) begins = absurd (false≢true begins)
  this_begun _ begins = absurd (false≢true begins)

  -- a class begins without fields
  class_begun : (form : Form Text) → role_of_form form ≡ role.Class → IsWhere (next_known form) (next_counts form) (Fields ∷ [])
  class_begun (Line line_kind.Class operands) is = IsWhere.heading (omega (arith, length-append counts.classes (0 ∷ []))) (last_begun counts.classes)
  class_begun (Line _ operands) is = let clash : ⊥ = cc in absurd clash
  class_begun _ is = let clash : ⊥ = cc in absurd clash

  -- and has one more with each line of a field
  more_fields : (form : Form Text) → is_typed form ≡ true → role_of_form form ≡ role.Field → 0 < length counts.classes → last_count counts.classes ≡ length known.fields → IsWhere (next_known form) (next_counts form) (Fields ∷ [])
  more_fields (Line k operands) typed is some fields = IsWhere.heading (counted_more (sym is)) (known_more (sym is))
    where
      counted_more : role.Field ≡ role_of k → 0 < length (classes_after (role_of k) counts.classes)
      counted_more same = subst (λ r. 0 < length (classes_after r counts.classes)) same (omega (arith, as_many_with_field counts.classes, some))

      known_more : role.Field ≡ role_of k → last_count (classes_after (role_of k) counts.classes) ≡ length (fields_after (role_of k) (Line k operands) known.fields)
      known_more same =
          subst (λ r. last_count (classes_after r counts.classes) ≡ length (fields_after r (Line k operands) known.fields)) same
          (omega (arith, one_field_more counts.classes some, fields, length-append known.fields (first_name (Line k operands)), one_name (Line k operands) typed is))
  more_fields _ typed is some fields = let clash : ⊥ = cc in absurd clash

  module _ (form : Form Text) where
    abbrev Behind : List Open → Type 0
    Behind stack = IsWhere (next_known form) (next_counts form) stack

    -- a line that begins a body
    in_begun : (next : List Open) → begins_body (role_of_form form) ≡ true → are_no_heads next ≡ true → Behind next
    in_begun next begins free = IsWhere.inside (this_begun form begins) free

    begins : (r : Role) → role_of_form form ≡ r → begins_body r ≡ true → begins_body (role_of_form form) ≡ true
    begins r is yes_begins = ap begins_body is ∙ yes_begins

    from_outside : (r : Role) (next : List Open) → role_of_form form ≡ r → step [] r ≡ Some next → Behind next
    from_outside role.Class next is moves = let same : Fields ∷ [] ≡ next = cc in subst Behind same (class_begun form is)
    from_outside role.Procedure next is moves = let same : Declarations ∷ [] ≡ next = cc in subst Behind same (in_begun (Declarations ∷ []) (begins role.Procedure is refl) refl)
    from_outside _ next is moves = let clash : ⊥ = cc in absurd clash

    from_heading : (r : Role) (next : List Open) → is_typed form ≡ true → 0 < length counts.classes → last_count counts.classes ≡ length known.fields → role_of_form form ≡ r → step (Fields ∷ []) r ≡ Some next → Behind next
    from_heading role.Field next typed some fields is moves = let same : Fields ∷ [] ≡ next = cc in subst Behind same (more_fields form typed is some fields)
    from_heading role.Construct next typed some fields is moves =
        let same : Declarations ∷ (Made ∷ []) ≡ next = cc in
        subst Behind same (in_begun (Declarations ∷ (Made ∷ [])) (begins role.Construct is refl) refl)
    from_heading role.Destroy next typed some fields is moves =
        let same : Declarations ∷ (Destroyed ∷ []) ≡ next = cc in
        subst Behind same (in_begun (Declarations ∷ (Destroyed ∷ [])) (begins role.Destroy is refl) refl)
    from_heading role.End next typed some fields is moves = let same : [] ≡ next = cc in subst Behind same IsWhere.outside
    from_heading _ next typed some fields is moves = let clash : ⊥ = cc in absurd clash

    from_inside : (r : Role) (stack next : List Open) → counts.this ≡ class_of_this known → are_no_heads stack ≡ true → role_of_form form ≡ r → step stack r ≡ Some next → Behind next
    from_inside role.Class stack next this free is moves = subst Behind (sym (class_outside stack next moves).1) (class_begun form is)
    from_inside role.Field stack next this free is moves = absurd (never_in_body stack next role.Field refl free moves)
    from_inside role.Construct stack next this free is moves = absurd (never_in_body stack next role.Construct refl free moves)
    from_inside role.Destroy stack next this free is moves = in_begun next (begins role.Destroy is refl) (no_heads_after stack next role.Destroy refl free moves)
    from_inside role.Procedure stack next this free is moves = in_begun next (begins role.Procedure is refl) (no_heads_after stack next role.Procedure refl free moves)
    from_inside r stack next this free is moves = IsWhere.inside (this_kept form (ap is_outside_role is) this) (no_heads_after stack next r refl free moves)

    -- where the next line is
    pub where_next : (stack next : List Open) → is_typed form ≡ true → IsWhere known counts stack → step stack (role_of_form form) ≡ Some next → Behind next
    where_next stack next typed IsWhere.outside moves = from_outside (role_of_form form) next refl moves
    where_next stack next typed (IsWhere.heading some fields) moves = from_heading (role_of_form form) next typed some fields refl moves
    where_next stack next typed (IsWhere.inside this free) moves = from_inside (role_of_form form) stack next this free refl moves

  -- a line that is skipped leaves it
  pub where_skipped : (stack : List Open) → IsWhere known counts stack → IsWhere (next_known Skip) (next_counts Skip) stack
  where_skipped stack IsWhere.outside = IsWhere.outside
  where_skipped stack (IsWhere.heading some fields) = IsWhere.heading some fields
  where_skipped stack (IsWhere.inside this free) = IsWhere.inside (as_before this) free
