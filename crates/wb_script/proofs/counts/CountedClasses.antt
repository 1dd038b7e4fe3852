-- Each class of a script has as many fields as are counted of its lines.
use Rattle.std.proofs.Common.{◌≡◌, refl, sym, ap, subst, ◌∙◌, ℕ, zero, suc, ◌+◌, List, [], ◌∷◌, ◌++◌, Bool, true, false, length, map, Some, add-zero, zero-add, append-nil, append_assoc, length-append, arith}
use Rattle.std.specs.List.{list_all}
use Rattle.std.proofs.Math.Numerals.{one-add}
use Rattle.std.proofs.lemmas.List.{map-append}
use Rattle.wb_tree.specs.declared.script_lines.LineKind.{LineKind}
use Rattle.wb_tree.specs.declared.script_lines.LineKind.TheVariants as line_kind
use Rattle.wb_tree.specs.declared.script_lines.ItemKind.TheVariants as item
use Rattle.wb_tree.specs.declared.script_lines.Operand.{Operand}
use Rattle.wb_tree.specs.declared.script_lines.Operand.TheVariants.{Name}
use Rattle.wb_tree.specs.declared.script_lines.Role.{Role}
use Rattle.wb_tree.specs.declared.script_lines.Role.TheVariants as role
use Rattle.wb_tree.specs.declared.script_lines.Form.{Form}
use Rattle.wb_tree.specs.declared.script_lines.Form.TheVariants.{Skip, Unknown, Line}
use Rattle.wb_language.specs.Forms.{role_of_form}
use Rattle.wb_language.specs.Grammar.{IsGrammatical}
use Rattle.wb_language.specs.LineKinds.{role_of}
use Rattle.wb_language.specs.Names.{Text, NamesSoFar, Declaration, first_name, of_kind, items_by, items_of, fields_with, following_fields, known_after, nothing_known}
use Rattle.wb_language.specs.Passes.{state_after}
use Rattle.wb_language.specs.Resolved.{resolved}
use Rattle.wb_script.specs.Building.{Counts, counts_after, counts_of, nothing_counted, classes_after, with_field}
use Rattle.wb_script.specs.BytesOf.{fields_among}
use Rattle.wb_nesting.specs.Machine.{step}
use Rattle.wb_lines.specs.Typed.{is_typed, AreTyped}
use Rattle.wb_nesting.specs.declared.open.Open.{Open}
use Rattle.wb_nesting.specs.declared.open.Open.TheVariants.{Fields, Made, Destroyed, Declarations}
use Rattle.wb_script.proofs.names.KnownLines.{never_unknown}
use Rattle.wb_script.proofs.names.ResolvedLemmas.{of_kind-append, contents_of, contents_after, lines_from, next_counts}
use Rattle.wb_nesting.proofs.Runs.{run, items_run}
use Rattle.wb_lines.proofs.TypedLemmas.{both}
use Rattle.wb_script.proofs.building.PlacesOfLines.{run_first, are_no_heads, is_class_role, no_heads_after, class_outside, never_in_body, one_name}

-- the last class has so many fields more
abbrev with_fields : ℕ → List ℕ → List ℕ
with_fields zero classes = classes
with_fields (suc n) classes = with_fields n (with_field classes)

last_has : (classes : List ℕ) (count : ℕ) → with_field (classes ++ count ∷ []) ≡ classes ++ suc count ∷ []
last_has [] count = refl
last_has (one ∷ []) count = refl
last_has (one ∷ next ∷ classes) count = ap (λ l. one ∷ l) (last_has (next ∷ classes) count)

all_fields : (n count : ℕ) (classes : List ℕ) → with_fields n (classes ++ count ∷ []) ≡ classes ++ (n + count) ∷ []
all_fields zero count classes = ap (λ m. classes ++ m ∷ []) (sym (zero-add count))
all_fields (suc n) count classes =
    let same : n + suc count ≡ suc n + count = omega arith in
    ap (with_fields n) (last_has classes count) ∙ all_fields n (suc count) classes ∙ ap (λ m. classes ++ m ∷ []) same

fields-append : (items others : List Declaration) → fields_among (items ++ others) ≡ fields_among items ++ fields_among others
fields-append items others = ap (map (λ (i : Declaration). length i.fields)) (of_kind-append item.Class items others) ∙ map-append (λ (i : Declaration). length i.fields) (of_kind item.Class items) (of_kind item.Class others)

-- a line that begins no class
none_begun : (k : LineKind) (operands : List (Operand Text)) (following : List (Form Text)) → is_class_role (role_of k) ≡ false → of_kind item.Class (items_by (Line k operands) following) ≡ []
none_begun line_kind.Class operands following other = let clash : ⊥ = cc in absurd clash
none_begun line_kind.Proc [] following other = refl
none_begun line_kind.Proc (Name n ∷ os) following other = refl
none_begun line_kind.Proc (_ ∷ os) following other = refl
none_begun line_kind.Op [] following other = refl
none_begun line_kind.Op (Name n ∷ os) following other = refl
none_begun line_kind.Op (_ ∷ os) following other = refl
none_begun _ operands following other = refl

-- and one that begins a class
class_begun : (k : LineKind) (operands : List (Operand Text)) (following : List (Form Text)) → is_typed (Line k operands) ≡ true → role_of k ≡ role.Class → fields_among (items_by (Line k operands) following) ≡ length (following_fields following) ∷ []
class_begun line_kind.Class [] following typed is = let clash : ⊥ = cc in absurd clash
class_begun line_kind.Class (Name n ∷ os) following typed is = refl
class_begun line_kind.Class (_ ∷ os) following typed is = let clash : ⊥ = cc in absurd clash
class_begun _ operands following typed is = let clash : ⊥ = cc in absurd clash

-- a line that changes no class
abbrev leaves_classes : Role → Bool
leaves_classes role.Class = false
leaves_classes role.Field = false
leaves_classes _ = true

no_class : (r : Role) → leaves_classes r ≡ true → is_class_role r ≡ false
no_class role.Class leaves = let clash : ⊥ = cc in absurd clash
no_class _ leaves = refl

classes_left : (r : Role) (classes : List ℕ) → leaves_classes r ≡ true → classes_after r classes ≡ classes
classes_left role.Class classes leaves = let clash : ⊥ = cc in absurd clash
classes_left role.Field classes leaves = let clash : ⊥ = cc in absurd clash
classes_left _ classes leaves = refl

-- in the head of a class, or elsewhere
data At : List Open → Type 0 where
  heading : At (Fields ∷ [])
  elsewhere : {stack : List Open} → are_no_heads stack ≡ true → At stack

-- the classes so far, with the fields that the last of them still has
abbrev classes_with : {stack : List Open} → At stack → List (Form Text) → List ℕ → List ℕ
classes_with At.heading forms classes = with_fields (length (following_fields forms)) classes
classes_with (At.elsewhere free) forms classes = classes

module _ (own : List Declaration) where
  -- the classes of all lines
  abbrev classes_of : List (Form Text) → NamesSoFar → Counts → List ℕ
  classes_of forms known counts = (state_after counts_after counts (lines_from own known forms)).classes

  -- what is counted of lines after these
  abbrev Are : {stack : List Open} → At stack → List (Form Text) → NamesSoFar → Counts → Type 0
  Are at forms known counts = classes_of forms known counts ≡ classes_with at forms counts.classes ++ fields_among (items_of forms)

  module _ (k : LineKind) (operands : List (Operand Text)) (forms : List (Form Text)) (known : NamesSoFar) (counts : Counts) (typed : is_typed (Line k operands) ≡ true)
      (later : (next : List Open) (at : At next) → run next (contents_of forms) ≡ Some [] → Are at forms (known_after known (Line k operands)) (next_counts own known counts (Line k operands))) where
    abbrev all_classes : List ℕ
    all_classes = classes_of (Line k operands ∷ forms) known counts

    -- a line that leaves the classes, to a place that is no head
    left : (next : List Open) → are_no_heads next ≡ true → run next (contents_of forms) ≡ Some [] → leaves_classes (role_of k) ≡ true → all_classes ≡ counts.classes ++ fields_among (items_of (Line k operands ∷ forms))
    left next free reads leaves =
        later next (At.elsewhere free) reads
        ∙ ap (λ l. l ++ fields_among (items_of forms)) (classes_left (role_of k) counts.classes leaves)
        ∙ ap (λ l. counts.classes ++ (map (λ (i : Declaration). length i.fields) l ++ fields_among (items_of forms))) (sym (none_begun k operands forms (no_class (role_of k) leaves)))
        ∙ ap (λ l. counts.classes ++ l) (sym (fields-append (items_by (Line k operands) forms) (items_of forms)))

    field_here : role_of k ≡ role.Field → run (Fields ∷ []) (contents_of forms) ≡ Some [] → all_classes ≡ classes_with At.heading (Line k operands ∷ forms) counts.classes ++ fields_among (items_of (Line k operands ∷ forms))
    field_here is reads =
        let following = following_fields forms in
        let more : length (fields_with (role_of k) (Line k operands) following) ≡ suc (length following) =
        ap (λ r. length (fields_with r (Line k operands) following)) is ∙ length-append (first_name (Line k operands)) following ∙ ap (λ n. n + length following) (one_name (Line k operands) typed is) ∙ one-add (length following) in
        let other : is_class_role (role_of k) ≡ false = ap is_class_role is in
        later (Fields ∷ []) At.heading reads
        ∙ ap (λ r. with_fields (length following) (classes_after r counts.classes) ++ fields_among (items_of forms)) is
        ∙ ap (λ n. with_fields n counts.classes ++ fields_among (items_of forms)) (sym more)
        ∙ ap (λ l. with_fields (length (following_fields (Line k operands ∷ forms))) counts.classes ++ (map (λ (i : Declaration). length i.fields) l ++ fields_among (items_of forms))) (sym (none_begun k operands forms other))
        ∙ ap (λ l. with_fields (length (following_fields (Line k operands ∷ forms))) counts.classes ++ l) (sym (fields-append (items_by (Line k operands) forms) (items_of forms)))

    class_here : role_of k ≡ role.Class → run (Fields ∷ []) (contents_of forms) ≡ Some [] → all_classes ≡ counts.classes ++ fields_among (items_of (Line k operands ∷ forms))
    class_here is reads =
        let count = length (following_fields forms) in
        later (Fields ∷ []) At.heading reads
        ∙ ap (λ r. with_fields count (classes_after r counts.classes) ++ fields_among (items_of forms)) is
        ∙ ap (λ l. l ++ fields_among (items_of forms)) (all_fields count 0 counts.classes)
        ∙ ap (λ n. (counts.classes ++ n ∷ []) ++ fields_among (items_of forms)) (add-zero count)
        ∙ append_assoc counts.classes (count ∷ []) (fields_among (items_of forms))
        ∙ ap (λ l. counts.classes ++ (l ++ fields_among (items_of forms))) (sym (class_begun k operands forms typed is))
        ∙ ap (λ l. counts.classes ++ l) (sym (fields-append (items_by (Line k operands) forms) (items_of forms)))

    -- a line that leaves the head of a class, which has no more fields then
    head_left : (next : List Open) → are_no_heads next ≡ true → run next (contents_of forms) ≡ Some [] → leaves_classes (role_of k) ≡ true → length (fields_with (role_of k) (Line k operands) (following_fields forms)) ≡ 0 → Are At.heading (Line k operands ∷ forms) known counts
    head_left next free reads leaves ends = left next free reads leaves ∙ ap (λ n. with_fields n counts.classes ++ fields_among (items_of (Line k operands ∷ forms))) (sym ends)

    ends_with : (r : Role) → role_of k ≡ r → length (fields_with r (Line k operands) (following_fields forms)) ≡ 0 → length (fields_with (role_of k) (Line k operands) (following_fields forms)) ≡ 0
    ends_with r is ends = ap (λ r. length (fields_with r (Line k operands) (following_fields forms))) is ∙ ends

    -- from the head of a class
    from_heading : (r : Role) (next : List Open) → role_of k ≡ r → step (Fields ∷ []) r ≡ Some next → run next (contents_of forms) ≡ Some [] → Are At.heading (Line k operands ∷ forms) known counts
    from_heading role.Field next is moves reads = let same : next ≡ Fields ∷ [] = cc in field_here is (ap (λ l. run l (contents_of forms)) (sym same) ∙ reads)
    from_heading role.Construct next is moves reads =
        let same : Declarations ∷ (Made ∷ []) ≡ next = cc in
        head_left next (subst (λ l. are_no_heads l ≡ true) same refl) reads (ap leaves_classes is) (ends_with role.Construct is refl)
    from_heading role.Destroy next is moves reads =
        let same : Declarations ∷ (Destroyed ∷ []) ≡ next = cc in
        head_left next (subst (λ l. are_no_heads l ≡ true) same refl) reads (ap leaves_classes is) (ends_with role.Destroy is refl)
    from_heading role.End next is moves reads =
        let same : [] ≡ next = cc in
        head_left next (subst (λ l. are_no_heads l ≡ true) same refl) reads (ap leaves_classes is) (ends_with role.End is refl)
    from_heading _ next is moves reads = let clash : ⊥ = cc in absurd clash

    -- and from elsewhere
    from_elsewhere : (r : Role) (stack next : List Open) (free : are_no_heads stack ≡ true) → role_of k ≡ r → step stack r ≡ Some next → run next (contents_of forms) ≡ Some [] → Are (At.elsewhere {stack = stack} free) (Line k operands ∷ forms) known counts
    from_elsewhere role.Class stack next free is moves reads = class_here is (ap (λ l. run l (contents_of forms)) (sym (class_outside stack next moves).1) ∙ reads)
    from_elsewhere role.Field stack next free is moves reads = absurd (never_in_body stack next role.Field refl free moves)
    from_elsewhere r stack next free is moves reads = left next (no_heads_after stack next r refl free moves) reads (ap leaves_classes is)

  classes_from : (forms : List (Form Text)) (known : NamesSoFar) (counts : Counts) (stack : List Open) (at : At stack) → run stack (contents_of forms) ≡ Some [] → AreTyped forms → Are at forms known counts
  classes_from [] known counts stack At.heading reads typed = let clash : ⊥ = cc in absurd clash
  classes_from [] known counts stack (At.elsewhere free) reads typed = sym (append-nil counts.classes)
  classes_from (Skip ∷ forms) known counts stack At.heading reads typed = classes_from forms (known_after known Skip) (next_counts own known counts Skip) stack At.heading reads typed
  classes_from (Skip ∷ forms) known counts stack (At.elsewhere free) reads typed = classes_from forms (known_after known Skip) (next_counts own known counts Skip) stack (At.elsewhere free) reads typed
  classes_from (Unknown ∷ forms) known counts stack at reads typed =
      let (next, moves, later) = run_first stack [] role.Unknown (contents_of forms) reads in
      let clash : ⊥ = cc (moves, never_unknown stack) in
      absurd clash
  classes_from (Line k operands ∷ forms) known counts stack at reads typed =
      let form = Line k operands in
      let (here, rest) = both (is_typed form) (list_all is_typed forms) typed in
      let (next, moves, later) = run_first stack [] (role_of k) (contents_of forms) (ap (run stack) (sym (contents_after k operands forms)) ∙ reads) in
      go stack at next moves later here (λ next at reads. classes_from forms (known_after known form) (next_counts own known counts form) next at reads rest)
    where
      go : (stack : List Open) (at : At stack) (next : List Open) → step stack (role_of k) ≡ Some next → run next (contents_of forms) ≡ Some [] → is_typed (Line k operands) ≡ true →
          ((next : List Open) (at : At next) → run next (contents_of forms) ≡ Some [] → Are at forms (known_after known (Line k operands)) (next_counts own known counts (Line k operands))) → Are at (Line k operands ∷ forms) known counts
      go stack At.heading next moves reads here later = from_heading k operands forms known counts here later (role_of k) next refl moves reads
      go stack (At.elsewhere free) next moves reads here later = from_elsewhere k operands forms known counts here later (role_of k) stack next free refl moves reads

-- the classes of a script, each by how many fields it has
pub counted_classes : (forms : List (Form Text)) → IsGrammatical (map role_of_form forms) → AreTyped forms → (counts_of (resolved forms)).classes ≡ fields_among (items_of forms)
counted_classes forms grammar typed = classes_from (items_of forms) forms nothing_known nothing_counted [] (At.elsewhere refl) (items_run grammar) typed
