-- A class that a name names, and the fields that the lines after its head declare.
use Rattle.std.proofs.Common.{◌≡◌, ℕ, zero, suc, List, [], ◌∷◌, ◌++◌, take, Option, Some, None, Bool, true, false, ◌&&◌, ◌||◌, ◌⊎◌, inl, inr, refl, sym, ap, subst, ◌∙◌}
use Rattle.std.specs.Prelude.{if◌then◌else◌, slice_get}
use Rattle.std.specs.List.{list_all, list_any}
use Rattle.std.specs.Option.{option_map}
use Rattle.std.specs.Str.{bytes_eq}
use Rattle.std.proofs.lemmas.Bool.{false≢true}
use Rattle.std.proofs.lemmas.List.Folds.{list_any-append}
use Rattle.wb_tree.specs.declared.script_lines.ItemKind.{ItemKind}
use Rattle.wb_tree.specs.declared.script_lines.ItemKind.TheVariants as item
use Rattle.wb_tree.specs.declared.script_lines.LineKind.TheVariants as line_kind
use Rattle.wb_tree.specs.declared.script_lines.Operand.TheVariants.{Name}
use Rattle.wb_tree.specs.declared.script_lines.Role.{Role}
use Rattle.wb_tree.specs.declared.script_lines.Role.TheVariants as role
use Rattle.wb_tree.specs.declared.script_lines.Form.{Form}
use Rattle.wb_tree.specs.declared.script_lines.Form.TheVariants.{Skip, Unknown, Line}
use Rattle.wb_language.specs.DeclaredAgain.{Space, names_by, declares_in, is_class_role}
use Rattle.wb_language.specs.Forms.{role_of_form}
use Rattle.wb_language.specs.MissedFields.{is_among_fields, is_field_role, DeclareField, IsClassNamed}
use Rattle.wb_language.specs.Names.{Text, Declaration, count_among, declaration_of, first_declaration_of, first_name, fields_with, following_fields, is_among, item_kind_in, item_of_kind, items_by, items_of, names_of, parameters_in}
use Rattle.wb_language.specs.Resolved.{class_in, class_named, fields_of_class, fields_of_item, item_after, item_at, referent_of_kind}
use Rattle.wb_script.proofs.names.FoundItems.{item_here, same_as_itself}
use Rattle.wb_script.proofs.said.DoubleNames.{item_names}

-- Fields.
field_first : (a b : List Text) (name : Text) → is_among (a ++ b) name ≡ true → (is_among a name ≡ true) ⊎ (is_among b name ≡ true)
field_first a b name is = go (is_among a name) refl (sym (list_any-append (λ n. bytes_eq n name) a b) ∙ is)
  where
    go : (c : Bool) → is_among a name ≡ c → (is_among a name || is_among b name) ≡ true → (is_among a name ≡ true) ⊎ (is_among b name ≡ true)
    go true e h = inl e
    go false e h = inr (ap (λ d. d || is_among b name) (sym e) ∙ h)

pub declared_fields : (following : List (Form Text)) (field : Text) → is_among (following_fields following) field ≡ true → DeclareField following field
declared_fields [] field is = absurd (false≢true is)
declared_fields (form ∷ forms) field is = go (declared_fields forms field) (role_of_form form) refl is
  where
    later : is_field_role (role_of_form form) ≡ true → DeclareField forms field → DeclareField (form ∷ forms) field
    later passes (earlier, rest, line, parts, declares, before) = (form ∷ earlier, rest, line, ap (λ l. form ∷ l) parts, declares, ap (λ b. b && list_all is_among_fields earlier) passes ∙ before)

    first : role_of_form form ≡ role.Field → is_among (first_name form) field ≡ true → DeclareField (form ∷ forms) field
    first e among = ([], forms, form, refl, ap (λ r. is_among (names_by Space.of_class r form) field) e ∙ among, refl)

    go : (is_among (following_fields forms) field ≡ true → DeclareField forms field) → (r : Role) → role_of_form form ≡ r → is_among (fields_with r form (following_fields forms)) field ≡ true → DeclareField (form ∷ forms) field
    go others role.Field e h = either (field_first (first_name form) (following_fields forms) field h)
      where
        either : (is_among (first_name form) field ≡ true) ⊎ (is_among (following_fields forms) field ≡ true) → DeclareField (form ∷ forms) field
        either (inl here) = first e here
        either (inr there) = later (ap is_field_role e) (others there)
    go others role.Skip e h = later (ap is_field_role e) (others h)
    go others _ e h = absurd (false≢true h)

both_parts : (a b : Bool) → (a && b) ≡ true → (a ≡ true) × (b ≡ true)
both_parts true b is = (refl, is)
both_parts false b is = absurd (false≢true is)

second : (a b : List Text) (name : Text) → is_among b name ≡ true → is_among (a ++ b) name ≡ true
second a b name is = list_any-append (λ n. bytes_eq n name) a b ∙ go (is_among a name)
  where
    go : (c : Bool) → (c || is_among b name) ≡ true
    go true = refl
    go false = is

among_fields : (earlier later : List (Form Text)) (line : Form Text) (field : Text) → declares_in Space.of_class field line ≡ true → list_all is_among_fields earlier ≡ true → is_among (following_fields (earlier ++ line ∷ later)) field ≡ true
among_fields [] later line field declares passes = go (role_of_form line) declares
  where
    go : (r : Role) → is_among (names_by Space.of_class r line) field ≡ true → is_among (fields_with r line (following_fields later)) field ≡ true
    go role.Field h = list_any-append (λ n. bytes_eq n field) (first_name line) (following_fields later) ∙ ap (λ b. b || is_among (following_fields later) field) h
    go _ h = absurd (false≢true h)
among_fields (form ∷ earlier) later line field declares passes =
    let (here, rest) = both_parts (is_among_fields form) (list_all is_among_fields earlier) passes in
    go (role_of_form form) here (among_fields earlier later line field declares rest)
  where
    go : (r : Role) → is_field_role r ≡ true → is_among (following_fields (earlier ++ line ∷ later)) field ≡ true → is_among (fields_with r form (following_fields (earlier ++ line ∷ later))) field ≡ true
    go role.Field passes h = second (first_name form) (following_fields (earlier ++ line ∷ later)) field h
    go role.Skip passes h = h
    go _ passes h = absurd (false≢true passes)

pub fields_declared : (following : List (Form Text)) (field : Text) → DeclareField following field → is_among (following_fields following) field ≡ true
fields_declared following field (earlier, later, line, parts, declares, passes) = ap (λ l. is_among (following_fields l) field) parts ∙ among_fields earlier later line field declares passes

-- The items that a line begins: one at most.
at_most_one : (form : Form Text) (following : List (Form Text)) → (items_by form following ≡ []) ⊎ ((i : Declaration) × (items_by form following ≡ i ∷ []))
at_most_one (Line line_kind.Class []) following = inl refl
at_most_one (Line line_kind.Class (Name n ∷ os)) following = inr (declaration_of (Line line_kind.Class (Name n ∷ os)) following item.Class n, refl)
at_most_one (Line line_kind.Class (_ ∷ os)) following = inl refl
at_most_one (Line line_kind.Proc []) following = inl refl
at_most_one (Line line_kind.Proc (Name n ∷ os)) following = inr (declaration_of (Line line_kind.Proc (Name n ∷ os)) following item.Procedure n, refl)
at_most_one (Line line_kind.Proc (_ ∷ os)) following = inl refl
at_most_one (Line line_kind.Op []) following = inl refl
at_most_one (Line line_kind.Op (Name n ∷ os)) following = inr (declaration_of (Line line_kind.Op (Name n ∷ os)) following item.Operation n, refl)
at_most_one (Line line_kind.Op (_ ∷ os)) following = inl refl
at_most_one (Line k os) following = inl refl
at_most_one Skip following = inl refl
at_most_one Unknown following = inl refl

abbrev pub is_class_kind : ItemKind → Bool
is_class_kind item.Class = true
is_class_kind _ = false

-- what it is that the head of an item begins
pub record BeginsItem (head : Form Text) (following : List (Form Text)) (i : Declaration) : Type 0 where
  pub kind : is_class_role (role_of_form head) ≡ is_class_kind i.kind
  pub fields : is_class_kind i.kind ≡ true → i.fields ≡ following_fields following
  pub same_kind : item_kind_in head ≡ Some i.kind
  pub parameters : i.parameters ≡ parameters_in head

begun_by : (head : Form Text) (following : List (Form Text)) (i j : Declaration) → i ∷ [] ≡ j ∷ [] → BeginsItem head following i → BeginsItem head following j
begun_by head following i j same begins = let equal : i ≡ j = cc in subst (BeginsItem head following) equal begins

pub begins_item : (head : Form Text) (following : List (Form Text)) (i : Declaration) → items_by head following ≡ i ∷ [] → BeginsItem head following i
begins_item (Line line_kind.Class (Name n ∷ os)) following i is = begun_by (Line line_kind.Class (Name n ∷ os)) following (declaration_of (Line line_kind.Class (Name n ∷ os)) following item.Class n) i is (record { kind = refl; fields = λ e. refl; same_kind = refl; parameters = refl })
begins_item (Line line_kind.Proc (Name n ∷ os)) following i is = begun_by (Line line_kind.Proc (Name n ∷ os)) following (declaration_of (Line line_kind.Proc (Name n ∷ os)) following item.Procedure n) i is (record { kind = refl; fields = λ e. absurd (false≢true e); same_kind = refl; parameters = refl })
begins_item (Line line_kind.Op (Name n ∷ os)) following i is = begun_by (Line line_kind.Op (Name n ∷ os)) following (declaration_of (Line line_kind.Op (Name n ∷ os)) following item.Operation n) i is (record { kind = refl; fields = λ e. absurd (false≢true e); same_kind = refl; parameters = refl })
begins_item (Line line_kind.Class []) following i is = let clash : ⊥ = cc in absurd clash
begins_item (Line line_kind.Class (_ ∷ os)) following i is = let clash : ⊥ = cc in absurd clash
begins_item (Line line_kind.Proc []) following i is = let clash : ⊥ = cc in absurd clash
begins_item (Line line_kind.Proc (_ ∷ os)) following i is = let clash : ⊥ = cc in absurd clash
begins_item (Line line_kind.Op []) following i is = let clash : ⊥ = cc in absurd clash
begins_item (Line line_kind.Op (_ ∷ os)) following i is = let clash : ⊥ = cc in absurd clash
begins_item (Line k os) following i is = let clash : ⊥ = cc in absurd clash
begins_item Skip following i is = let clash : ⊥ = cc in absurd clash
begins_item Unknown following i is = let clash : ⊥ = cc in absurd clash

-- The first item with a name is begun by the first line that declares the name.
pub record IsFirstItem (forms : List (Form Text)) (name : Text) (n : ℕ) (i : Declaration) (head : Form Text) (following : List (Form Text)) : Type 0 where
  pub found : first_declaration_of (names_of (items_of forms)) name ≡ Some n
  pub there : slice_get (items_of forms) n ≡ Some i
  pub begun : items_by head following ≡ i ∷ []

abbrev IsFirstHead : List (Form Text) → Text → List (Form Text) → Form Text → List (Form Text) → Type 0
IsFirstHead forms name earlier head following = (forms ≡ earlier ++ head ∷ following) × (declares_in Space.of_script name head ≡ true) × (list_any (declares_in Space.of_script name) earlier ≡ false)

abbrev Found : List (Form Text) → Text → ℕ → Type 0
Found forms name n = (earlier following : List (Form Text)) × (head : Form Text) × (i : Declaration) × IsFirstHead forms name earlier head following × IsFirstItem forms name n i head following

-- the items of one more line before others
module _ (form : Form Text) (forms : List (Form Text)) (name : Text) where
  -- a line that begins nothing
  module _ (nothing : items_by form forms ≡ []) where
    same_items : items_of (form ∷ forms) ≡ items_of forms
    same_items = ap (λ l. l ++ items_of forms) nothing

    declares_none : declares_in Space.of_script name form ≡ false
    declares_none = ap (λ l. is_among l name) (sym (item_names form forms) ∙ ap names_of nothing)

  -- a line that begins an item
  module _ (i : Declaration) (begun : items_by form forms ≡ i ∷ []) where
    one_more : items_of (form ∷ forms) ≡ i ∷ items_of forms
    one_more = ap (λ l. l ++ items_of forms) begun

    declares_one : declares_in Space.of_script name form ≡ (bytes_eq i.name name || false)
    declares_one = ap (λ l. is_among l name) (sym (item_names form forms) ∙ ap names_of begun)

pub first_item : (forms : List (Form Text)) (name : Text) (n : ℕ) → first_declaration_of (names_of (items_of forms)) name ≡ Some n → Found forms name n
first_item [] name n is = let clash : ⊥ = cc in absurd clash
first_item (form ∷ forms) name n is = go (at_most_one form forms) (first_item forms name)
  where
    go : ((items_by form forms ≡ []) ⊎ ((i : Declaration) × (items_by form forms ≡ i ∷ []))) → ((m : ℕ) → first_declaration_of (names_of (items_of forms)) name ≡ Some m → Found forms name m) → Found (form ∷ forms) name n
    go (inl nothing) later =
        let same = same_items form forms name nothing in
        let (earlier, following, head, i, (parts, declares, none), found) = later n (ap (λ l. first_declaration_of (names_of l) name) (sym same) ∙ is) in (
          form ∷ earlier,
          following,
          head,
          i,
          (ap (λ l. form ∷ l) parts, declares, ap (λ b. b || list_any (declares_in Space.of_script name) earlier) (declares_none form forms name nothing) ∙ none),
          record { found = is; there = ap (λ l. slice_get l n) same ∙ found.there; begun = found.begun },
        )
    go (inr (i, begun)) later = here (bytes_eq i.name name) refl n (first_declaration_of (names_of (items_of forms)) name) refl (ap (λ l. first_declaration_of (names_of l) name) (sym (one_more form forms name i begun)) ∙ is) is
      where
        here : (b : Bool) → bytes_eq i.name name ≡ b → (n : ℕ) (o : Option ℕ) → first_declaration_of (names_of (items_of forms)) name ≡ o → (if b then Some 0 else option_map suc o) ≡ Some n → first_declaration_of (names_of (items_of (form ∷ forms))) name ≡ Some n → Found (form ∷ forms) name n
        here true e zero o at h is = (
          [],
          forms,
          form,
          i,
          (refl, declares_one form forms name i begun ∙ ap (λ b. b || false) e, refl),
          record { found = is; there = ap (λ l. slice_get l 0) (one_more form forms name i begun); begun = begun },
        )
        here true e (suc n) o at h is = let clash : ⊥ = cc in absurd clash
        here false e n None at h is = let clash : ⊥ = cc in absurd clash
        here false e zero (Some m) at h is = let clash : ⊥ = cc in absurd clash
        here false e (suc n) (Some m) at h is =
            let same : m ≡ n = cc in
            let (earlier, following, head, j, (parts, declares, none), found) = later n (at ∙ ap Some same) in (
              form ∷ earlier,
              following,
              head,
              j,
              (ap (λ l. form ∷ l) parts, declares, ap (λ b. b || list_any (declares_in Space.of_script name) earlier) (declares_one form forms name i begun ∙ ap (λ b. b || false) e) ∙ none),
              record { found = is; there = ap (λ l. slice_get l (suc n)) (one_more form forms name i begun) ∙ found.there; begun = found.begun },
            )

pub item_first : (earlier following : List (Form Text)) (head : Form Text) (name : Text) → declares_in Space.of_script name head ≡ true → list_any (declares_in Space.of_script name) earlier ≡ false →
    (n : ℕ) × (i : Declaration) × IsFirstItem (earlier ++ head ∷ following) name n i head following
item_first [] following head name declares none = go (at_most_one head following)
  where
    go : ((items_by head following ≡ []) ⊎ ((i : Declaration) × (items_by head following ≡ i ∷ []))) → (n : ℕ) × (i : Declaration) × IsFirstItem (head ∷ following) name n i head following
    go (inl nothing) = absurd (false≢true (sym (declares_none head following name nothing) ∙ declares))
    go (inr (i, begun)) =
        let same = one_more head following name i begun in
        let is : bytes_eq i.name name ≡ true = alone (bytes_eq i.name name) (sym (declares_one head following name i begun) ∙ declares) in (
          0,
          i,
          record {
            found = ap (λ l. first_declaration_of (names_of l) name) same ∙ ap (λ (b : Bool). if b then Some 0 else option_map suc (first_declaration_of (names_of (items_of following)) name)) is;
            there = ap (λ l. slice_get l 0) same;
            begun = begun;
          },
        )
      where
        alone : (b : Bool) → (b || false) ≡ true → b ≡ true
        alone true h = refl
        alone false h = absurd (false≢true h)
item_first (form ∷ earlier) following head name declares none =
    go (at_most_one form (earlier ++ head ∷ following)) (neither (declares_in Space.of_script name form) (list_any (declares_in Space.of_script name) earlier) none) (λ others. item_first earlier following head name declares others)
  where
    neither : (a b : Bool) → (a || b) ≡ false → (a ≡ false) × (b ≡ false)
    neither true b is = let clash : ⊥ = cc in absurd clash
    neither false b is = (refl, is)

    alone_not : (b : Bool) → (b || false) ≡ false → b ≡ false
    alone_not true h = let clash : ⊥ = cc in absurd clash
    alone_not false h = refl

    go : ((items_by form (earlier ++ head ∷ following) ≡ []) ⊎ ((i : Declaration) × (items_by form (earlier ++ head ∷ following) ≡ i ∷ []))) → (declares_in Space.of_script name form ≡ false) × (list_any (declares_in Space.of_script name) earlier ≡ false) →
        (list_any (declares_in Space.of_script name) earlier ≡ false → (n : ℕ) × (i : Declaration) × IsFirstItem (earlier ++ head ∷ following) name n i head following) → (n : ℕ) × (i : Declaration) × IsFirstItem (form ∷ (earlier ++ head ∷ following)) name n i head following
    go (inl nothing) (here, none) later =
        let (n, i, found) = later none in
        let same = same_items form (earlier ++ head ∷ following) name nothing in
        (n, i, record { found = ap (λ l. first_declaration_of (names_of l) name) same ∙ found.found; there = ap (λ l. slice_get l n) same ∙ found.there; begun = found.begun })
    go (inr (j, begun)) (here, none) later =
        let (n, i, found) = later none in
        let same = one_more form (earlier ++ head ∷ following) name j begun in
        let not_here : bytes_eq j.name name ≡ false = alone_not (bytes_eq j.name name) (sym (declares_one form (earlier ++ head ∷ following) name j begun) ∙ here) in (
          suc n,
          i,
          record {
            found = ap (λ l. first_declaration_of (names_of l) name) same
                ∙ ap (λ (b : Bool). if b then Some 0 else option_map suc (first_declaration_of (names_of (items_of (earlier ++ head ∷ following))) name)) not_here
                ∙ ap (option_map suc) found.found;
            there = ap (λ l. slice_get l (suc n)) same ∙ found.there;
            begun = found.begun;
          },
        )

-- A class by its name.
in_kind : (kind : ItemKind) (count index : ℕ) → class_in (referent_of_kind kind count) ≡ Some index → (is_class_kind kind ≡ true) × (count ≡ index)
in_kind item.Class count index is = (refl, cc)
in_kind item.Procedure count index is = let clash : ⊥ = cc in absurd clash
in_kind item.Operation count index is = let clash : ⊥ = cc in absurd clash

of_class : (kind : ItemKind) (count : ℕ) → is_class_kind kind ≡ true → class_in (referent_of_kind kind count) ≡ Some count
of_class item.Class count is = refl
of_class item.Procedure count is = absurd (false≢true is)
of_class item.Operation count is = absurd (false≢true is)

is_class : (kind : ItemKind) → is_class_kind kind ≡ true → kind ≡ item.Class
is_class item.Class is = refl
is_class item.Procedure is = absurd (false≢true is)
is_class item.Operation is = absurd (false≢true is)

-- the fields of the class with the index that an item has among the classes
fields_there : (items : List Declaration) (n : ℕ) (i : Declaration) → slice_get items n ≡ Some i → i.kind ≡ item.Class → fields_of_class items (count_among i.kind (take n items)) ≡ i.fields
fields_there items n i there kind =
    let here = item_here i.kind items n i there (same_as_itself i.kind) in
    ap fields_of_item (ap (λ k. item_of_kind k items (count_among i.kind (take n items))) (sym kind) ∙ here)

abbrev IsWithFields : List (Form Text) → ℕ → List (Form Text) → Type 0
IsWithFields forms index following = fields_of_class (items_of forms) index ≡ following_fields following

pub named_class : (forms : List (Form Text)) (name : Text) (index : ℕ) → class_named (items_of forms) name ≡ Some index → (following : List (Form Text)) × IsClassNamed forms name following × IsWithFields forms index following
named_class forms name index is = go (first_declaration_of (names_of (items_of forms)) name) refl is
  where
    go : (o : Option ℕ) → first_declaration_of (names_of (items_of forms)) name ≡ o → class_in (item_at (items_of forms) o) ≡ Some index → (following : List (Form Text)) × IsClassNamed forms name following × IsWithFields forms index following
    go None at h = let clash : ⊥ = cc in absurd clash
    go (Some n) at h =
        let (earlier, following, head, i, (parts, declares, none), found) = first_item forms name n at in
        let begins = begins_item head following i found.begun in
        let there : class_in (referent_of_kind i.kind (count_among i.kind (take n (items_of forms)))) ≡ Some index = ap (λ o. class_in (item_after (take n (items_of forms)) o)) (sym found.there) ∙ h in
        let (class, same) = in_kind i.kind (count_among i.kind (take n (items_of forms))) index there in (
          following,
          (earlier, head, parts, declares, none, begins.kind ∙ class),
          ap (fields_of_class (items_of forms)) (sym same) ∙ fields_there (items_of forms) n i found.there (is_class i.kind class) ∙ begins.fields class,
        )

pub class_is_named : (forms : List (Form Text)) (name : Text) (following : List (Form Text)) → IsClassNamed forms name following → (index : ℕ) × (class_named (items_of forms) name ≡ Some index) × IsWithFields forms index following
class_is_named forms name following (earlier, head, parts, declares, none, class) =
    subst (λ lines. (index : ℕ) × (class_named (items_of lines) name ≡ Some index) × IsWithFields lines index following) (sym parts) here
  where
    here : (index : ℕ) × (class_named (items_of (earlier ++ head ∷ following)) name ≡ Some index) × IsWithFields (earlier ++ head ∷ following) index following
    here =
        let (n, i, found) = item_first earlier following head name declares none in
        let lines = earlier ++ head ∷ following in
        let begins = begins_item head following i found.begun in
        let kind : is_class_kind i.kind ≡ true = sym begins.kind ∙ class in
        let count = count_among i.kind (take n (items_of lines)) in (
          count,
          ap (λ o. class_in (item_at (items_of lines) o)) found.found ∙ ap (λ o. class_in (item_after (take n (items_of lines)) o)) found.there ∙ of_class i.kind count kind,
          fields_there (items_of lines) n i found.there (is_class i.kind kind) ∙ begins.fields kind,
        )
