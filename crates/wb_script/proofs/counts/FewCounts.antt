-- Lines that fit count no more than a script may have.
use Rattle.std.proofs.Common.{◌≡◌, refl, ap, ◌∙◌, ℕ, suc, ◌+◌, ◌<◌, ◌≤◌, List, [], ◌∷◌, length, map, None, Bool, true, false, not, nat_le, nat_lt, length-append, arith}
use Rattle.std.specs.List.{list_all}
use Rattle.std.proofs.lemmas.List.{length-map}
use Rattle.std.proofs.lemmas.List.Folds.{list_all-append}
use Rattle.wb_basics.specs.declared.limits.TheConstants.{LONGEST_SCRIPT, MOST_CLASSES, MOST_FIELDS, MOST_PROCEDURES}
use Rattle.wb_tree.specs.declared.script_lines.Form.TheVariants.{Skip, Unknown, Line}
use Rattle.wb_tree.specs.declared.script_lines.ItemKind.{ItemKind}
use Rattle.wb_tree.specs.declared.script_lines.ItemKind.TheVariants as item
use Rattle.wb_tree.specs.declared.script_lines.LineKind.{LineKind}
use Rattle.wb_tree.specs.declared.script_lines.LineKind.TheVariants as line_kind
use Rattle.wb_tree.specs.declared.script_lines.Referent.{Referent}
use Rattle.wb_tree.specs.declared.script_lines.Operand.{Operand}
use Rattle.wb_tree.specs.declared.script_lines.Role.{Role}
use Rattle.wb_tree.specs.declared.script_lines.Role.TheVariants as role
use Rattle.wb_language.specs.LineKinds.{role_of}
use Rattle.wb_language.specs.Names as model
use Rattle.wb_language.specs.Names.{count_among, item_kind_of, of_kind}
use Rattle.wb_language.specs.Passes.{first_bad, state_after}
use Rattle.wb_tree.specs.Sound.{Declared}
use Rattle.wb_language.specs.Trees.{Indexed}
use Rattle.wb_script.specs.Building.{AllFit, Counts, classes_after, counts_after, counts_of, declares, fits, is_due, last_count, nothing_counted, operations_after, parameters_of, procedures_after, scope_at, unfit, with_field}
use Rattle.wb_script.specs.Fitting.{operands_fit}
use Rattle.wb_script.specs.BytesOf.{declared_by, fields_among, bytes_of_item, bytes_of_items, parameter_named, signatures_among}
use Rattle.wb_script.specs.declared.checks.items.Declaration.{Declaration}
use Rattle.wb_script.proofs.building.Steps.{good_first}
use Rattle.wb_script.proofs.lists.Tests.{parts, together, below_of, within_test}

-- no class has more fields than it may
abbrev pub are_small : List ℕ → Bool
are_small counts = list_all (λ n. nat_le n MOST_FIELDS) counts

pub record IsFew (counts : Counts) : Type 0 where
  pub classes : length counts.classes ≤ MOST_CLASSES
  pub fields : are_small counts.classes ≡ true
  pub items : length counts.procedures + counts.operations ≤ MOST_PROCEDURES

as_many : (classes : List ℕ) → length (with_field classes) ≡ length classes
as_many [] = refl
as_many (count ∷ []) = refl
as_many (count ∷ next ∷ classes) = ap suc (as_many (next ∷ classes))

small_with_field : (classes : List ℕ) → are_small classes ≡ true → last_count classes < 16 → are_small (with_field classes) ≡ true
small_with_field [] small lt = refl
small_with_field (count ∷ []) small lt = together _ true (within_test (suc count) 16 (omega (arith, lt))) refl
small_with_field (count ∷ next ∷ classes) small lt =
    let (here, rest) = parts (nat_le count 16) (are_small (next ∷ classes)) small in
    together _ _ here (small_with_field (next ∷ classes) rest lt)

module _ (counts : Counts) (line : Indexed) (operands : List (Operand Referent)) (few : IsFew counts) where
  few_classes : (r : Role) → is_due r counts line operands ≡ true → length (classes_after r counts.classes) ≤ 64
  few_classes role.Class due =
      let (next, more) = parts (declares (length counts.classes) operands) _ due in
      let room = below_of (length counts.classes) 64 (parts (nat_lt (length counts.classes) 64) _ more).0 in
      omega (arith, room, length-append counts.classes (0 ∷ []))
  few_classes role.Field due = omega (arith, few.classes, as_many counts.classes)
  few_classes _ due = few.classes

  few_fields : (r : Role) → is_due r counts line operands ≡ true → are_small (classes_after r counts.classes) ≡ true
  few_fields role.Class due = list_all-append (λ n. nat_le n 16) counts.classes (0 ∷ []) ∙ together _ _ few.fields refl
  few_fields role.Field due =
      let (next, room) = parts (declares (last_count counts.classes) operands) (nat_lt (last_count counts.classes) 16) due in
      small_with_field counts.classes few.fields (below_of (last_count counts.classes) 16 room)
  few_fields _ due = few.fields

  few_items : (k : LineKind) → is_due (role_of k) counts (Line k operands) operands ≡ true → length (procedures_after (item_kind_of k) (Line k operands) counts.procedures) + operations_after (item_kind_of k) counts.operations ≤ 256
  few_items line_kind.Proc due =
      let (next, more) = parts (declares (length counts.procedures) operands) _ due in
      let room = below_of (length counts.procedures + counts.operations) 256 (parts (nat_lt (length counts.procedures + counts.operations) 256) _ more).0 in
      omega (arith, room, length-append counts.procedures (parameters_of (Line line_kind.Proc operands) ∷ []))
  few_items line_kind.Op due =
      let (next, more) = parts (declares counts.operations operands) _ due in
      let room = below_of (length counts.procedures + counts.operations) 256 (parts (nat_lt (length counts.procedures + counts.operations) 256) _ more).0 in
      omega (arith, room)
  few_items line_kind.Class due = few.items
  few_items _ due = few.items

few_after : (declared : Declared) (counts : Counts) (line : Indexed) → IsFew counts → fits declared counts line ≡ true → IsFew (counts_after counts line)
few_after declared counts Skip few fit = few
few_after declared counts Unknown few fit = few
few_after declared counts (Line k operands) few fit =
    let line : Indexed = Line k operands in
    let (operand_places, rest) = parts (operands_fit declared (scope_at declared counts) k operands) _ fit in
    let (due, stands) = parts (is_due (role_of k) counts line operands) _ rest in
    record {
      classes = few_classes counts line operands few (role_of k) due;
      fields = few_fields counts line operands few (role_of k) due;
      items = few_items counts line operands few k due;
    }

few_following : (declared : Declared) (lines : List Indexed) (counts : Counts) → IsFew counts → first_bad counts_after (unfit declared) counts lines ≡ None → IsFew (state_after counts_after counts lines)
few_following declared [] counts few good = few
few_following declared (line ∷ lines) counts few good =
    let (here, rest) = good_first (unfit declared counts line) (first_bad counts_after (unfit declared) (counts_after counts line) lines) good in
    few_following declared lines (counts_after counts line) (few_after declared counts line few (is_fit (fits declared counts line) here)) rest
  where
    is_fit : (b : Bool) → not b ≡ false → b ≡ true
    is_fit true e = refl
    is_fit false e = let clash : ⊥ = cc in absurd clash

pub few_counted : (declared : Declared) (lines : List Indexed) → AllFit declared lines → IsFew (counts_of lines)
few_counted declared lines all = few_following declared lines nothing_counted (record { classes = omega arith; fields = refl; items = omega arith }) all

-- each item is of one kind, of which there are as many as are declared
each_of_a_kind : (items : List model.Declaration) → length items ≡ count_among item.Class items + (count_among item.Procedure items + count_among item.Operation items)
each_of_a_kind [] = omega arith
each_of_a_kind (i ∷ items) = one_more i.kind (each_of_a_kind items)
  where
    one_more : (k : ItemKind) → length items ≡ count_among item.Class items + (count_among item.Procedure items + count_among item.Operation items) →
        length (record i { kind = k } ∷ items) ≡ count_among item.Class (record i { kind = k } ∷ items) + (count_among item.Procedure (record i { kind = k } ∷ items) + count_among item.Operation (record i { kind = k } ∷ items))
    one_more item.Class rest = omega (arith, rest)
    one_more item.Procedure rest = omega (arith, rest)
    one_more item.Operation rest = omega (arith, rest)

as_many_items : (items : List model.Declaration) → length items ≡ length (fields_among items) + (length (signatures_among items) + count_among item.Operation items)
as_many_items items =
    omega (arith, each_of_a_kind items, length-map (of_kind item.Class items) (λ i. length i.fields), length-map (of_kind item.Procedure items) (λ i. map (parameter_named items) i.parameters))

-- so a script's own space has no more lines than a script, and no more classes than it may
pub few_declared : (literals : ℕ) (items : List Declaration) (lines : List Indexed) → AllFit (declared_by literals items) lines →
    (counts_of lines).classes ≡ (declared_by literals items).fields → (counts_of lines).procedures ≡ (declared_by literals items).signatures → (counts_of lines).operations ≡ (declared_by literals items).operations →
    (length items ≤ LONGEST_SCRIPT) × (length (declared_by literals items).fields ≤ MOST_CLASSES)
few_declared literals items lines fit classes procedures operations =
    let few = few_counted (declared_by literals items) lines fit in (
      omega (arith, as_many_items (bytes_of_items items), length-map items bytes_of_item, ap length classes, ap length procedures, operations, few.classes, few.items),
      omega (arith, ap length classes, few.classes),
    )
