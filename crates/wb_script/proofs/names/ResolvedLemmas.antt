-- Lines with indexes for names: they are of the same roles, fit where the checks found nothing, and count what the lines declare.
use Rattle.std.proofs.Common.{◌≡◌, not, refl, sym, ap, ◌∙◌, ℕ, suc, ◌+◌, ◌≤◌, List, [], ◌∷◌, ◌++◌, Bool, true, false, ◌&&◌, ◌||◌, length, map, Some, None, add-zero, append-nil, append_assoc, length-append, arith}
use Rattle.std.specs.Prelude.{if◌then◌else◌}
use Rattle.std.specs.Option.{option_map}
use Rattle.std.specs.List.{list_all, list_any, flat_map}
use Rattle.std.proofs.lemmas.List.{map-append, length-map}
use Rattle.wb_tree.specs.declared.script_lines.LineKind.{LineKind}
use Rattle.wb_tree.specs.declared.script_lines.LineKind.TheVariants as line_kind
use Rattle.wb_tree.specs.declared.script_lines.Role.{Role}
use Rattle.wb_tree.specs.declared.script_lines.Role.TheVariants as role
use Rattle.wb_tree.specs.declared.script_lines.Form.{Form}
use Rattle.wb_tree.specs.declared.script_lines.Form.TheVariants.{Skip, Unknown, Line}
use Rattle.wb_tree.specs.declared.script_lines.Referent.{Referent}
use Rattle.wb_tree.specs.declared.script_lines.Operand.{Operand}
use Rattle.wb_tree.specs.declared.script_lines.Operand.TheVariants.{Name}
use Rattle.wb_tree.specs.declared.script_lines.ItemKind.{ItemKind}
use Rattle.wb_tree.specs.declared.script_lines.ItemKind.TheVariants as item
use Rattle.wb_tree.specs.declared.script.Parameter.{Parameter}
use Rattle.wb_language.specs.Forms.{role_of_form}
use Rattle.wb_language.specs.Grammar.{IsGrammatical, content}
use Rattle.wb_language.specs.LineKinds.{role_of}
use Rattle.wb_language.specs.Kinds.{has_wrong_kind, misuses_main, returns_in_trap, returns_outside, is_right_line, ends_body, is_trap}
use Rattle.wb_language.specs.Passes.{first_bad, state_after, each_with}
use Rattle.wb_language.specs.Names.{Text, NamesSoFar, Declaration, nothing_known, literals_in, literals_of, is_same_kind, of_kind, count_among, items_by, items_of, known_after, passes_limit, first_refused}
use Rattle.wb_language.specs.Resolved.{class_of_this, resolved_line, resolved_among, resolved}
use Rattle.wb_script.specs.Building.{Counts, nothing_counted, counts_after, counts_of, last_count, may_stand, fits, unfit, scope_at, AllFit}
use Rattle.wb_script.specs.BytesOf.{parameter_named, signatures_among}
use Rattle.wb_lines.specs.Typed.{is_typed, AreTyped}
use Rattle.wb_nesting.specs.declared.open.Open.{Open}
use Rattle.wb_nesting.specs.Machine.{step}
use Rattle.wb_script.proofs.counts.CountedLines.{Counted, line_parameters, due, line_counts, nothing_yet}
use Rattle.wb_script.proofs.names.FitLemmas.{kind_held, kind_known, both_hold, declared_among, stands_apart}
use Rattle.wb_script.proofs.names.KnownLines.{never_unknown}
use Rattle.wb_script.proofs.names.LineFits.{operands_fit_resolved}
use Rattle.wb_nesting.proofs.Runs.{run, items_run}
use Rattle.wb_script.proofs.building.Steps.{good_first}
use Rattle.wb_lines.proofs.TypedLemmas.{both}
use Rattle.wb_script.proofs.building.PlacesOfLines.{IsWhere, run_first, role_needs_body, this_known, fields_known, where_next, where_skipped}

resolved_role : (own : List Declaration) (known : NamesSoFar) (form : Form Text) → role_of_form (resolved_line own known form) ≡ role_of_form form
resolved_role own known Skip = refl
resolved_role own known Unknown = refl
resolved_role own known (Line line_kind operands) = refl

roles_from : (own : List Declaration) (known : NamesSoFar) (forms : List (Form Text)) → map role_of_form (each_with known_after (resolved_line own) known forms) ≡ map role_of_form forms
roles_from own known [] = refl
roles_from own known (form ∷ forms) =
    ap (λ r. r ∷ map role_of_form (each_with known_after (resolved_line own) (known_after known form) forms)) (resolved_role own known form)
    ∙ ap (λ l. role_of_form form ∷ l) (roles_from own (known_after known form) forms)

pub roles-among : (own : List Declaration) (forms : List (Form Text)) → map role_of_form (resolved_among own forms) ≡ map role_of_form forms
roles-among own forms = roles_from own nothing_known forms

pub roles-resolved : (forms : List (Form Text)) → map role_of_form (resolved forms) ≡ map role_of_form forms
roles-resolved forms = roles-among (items_of forms) forms

-- what is found right of a line
pub none_wrong : (right main trapped outside : Bool) → (not right || (main || (trapped || outside))) ≡ false → (right ≡ true) × (main ≡ false) × (trapped ≡ false) × (outside ≡ false)
none_wrong true false false false e = (refl, refl, refl, refl)
none_wrong true true c d e = let clash : ⊥ = cc in absurd clash
none_wrong true false true d e = let clash : ⊥ = cc in absurd clash
none_wrong true false false true e = let clash : ⊥ = cc in absurd clash
none_wrong false b c d e = let clash : ⊥ = cc in absurd clash

stands : (known counted : List LineKind) (k : LineKind) → counted ≡ known → ((ends_body k || false) && list_any is_trap known) ≡ false → may_stand counted k ≡ true
stands known counted k same e = go (ends_body k) e
  where
    none : list_any is_trap known ≡ false → not (list_any is_trap counted) ≡ true
    none no_trap = ap (λ (b : List LineKind). not (list_any is_trap b)) same ∙ ap not no_trap

    go : (b : Bool) → ((b || false) && list_any is_trap known) ≡ false → not (b && list_any is_trap counted) ≡ true
    go true no_trap = none no_trap
    go false no_trap = refl

-- a line that is neither wrong nor past a limit fits where it is
line_fits : (literals : ℕ) (items : List Declaration) (known : NamesSoFar) (counts : Counts) (k : LineKind) (operands : List (Operand Text)) → Counted items known counts → (stands_apart k ≡ false → counts.this ≡ class_of_this known) →
    (role_of k ≡ role.Field → last_count counts.classes ≡ length known.fields) → is_typed (Line k operands) ≡ true → has_wrong_kind items known (Line k operands) ≡ false → passes_limit known (Line k operands) ≡ false →
    known.literals + length (literals_in (Line k operands)) ≤ literals → fits (declared_among literals items) counts (resolved_line items known (Line k operands)) ≡ true
line_fits literals items known counts k operands counted this_is fields typed wrong within room =
    let (right, main, trapped, outside) = none_wrong (is_right_line items (resolved_line items known (Line k operands))) (misuses_main (Line k operands)) (returns_in_trap known (Line k operands)) (returns_outside known (Line k operands)) wrong in
    both_hold _ _ (operands_fit_resolved literals items known (scope_at (declared_among literals items) counts) counted.kinds refl k this_is operands typed right room)
    (both_hold _ _ (due items known counts counted k fields operands typed within) (stands known.blocks counts.blocks k counted.blocks trapped))

-- the roles that count
abbrev pub contents_of : List (Form Text) → List Role
contents_of forms = flat_map content (map role_of_form forms)

content_of : (k : LineKind) → content (role_of k) ≡ role_of k ∷ []
content_of line_kind.Class = refl
content_of _ = refl

pub contents_after : (k : LineKind) (operands : List (Operand Text)) (forms : List (Form Text)) → contents_of (Line k operands ∷ forms) ≡ role_of k ∷ contents_of forms
contents_after k operands forms = ap (λ l. l ++ contents_of forms) (content_of k)

module _ (items : List Declaration) where
  abbrev pub lines_from : NamesSoFar → List (Form Text) → List (Form Referent)
  lines_from known forms = each_with known_after (resolved_line items) known forms

  -- what each step of a pass keeps
  abbrev pub next_counts : NamesSoFar → Counts → Form Text → Counts
  next_counts known counts form = counts_after counts (resolved_line items known form)

  fits_from : (literals : ℕ) (forms : List (Form Text)) (known : NamesSoFar) (counts : Counts) (stack last : List Open) → Counted items known counts → IsWhere known counts stack → run stack (contents_of forms) ≡ Some last → AreTyped forms →
      first_bad known_after (has_wrong_kind items) known forms ≡ None → first_bad known_after passes_limit known forms ≡ None →
      known.literals + length (literals_of forms) ≤ literals → first_bad counts_after (unfit (declared_among literals items)) counts (lines_from known forms) ≡ None
  fits_from literals [] known counts stack last counted place reads typed right within room = refl
  fits_from literals (Skip ∷ forms) known counts stack last counted place reads typed right within room =
      let next = known_after known Skip in
      let right_later = (good_first (has_wrong_kind items known Skip) (first_bad known_after (has_wrong_kind items) next forms) right).1 in
      let within_later = (good_first (passes_limit known Skip) (first_bad known_after passes_limit next forms) within).1 in
      ap (option_map suc)
      (fits_from literals forms next (next_counts known counts Skip) stack last (line_counts items known counts counted Skip refl) (where_skipped items known counts counted stack place) reads typed right_later within_later (omega arith))
  fits_from literals (Unknown ∷ forms) known counts stack last counted place reads typed right within room =
      let (next, moves, later) = run_first stack last role.Unknown (contents_of forms) reads in
      let clash : ⊥ = cc (moves, never_unknown stack) in
      absurd clash
  fits_from literals (Line k operands ∷ forms) known counts stack last counted place reads typed right within room =
      let form = Line k operands in
      let (here, rest) = both (is_typed form) (list_all is_typed forms) typed in
      let next = known_after known form in
      let (right_here, right_later) = good_first (has_wrong_kind items known form) (first_bad known_after (has_wrong_kind items) next forms) right in
      let (within_here, within_later) = good_first (passes_limit known form) (first_bad known_after passes_limit next forms) within in
      let parts : length (literals_of (form ∷ forms)) ≡ length (literals_in form) + length (literals_of forms) = simp length-append in
      let (after, moves, later) = run_first stack last (role_of k) (contents_of forms) (ap (run stack) (sym (contents_after k operands forms)) ∙ reads) in
      let this_is : stands_apart k ≡ false → counts.this ≡ class_of_this known = λ e. this_known known counts stack after (role_of k) place (role_needs_body k e) moves in
      let fields : role_of k ≡ role.Field → last_count counts.classes ≡ length known.fields = λ e. fields_known known counts stack after place (ap (step stack) (sym e) ∙ moves) in
      let fit = line_fits literals items known counts k operands counted this_is fields here right_here within_here (omega arith) in
      rw fit
      (ap (option_map suc)
      (fits_from literals forms next (next_counts known counts form) after last (line_counts items known counts counted form here) (where_next items known counts counted form stack after here place moves) later rest right_later within_later (omega arith)))

  counted_from : (forms : List (Form Text)) (known : NamesSoFar) (counts : Counts) → Counted items known counts → AreTyped forms → Counted items (state_after known_after known forms) (state_after counts_after counts (lines_from known forms))
  counted_from [] known counts counted typed = counted
  counted_from (form ∷ forms) known counts counted typed =
      let (here, rest) = both (is_typed form) (list_all is_typed forms) typed in
      counted_from forms (known_after known form) (next_counts known counts form) (line_counts items known counts counted form here) rest

-- where no operand is wrong and no limit is passed, all lines fit
pub all_fit : (forms : List (Form Text)) → IsGrammatical (map role_of_form forms) → AreTyped forms → first_refused (has_wrong_kind (items_of forms)) forms ≡ None → first_refused passes_limit forms ≡ None →
    AllFit (declared_among (length (literals_of forms)) (items_of forms)) (resolved forms)
all_fit forms grammar typed right within =
    fits_from (items_of forms) (length (literals_of forms)) forms nothing_known nothing_counted [] [] (nothing_yet (items_of forms)) IsWhere.outside (items_run grammar) typed right within (omega arith)

-- each local that is known has its kind
pub names_and_kinds : (forms : List (Form Text)) → AreTyped forms → length (state_after known_after nothing_known forms).kinds ≡ length (state_after known_after nothing_known forms).locals
names_and_kinds forms typed =
    let counted = counted_from [] forms nothing_known nothing_counted (nothing_yet []) typed in
    sym (length-map (state_after known_after nothing_known forms).kinds (kind_known []))
    ∙ ap length counted.kinds
    ∙ length-map (state_after counts_after nothing_counted (resolved_among [] forms)).locals kind_held
    ∙ sym counted.locals

-- those of a kind, one after the other
pub of_kind-append : (kind : ItemKind) (items others : List Declaration) → of_kind kind (items ++ others) ≡ of_kind kind items ++ of_kind kind others
of_kind-append kind [] others = refl
of_kind-append kind (i ∷ items) others = go (is_same_kind i.kind kind) (of_kind-append kind items others)
  where
    go : (b : Bool) → of_kind kind (items ++ others) ≡ of_kind kind items ++ of_kind kind others →
        (if b then (i ∷ of_kind kind (items ++ others)) else of_kind kind (items ++ others)) ≡ (if b then (i ∷ of_kind kind items) else of_kind kind items) ++ of_kind kind others
    go true rest = ap (λ l. i ∷ l) rest
    go false rest = rest

-- a line adds its procedure, by its parameters, or counts its operation
module _ (own : List Declaration) where
  abbrev signatures_by : List Declaration → List (List Parameter)
  signatures_by items = map (λ (i : Declaration). map (parameter_named own) i.parameters) (of_kind item.Procedure items)

  signatures-append : (items others : List Declaration) → signatures_by (items ++ others) ≡ signatures_by items ++ signatures_by others
  signatures-append items others =
      ap (map (λ (i : Declaration). map (parameter_named own) i.parameters)) (of_kind-append item.Procedure items others)
      ∙ map-append (λ (i : Declaration). map (parameter_named own) i.parameters) (of_kind item.Procedure items) (of_kind item.Procedure others)

  line_procedures : (known : NamesSoFar) (counts : Counts) (form : Form Text) (following : List (Form Text)) → is_typed form ≡ true → (counts_after counts (resolved_line own known form)).procedures ≡ counts.procedures ++ signatures_by (items_by form following)
  line_procedures known counts (Line line_kind.Class []) following typed = let clash : ⊥ = cc in absurd clash
  line_procedures known counts (Line line_kind.Class (Name n ∷ os)) following typed = sym (append-nil counts.procedures)
  line_procedures known counts (Line line_kind.Class (_ ∷ os)) following typed = let clash : ⊥ = cc in absurd clash
  line_procedures known counts (Line line_kind.Proc []) following typed = let clash : ⊥ = cc in absurd clash
  line_procedures known counts (Line line_kind.Proc (Name n ∷ os)) following typed = ap (λ p. counts.procedures ++ p ∷ []) (line_parameters own known (Line line_kind.Proc (Name n ∷ os)) typed)
  line_procedures known counts (Line line_kind.Proc (_ ∷ os)) following typed = let clash : ⊥ = cc in absurd clash
  line_procedures known counts (Line line_kind.Op []) following typed = let clash : ⊥ = cc in absurd clash
  line_procedures known counts (Line line_kind.Op (Name n ∷ os)) following typed = sym (append-nil counts.procedures)
  line_procedures known counts (Line line_kind.Op (_ ∷ os)) following typed = let clash : ⊥ = cc in absurd clash
  line_procedures known counts (Line k operands) following typed = sym (append-nil counts.procedures)
  line_procedures known counts _ following typed = sym (append-nil counts.procedures)

  procedures_from : (forms : List (Form Text)) (known : NamesSoFar) (counts : Counts) → AreTyped forms → (state_after counts_after counts (lines_from own known forms)).procedures ≡ counts.procedures ++ signatures_by (items_of forms)
  procedures_from [] known counts typed = sym (append-nil counts.procedures)
  procedures_from (form ∷ forms) known counts typed =
      let (here, rest) = both (is_typed form) (list_all is_typed forms) typed in
      let items = items_by form forms in
      procedures_from forms (known_after known form) (next_counts own known counts form) rest
      ∙ ap (λ l. l ++ signatures_by (items_of forms)) (line_procedures known counts form forms here)
      ∙ append_assoc counts.procedures (signatures_by items) (signatures_by (items_of forms))
      ∙ ap (λ l. counts.procedures ++ l) (sym (signatures-append items (items_of forms)))

  line_operations : (known : NamesSoFar) (counts : Counts) (form : Form Text) (following : List (Form Text)) → is_typed form ≡ true → (counts_after counts (resolved_line own known form)).operations ≡ counts.operations + count_among item.Operation (items_by form following)
  line_operations known counts (Line line_kind.Class []) following typed = let clash : ⊥ = cc in absurd clash
  line_operations known counts (Line line_kind.Class (Name n ∷ os)) following typed = sym (add-zero counts.operations)
  line_operations known counts (Line line_kind.Class (_ ∷ os)) following typed = let clash : ⊥ = cc in absurd clash
  line_operations known counts (Line line_kind.Proc []) following typed = let clash : ⊥ = cc in absurd clash
  line_operations known counts (Line line_kind.Proc (Name n ∷ os)) following typed = sym (add-zero counts.operations)
  line_operations known counts (Line line_kind.Proc (_ ∷ os)) following typed = let clash : ⊥ = cc in absurd clash
  line_operations known counts (Line line_kind.Op []) following typed = let clash : ⊥ = cc in absurd clash
  line_operations known counts (Line line_kind.Op (Name n ∷ os)) following typed = refl
  line_operations known counts (Line line_kind.Op (_ ∷ os)) following typed = let clash : ⊥ = cc in absurd clash
  line_operations known counts (Line k operands) following typed = sym (add-zero counts.operations)
  line_operations known counts _ following typed = sym (add-zero counts.operations)

  operations_from : (forms : List (Form Text)) (known : NamesSoFar) (counts : Counts) → AreTyped forms → (state_after counts_after counts (lines_from own known forms)).operations ≡ counts.operations + count_among item.Operation (items_of forms)
  operations_from [] known counts typed = sym (add-zero counts.operations)
  operations_from (form ∷ forms) known counts typed =
      let (here, rest) = both (is_typed form) (list_all is_typed forms) typed in
      let items = items_by form forms in
      let later = operations_from forms (known_after known form) (next_counts own known counts form) rest in
      let one = line_operations known counts form forms here in
      let parts : count_among item.Operation (items ++ items_of forms) ≡ count_among item.Operation items + count_among item.Operation (items_of forms) =
      ap length (of_kind-append item.Operation items (items_of forms)) ∙ length-append (of_kind item.Operation items) (of_kind item.Operation (items_of forms)) in
      omega (arith, later, one, parts)

pub procedures-resolved : (forms : List (Form Text)) → AreTyped forms → (counts_of (resolved forms)).procedures ≡ signatures_among (items_of forms)
procedures-resolved forms typed = procedures_from (items_of forms) forms nothing_known nothing_counted typed

pub operations-resolved : (forms : List (Form Text)) → AreTyped forms → (counts_of (resolved forms)).operations ≡ count_among item.Operation (items_of forms)
operations-resolved forms typed =
    let from = operations_from (items_of forms) forms nothing_known nothing_counted typed in
    omega (arith, from)
