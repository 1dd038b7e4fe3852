-- What the checks of lines tell of the tree.
use Rattle.std.proofs.Common.{◌≡◌, refl, sym, ap, subst, ◌∙◌, ℕ, suc, List, [], ◌∷◌, Bool, true, false, not, ◌&&◌, ◌||◌, map, take, Option, Some, None}
use Rattle.std.proofs.lemmas.List.Folds.{list_all-append}
use Rattle.std.proofs.lemmas.Option.{slice_get-map}
use Rattle.std.specs.Prelude.{codes, slice_get, if◌then◌else◌}
use Rattle.std.specs.List.{list_all}
use Rattle.std.specs.Option.{option_map}
use Rattle.std.specs.Str.{bytes_eq}
use Rattle.wb_tree.specs.declared.script_lines.LineKind.TheVariants as line_kind
use Rattle.wb_tree.specs.declared.script_lines.ItemKind.{ItemKind}
use Rattle.wb_tree.specs.declared.script_lines.ItemKind.TheVariants as item
use Rattle.wb_tree.specs.declared.script_lines.Operand.TheVariants.{Name}
use Rattle.wb_tree.specs.declared.script_lines.Form.{Form}
use Rattle.wb_tree.specs.declared.script_lines.Form.TheVariants.{Skip, Unknown, Line}
use Rattle.wb_tree.specs.declared.script_lines.ParameterType.{ParameterType}
use Rattle.wb_tree.specs.declared.script.Parameter.{Parameter}
use Rattle.wb_language.specs.declared.fault.ScriptFault.{ScriptFault}
use Rattle.wb_language.specs.declared.fault.ScriptFault.TheVariants.{UnknownName, DoubleName, WrongKind, MayLeave, NoMain, TooMany}
use Rattle.wb_language.specs.Forms.{role_of_form, renamed}
use Rattle.wb_language.specs.Kinds.{is_nothing, is_right_line, misuses_main, returns_in_trap, returns_outside, has_wrong_kind}
use Rattle.wb_language.specs.Names.{Text, NamesSoFar, Declaration, nothing_known, known_after, names_of, first_declaration_of, is_same_kind, of_kind, count_among, items_by, items_of, parameters_in}
use Rattle.wb_language.specs.Passes.{first_bad, first_where}
use Rattle.wb_language.specs.Resolved.{resolved, resolved_line, referent_of_kind, item_after, item_at, item_referent}
use Rattle.wb_language.specs.Scripts.{main_of, procedure_referent, number_of_line, first_wrong, IsNamed, IsLinesFault}
use Rattle.wb_tree.specs.Sound.{is_entry}
use Rattle.wb_script.specs.Building.{counts_of}
use Rattle.wb_script.specs.Checks.{AreChecked, AreNamed, IsFirstFault}
use Rattle.wb_script.specs.BytesOf.{parameter_named, signatures_among}
use Rattle.wb_lines.specs.Typed.{AreTyped}
use Rattle.wb_script.specs.declared.checks.Checked.{Checked}
use Rattle.wb_script.proofs.names.FitLemmas.{both_hold}
use Rattle.wb_script.proofs.names.FoundItems.{item_here}
use Rattle.wb_lines.proofs.BytesOf.{role-renamed}
use Rattle.wb_script.proofs.building.Steps.{good_first}
use Rattle.wb_lines.proofs.TypedLemmas.{both}
use Rattle.wb_script.proofs.names.ResolvedLemmas.{procedures-resolved, none_wrong}

pub roles-renamed : {N M : Type 0} (f : N → M) (forms : List (Form N)) → map role_of_form (map (renamed f) forms) ≡ map role_of_form forms
roles-renamed f [] = refl
roles-renamed f (form ∷ forms) = ap (λ r. r ∷ map role_of_form (map (renamed f) forms)) (role-renamed f form) ∙ ap (λ l. role_of_form form ∷ l) (roles-renamed f forms)

-- no line, no index
pub no_line : (found : Option ℕ) → number_of_line found ≡ None → found ≡ None
no_line None is = refl
no_line (Some index) is = let clash : ⊥ = cc in absurd clash

-- What is named `main` takes nothing.
abbrev takes_nothing : (Text → Bool) → Declaration → Bool
takes_nothing p item = not (p item.name) || is_nothing item.parameters

named_nothing : (p : Text → Bool) (items : List Declaration) (i : ℕ) → first_where p (names_of items) ≡ Some i → list_all (takes_nothing p) items ≡ true → (named : Declaration) × (slice_get items i ≡ Some named) × (is_nothing named.parameters ≡ true)
named_nothing p [] i is nothing = let clash : ⊥ = cc in absurd clash
named_nothing p (one ∷ items) i is nothing = go (p one.name) (first_where p (names_of items)) (λ j. named_nothing p items j) refl is nothing
  where
    go : (b : Bool) (o : Option ℕ) → ((j : ℕ) → first_where p (names_of items) ≡ Some j → list_all (takes_nothing p) items ≡ true → (named : Declaration) × (slice_get items j ≡ Some named) × (is_nothing named.parameters ≡ true)) →
        first_where p (names_of items) ≡ o → (if b then Some 0 else option_map suc o) ≡ Some i → ((not b || is_nothing one.parameters) && list_all (takes_nothing p) items) ≡ true →
        (named : Declaration) × (slice_get (one ∷ items) i ≡ Some named) × (is_nothing named.parameters ≡ true)
    go true o more later e all =
        let same : 0 ≡ i = cc in
        (one, subst (λ n. slice_get (one ∷ items) n ≡ Some one) same refl, (both (is_nothing one.parameters) (list_all (takes_nothing p) items) all).0)
    go false None more later e all = let clash : ⊥ = cc in absurd clash
    go false (Some j) more later e all =
        let same : suc j ≡ i = cc in
        let (named, at, nothing) = more j later all in
        (named, subst (λ n. slice_get (one ∷ items) n ≡ Some named) same at, nothing)

parameter_type : (items : List Declaration) (ts : List (ParameterType Text)) → is_nothing ts ≡ true → is_entry (Some (map (parameter_named items) ts)) ≡ true
parameter_type items [] e = refl
parameter_type items (t ∷ ts) e = let clash : ⊥ = cc in absurd clash

entry_found : (items : List Declaration) (name : Text) (main : ℕ) → procedure_referent (item_referent items name) ≡ Some main → list_all (takes_nothing (λ n. bytes_eq n name)) items ≡ true → is_entry (slice_get (signatures_among items) main) ≡ true
entry_found items name main is all = found (first_declaration_of (names_of items) name) refl is
  where
    by_kind : (index : ℕ) (named : Declaration) (kind : ItemKind) → slice_get items index ≡ Some named → is_nothing named.parameters ≡ true → named.kind ≡ kind → procedure_referent (referent_of_kind kind (count_among kind (take index items))) ≡ Some main →
        is_entry (slice_get (signatures_among items) main) ≡ true
    by_kind index named item.Class at nothing e is = let clash : ⊥ = cc in absurd clash
    by_kind index named item.Operation at nothing e is = let clash : ⊥ = cc in absurd clash
    by_kind index named item.Procedure at nothing e is =
        let same : count_among item.Procedure (take index items) ≡ main = cc in
        let signature : Declaration → List Parameter = λ i. map (parameter_named items) i.parameters in
        subst (λ n. is_entry (slice_get (signatures_among items) n) ≡ true) same
        (ap is_entry (slice_get-map signature (of_kind item.Procedure items) (count_among item.Procedure (take index items)))
        ∙ ap (λ o. is_entry (option_map signature o)) (item_here item.Procedure items index named at (ap (λ k. is_same_kind k item.Procedure) e))
        ∙ parameter_type items named.parameters nothing)

    found : (place : Option ℕ) → first_declaration_of (names_of items) name ≡ place → procedure_referent (item_at items place) ≡ Some main → is_entry (slice_get (signatures_among items) main) ≡ true
    found None e is = let clash : ⊥ = cc in absurd clash
    found (Some index) e is =
        let (named, at, nothing) = named_nothing (λ n. bytes_eq n name) items index e all in
        by_kind index named named.kind at nothing refl (ap (λ o. procedure_referent (item_after (take index items) o)) (sym at) ∙ is)

abbrev is_main : Text → Bool
is_main name = bytes_eq name (codes "main")

given_nothing : (named nothing class : Bool) → ((named || false) && (not nothing || class)) ≡ false → ((not named || nothing) && true) ≡ true
given_nothing true true class e = refl
given_nothing true false class e = let clash : ⊥ = cc in absurd clash
given_nothing false nothing class e = refl

line_entry : (form : Form Text) (following : List (Form Text)) → misuses_main form ≡ false → list_all (takes_nothing is_main) (items_by form following) ≡ true
line_entry Skip following none = refl
line_entry Unknown following none = refl
line_entry (Line line_kind.Class (Name n ∷ os)) following none = given_nothing (is_main n) (is_nothing (parameters_in (Line line_kind.Class (Name n ∷ os)))) true none
line_entry (Line line_kind.Class []) following none = refl
line_entry (Line line_kind.Class (_ ∷ os)) following none = refl
line_entry (Line line_kind.Proc (Name n ∷ os)) following none = given_nothing (is_main n) (is_nothing (parameters_in (Line line_kind.Proc (Name n ∷ os)))) false none
line_entry (Line line_kind.Proc []) following none = refl
line_entry (Line line_kind.Proc (_ ∷ os)) following none = refl
line_entry (Line line_kind.Op (Name n ∷ os)) following none = given_nothing (is_main n) (is_nothing (parameters_in (Line line_kind.Op (Name n ∷ os)))) false none
line_entry (Line line_kind.Op []) following none = refl
line_entry (Line line_kind.Op (_ ∷ os)) following none = refl
line_entry (Line _ operands) following none = refl

lines_entry : (items : List Declaration) (forms : List (Form Text)) (known : NamesSoFar) → first_bad known_after (has_wrong_kind items) known forms ≡ None → list_all (takes_nothing is_main) (items_of forms) ≡ true
lines_entry items [] known right = refl
lines_entry items (form ∷ forms) known right =
    let (here, later) = good_first (has_wrong_kind items known form) (first_bad known_after (has_wrong_kind items) (known_after known form) forms) right in
    let (fine, main, trapped, outside) = none_wrong (is_right_line items (resolved_line items known form)) (misuses_main form) (returns_in_trap known form) (returns_outside known form) here in
    list_all-append (takes_nothing is_main) (items_by form forms) (items_of forms) ∙ both_hold _ _ (line_entry form forms main) (lines_entry items forms (known_after known form) later)

-- `main` is one of the procedures, and takes nothing
pub main_entry : (forms : List (Form Text)) (main : ℕ) → AreTyped forms → main_of forms ≡ Some main → first_wrong forms ≡ None → is_entry (slice_get (counts_of (resolved forms)).procedures main) ≡ true
main_entry forms main typed is right =
    ap (λ (ps : List (List Parameter)). is_entry (slice_get ps main)) (procedures-resolved forms typed)
    ∙ entry_found (items_of forms) (codes "main") main is (lines_entry (items_of forms) forms nothing_known right)

-- What the checks of lines found is so of the lines.
pub all_named : (forms : List (Form Text)) (checked : Checked) → AreChecked (items_of forms) forms checked → AreNamed checked.first → IsNamed forms
all_named forms checked found named = record {
  known = no_line _ (sym found.unknown_name ∙ named.known);
  once = no_line _ (sym found.double_name ∙ named.once);
  right = no_line _ (sym found.wrong_kind ∙ named.right);
  quiet = no_line _ (sym found.may_leave ∙ named.quiet);
}

pub lines_fault : (forms : List (Form Text)) (checked : Checked) (fault : ScriptFault) → AreChecked (items_of forms) forms checked → IsFirstFault (items_of forms) checked.first fault → IsLinesFault forms fault
lines_fault forms checked (UnknownName n) found is = sym found.unknown_name ∙ is
lines_fault forms checked (DoubleName n) found is = (no_line _ (sym found.unknown_name ∙ is.0), sym found.double_name ∙ is.1)
lines_fault forms checked (WrongKind n) found is = (no_line _ (sym found.unknown_name ∙ is.0), no_line _ (sym found.double_name ∙ is.1), sym found.wrong_kind ∙ is.2)
lines_fault forms checked (MayLeave n) found is = (no_line _ (sym found.unknown_name ∙ is.0), no_line _ (sym found.double_name ∙ is.1), no_line _ (sym found.wrong_kind ∙ is.2), sym found.may_leave ∙ is.3)
lines_fault forms checked NoMain found is = (all_named forms checked found is.0, is.1)
lines_fault forms checked (TooMany n) found is = (all_named forms checked found is.0, is.1, sym found.too_many ∙ is.2)
lines_fault forms checked _ found is = absurd is
