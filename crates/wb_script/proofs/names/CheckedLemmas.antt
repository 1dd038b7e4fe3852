-- What one more line is to the checks of the lines before it.
use Rattle.std.proofs.Common.{◌≡◌, ℕ, suc, ◌+◌, List, [], ◌∷◌, ◌++◌, length, Bool, false, Option, Some, None, refl, sym, ap, ◌∙◌, add-zero, append-nil, arith}
use Rattle.std.proofs.lemmas.Grind.{flat_map-append}
use Rattle.wb_tree.specs.declared.script_lines.Form.{Form}
use Rattle.wb_tree.specs.declared.script_lines.Form.TheVariants.{Skip}
use Rattle.wb_language.specs.Kinds.{has_wrong_kind, may_leave}
use Rattle.wb_language.specs.Names.{Text, NamesSoFar, Declaration, names_of, nothing_known, known_after, first_refused, declares_again, passes_limit, literals_in, literals_of}
use Rattle.wb_language.specs.Resolved.{resolved_among, resolved_line, uses_unknown}
use Rattle.wb_language.specs.Scripts.{number_of_line}
use Rattle.wb_script.specs.Checks.{known_in, or_here, AreChecked}
use Rattle.wb_lines.specs.BytesOf.{bytes_of_texts}
use Rattle.wb_script.specs.declared.checks.Checked.{Checked}
use Rattle.wb_script.proofs.lists.Passes.{state_last, each_last, each_length, first_last}

module _ (items : List Declaration) (before : List (Form Text)) (form : Form Text) (old new : Checked) (number : ℕ) (checked : AreChecked items before old) (counted : number ≡ length old.lines + 1) where
  number_is : number ≡ suc (length before)
  number_is =
      let same : length old.lines ≡ length before = ap length checked.lines ∙ each_length known_after (resolved_line items) before nothing_known in
      omega (arith, counted, same)

  one_more_refused : (bad : NamesSoFar → Form Text → Bool) (was is : Option ℕ) → was ≡ number_of_line (first_refused bad before) → is ≡ or_here was number (bad (known_in old.known) form) → is ≡ number_of_line (first_refused bad (before ++ form ∷ []))
  one_more_refused bad was is found more =
      more
      ∙ ap (λ w. or_here w number (bad (known_in old.known) form)) found
      ∙ ap (λ n. or_here (number_of_line (first_refused bad before)) n (bad (known_in old.known) form)) number_is
      ∙ ap (λ k. or_here (number_of_line (first_refused bad before)) (suc (length before)) (bad k form)) checked.known
      ∙ sym (first_last known_after bad before form nothing_known)

  pub one_more_checked : new.lines ≡ old.lines ++ resolved_line items (known_in old.known) form ∷ [] →
      known_in new.known ≡ known_after (known_in old.known) form →
      bytes_of_texts new.known.literals.items ≡ bytes_of_texts old.known.literals.items ++ literals_in form →
      new.first.unknown_name ≡ or_here old.first.unknown_name number (uses_unknown items (known_in old.known) form) →
      new.first.double_name ≡ or_here old.first.double_name number (declares_again (names_of items) (known_in old.known) form) →
      new.first.wrong_kind ≡ or_here old.first.wrong_kind number (has_wrong_kind items (known_in old.known) form) →
      new.first.may_leave ≡ or_here old.first.may_leave number (may_leave (known_in old.known) form) →
      new.first.too_many ≡ or_here old.first.too_many number (passes_limit (known_in old.known) form) →
      AreChecked items (before ++ form ∷ []) new
  one_more_checked lines known literals unknown double wrong leaving many = record {
    lines =
        lines
        ∙ ap (λ l. l ++ resolved_line items (known_in old.known) form ∷ []) checked.lines
        ∙ ap (λ k. resolved_among items before ++ resolved_line items k form ∷ []) checked.known
        ∙ sym (each_last known_after (resolved_line items) before form nothing_known);
    known = known ∙ ap (λ k. known_after k form) checked.known ∙ sym (state_last known_after before form nothing_known);
    literals =
        literals
        ∙ ap (λ l. l ++ literals_in form) checked.literals
        ∙ ap (λ l. literals_of before ++ l) (sym (append-nil (literals_in form)))
        ∙ sym (flat_map-append literals_in before (form ∷ []));
    unknown_name = one_more_refused (uses_unknown items) _ _ checked.unknown_name unknown;
    double_name = one_more_refused (declares_again (names_of items)) _ _ checked.double_name double;
    wrong_kind = one_more_refused (has_wrong_kind items) _ _ checked.wrong_kind wrong;
    may_leave = one_more_refused may_leave _ _ checked.may_leave leaving;
    too_many = one_more_refused passes_limit _ _ checked.too_many many;
  }

none_here : (found : Option ℕ) (number : ℕ) → found ≡ or_here found number false
none_here (Some first) number = refl
none_here None number = refl

skipped_known : (known : NamesSoFar) → known ≡ known_after known Skip
skipped_known known = rw (add-zero known.classes, add-zero known.procedures, add-zero known.operations, add-zero known.literals, append-nil known.locals, append-nil known.kinds) refl

-- a skipped line changes nothing that is known, and no check refuses it
pub skipped_checked : (items : List Declaration) (before : List (Form Text)) (old new : Checked) → AreChecked items before old → new.lines ≡ old.lines ++ Skip ∷ [] → new.known ≡ old.known → new.first ≡ old.first → AreChecked items (before ++ Skip ∷ []) new
skipped_checked items before old new checked lines known first =
    let number : ℕ = length old.lines + 1 in
    one_more_checked items before Skip old new number checked refl
    lines
    (ap known_in known ∙ skipped_known (known_in old.known))
    (ap (λ k. bytes_of_texts k.literals.items) known ∙ sym (append-nil (bytes_of_texts old.known.literals.items)))
    (ap (λ f. f.unknown_name) first ∙ none_here old.first.unknown_name number)
    (ap (λ f. f.double_name) first ∙ none_here old.first.double_name number)
    (ap (λ f. f.wrong_kind) first ∙ none_here old.first.wrong_kind number)
    (ap (λ f. f.may_leave) first ∙ none_here old.first.may_leave number)
    (ap (λ f. f.too_many) first ∙ none_here old.first.too_many number)
