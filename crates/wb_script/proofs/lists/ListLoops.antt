-- The steps of loops that find a list: each element of another gives some of it.
use Rattle.std.proofs.Common.{◌≡◌, ℕ, suc, ◌+◌, ◌<◌, ◌≤◌, List, [], ◌++◌, length, get_or, drop, map, refl, sym, ap, ◌∙◌, add-one, append-nil, append_assoc, drop-cons}
use Rattle.std.proofs.lemmas.List.{drop_all}
use Rattle.std.specs.Borrow.{Bor}
use Rattle.std.specs.List.{flat_map}
use Rattle.wb_tree.specs.declared.script_lines.Form.{Form}
use Rattle.wb_tree.specs.declared.script_lines.Role.{Role}
use Rattle.wb_tree.specs.declared.script_lines.Role.TheVariants as role
use Rattle.wb_language.specs.Forms.{role_of_form}
use Rattle.wb_language.specs.Names.{Text, first_name, fields_with, following_fields}
use Rattle.wb_lines.specs.BytesOf.{bytes_of_text, bytes_of_form, bytes_of_forms}
use Rattle.wb_lines.proofs.BytesOf.{role-renamed}

module _ {V L X : Type 0} (view : V → L) (gives : L → List X) (xs : List V) (i : ℕ) where
  -- what one more element gives is found
  pub one_found : (d : V) (found : List X) → i < length xs → (found ++ gives (view (get_or xs i d))) ++ flat_map gives (map view (drop (i + 1) xs)) ≡ found ++ flat_map gives (map view (drop i xs))
  one_found d found lt = rw (drop-cons xs i d lt, add-one i) (append_assoc found (gives (view (get_or xs i d))) (flat_map gives (map view (drop (suc i) xs))))

  -- after the last element nothing is left to find
  pub all_found : (found whole : List X) → length xs ≤ i → found ++ flat_map gives (map view (drop i xs)) ≡ whole → found ≡ whole
  all_found found whole le is = sym (append-nil found) ∙ (rw (drop_all i xs le) at is)

module _ (forms : List (Form (Bor Text))) (i : ℕ) (found whole : List Text) (so_far : found ++ following_fields (bytes_of_forms (drop i forms)) ≡ whole) where
  -- after the last line no field is left to find
  pub all_fields : length forms ≤ i → found ≡ whole
  all_fields le = sym (append-nil found) ∙ (rw (drop_all i forms le) at so_far)

  module _ (form : Form (Bor Text)) (lt : i < length forms) (is : form ≡ get_or forms i form) where
    abbrev others : List Text
    others = following_fields (bytes_of_forms (drop (i + 1) forms))

    fields_here : (r : Role) → role_of_form form ≡ r → following_fields (bytes_of_forms (drop i forms)) ≡ fields_with r (bytes_of_form form) others
    fields_here r e = rw (drop-cons forms i form lt, add-one i, ← is, role-renamed bytes_of_text form, e) refl

    pub field_found : role_of_form form ≡ role.Field → (found ++ first_name (bytes_of_form form)) ++ others ≡ whole
    field_found e = append_assoc found (first_name (bytes_of_form form)) others ∙ ap (λ l. found ++ l) (sym (fields_here role.Field e)) ∙ so_far

    pub line_skipped : role_of_form form ≡ role.Skip → found ++ others ≡ whole
    line_skipped e = ap (λ l. found ++ l) (sym (fields_here role.Skip e)) ∙ so_far

    -- a line of any other role ends them
    pub fields_end : (role_of_form form ≡ role.Skip → ⊥) → (role_of_form form ≡ role.Field → ⊥) → found ≡ whole
    fields_end skipped field = sym (append-nil found) ∙ ap (λ l. found ++ l) (sym (fields_here (role_of_form form) refl ∙ none (role_of_form form) skipped field)) ∙ so_far
      where
        none : (r : Role) → (r ≡ role.Skip → ⊥) → (r ≡ role.Field → ⊥) → fields_with r (bytes_of_form form) others ≡ []
        none role.Skip skipped field = absurd (skipped refl)
        none role.Field skipped field = absurd (field refl)
        none _ skipped field = refl
