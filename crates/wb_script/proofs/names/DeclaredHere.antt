-- The names that a body knows are those that the lines before declare.
use Rattle.std.proofs.Common.{◌≡◌, List, [], ◌∷◌, ◌++◌, Bool, true, false, not, ◌||◌, ◌⊎◌, inl, inr, refl, sym, ap, subst, ◌∙◌}
use Rattle.std.specs.Prelude.{if◌then◌else◌}
use Rattle.std.specs.List.{list_all}
use Rattle.std.specs.Str.{bytes_eq}
use Rattle.std.proofs.lemmas.List.Folds.{list_any-append}
use Rattle.wb_tree.specs.declared.script_lines.LineKind.TheVariants as line_kind
use Rattle.wb_tree.specs.declared.script_lines.BodyKind.TheVariants as of
use Rattle.wb_tree.specs.declared.script_lines.Form.{Form}
use Rattle.wb_tree.specs.declared.script_lines.Form.TheVariants.{Line}
use Rattle.wb_language.specs.Forms.{role_of_form}
use Rattle.wb_language.specs.Names.{Text, NamesSoFar, known_after, nothing_known, begins_body, body_after, body_in, is_among, locals_by, locals_after}
use Rattle.wb_language.specs.Passes.{state_after}
use Rattle.wb_language.specs.Resolved.{has_this, is_this}
use Rattle.wb_language.specs.Undeclared.{stays_inside, is_of_object, declares, IsDeclared}
use Rattle.wb_lines.proofs.TypedLemmas.{both}
use Rattle.wb_script.proofs.names.AbsentNames.{or_false, is_known_here}

-- one more line declares a name, or leaves those that its body declares
pub this_after : (form : Form Text) (known : NamesSoFar) → has_this (body_after (body_in form) known.body) ≡ (if begins_body (role_of_form form) then is_of_object (role_of_form form) else (has_this known.body || is_of_object (role_of_form form)))
this_after (Line line_kind.Constructor operands) known = refl
this_after (Line line_kind.Destructor operands) known = refl
this_after (Line line_kind.Proc operands) known = refl
this_after (Line line_kind.Op operands) known = refl
this_after _ known = sym (or_false (has_this known.body))

here_after : (form : Form Text) (known : NamesSoFar) (name : Text) → is_known_here (known_after known form) name ≡ (if begins_body (role_of_form form) then declares form name else (is_known_here known name || declares form name))
here_after form known name = on (is_this name)
  where
    by_role : (b : Bool) → is_among (if b then locals_by (role_of_form form) form else known.locals ++ locals_by (role_of_form form) form) name ≡
        (if b then is_among (locals_by (role_of_form form) form) name else (is_among known.locals name || is_among (locals_by (role_of_form form) form) name))
    by_role true = refl
    by_role false = list_any-append (λ n. bytes_eq n name) known.locals (locals_by (role_of_form form) form)

    on : (b : Bool) → (if b then has_this (body_after (body_in form) known.body) else is_among (locals_after (role_of_form form) form known.locals) name) ≡
        (if begins_body (role_of_form form) then (if b then is_of_object (role_of_form form) else is_among (locals_by (role_of_form form) form) name)
        else ((if b then has_this known.body else is_among known.locals name) || (if b then is_of_object (role_of_form form) else is_among (locals_by (role_of_form form) form) name)))
    on true = this_after form known
    on false = by_role (begins_body (role_of_form form))

one_more : (form : Form Text) (known : NamesSoFar) (name : Text) → is_known_here (known_after known form) name ≡ true → (declares form name ≡ true) ⊎ ((is_known_here known name ≡ true) × (stays_inside form ≡ true))
one_more form known name is = go (begins_body (role_of_form form)) (is_known_here known name) refl (sym (here_after form known name) ∙ is)
  where
    go : (begins here : Bool) → is_known_here known name ≡ here → (if begins then declares form name else (here || declares form name)) ≡ true → (declares form name ≡ true) ⊎ ((is_known_here known name ≡ true) × (not begins ≡ true))
    go true here e h = inl h
    go false true e h = inr (e, refl)
    go false false e h = inl h

-- what the body knows, the lines declare
declared_back : (before : List (Form Text)) (known : NamesSoFar) (name : Text) → is_known_here (state_after known_after known before) name ≡ true → IsDeclared before name ⊎ ((is_known_here known name ≡ true) × (list_all stays_inside before ≡ true))
declared_back [] known name is = inr (is, refl)
declared_back (form ∷ forms) known name is = go (declared_back forms (known_after known form) name is)
  where
    go : IsDeclared forms name ⊎ ((is_known_here (known_after known form) name ≡ true) × (list_all stays_inside forms ≡ true)) → IsDeclared (form ∷ forms) name ⊎ ((is_known_here known name ≡ true) × (list_all stays_inside (form ∷ forms) ≡ true))
    go (inl (earlier, later, line, parts, declares, inside)) = inl (form ∷ earlier, later, line, ap (λ l. form ∷ l) parts, declares, inside)
    go (inr (known_here, inside)) = here (one_more form known name known_here)
      where
        here : (declares form name ≡ true) ⊎ ((is_known_here known name ≡ true) × (stays_inside form ≡ true)) → IsDeclared (form ∷ forms) name ⊎ ((is_known_here known name ≡ true) × (list_all stays_inside (form ∷ forms) ≡ true))
        here (inl declares) = inl ([], forms, form, refl, declares, inside)
        here (inr (known_here, stays)) = inr (known_here, rw stays inside)

-- and the other way round
pub either_true : (a b : Bool) → (a ≡ true) ⊎ (b ≡ true) → (a || b) ≡ true
either_true true b is = refl
either_true false b (inl is) = let clash : ⊥ = cc in absurd clash
either_true false b (inr is) = is

kept_or_added : (form : Form Text) (known : NamesSoFar) (name : Text) → ((stays_inside form ≡ true) × (is_known_here known name ≡ true)) ⊎ (declares form name ≡ true) → is_known_here (known_after known form) name ≡ true
kept_or_added form known name is = here_after form known name ∙ go (begins_body (role_of_form form)) is
  where
    go : (begins : Bool) → ((not begins ≡ true) × (is_known_here known name ≡ true)) ⊎ (declares form name ≡ true) → (if begins then declares form name else (is_known_here known name || declares form name)) ≡ true
    go true (inl (stays, e)) = let clash : ⊥ = cc in absurd clash
    go true (inr e) = e
    go false (inl (stays, e)) = either_true (is_known_here known name) (declares form name) (inl e)
    go false (inr e) = either_true (is_known_here known name) (declares form name) (inr e)

kept_through : (forms : List (Form Text)) (known : NamesSoFar) (name : Text) → list_all stays_inside forms ≡ true → is_known_here known name ≡ true → is_known_here (state_after known_after known forms) name ≡ true
kept_through [] known name inside is = is
kept_through (form ∷ forms) known name inside is =
    let (here, rest) = both (stays_inside form) (list_all stays_inside forms) inside in
    kept_through forms (known_after known form) name rest (kept_or_added form known name (inl (here, is)))

declared_there : (earlier later : List (Form Text)) (form : Form Text) (known : NamesSoFar) (name : Text) → declares form name ≡ true → list_all stays_inside later ≡ true → is_known_here (state_after known_after known (earlier ++ form ∷ later)) name ≡ true
declared_there [] later form known name is inside = kept_through later (known_after known form) name inside (kept_or_added form known name (inr is))
declared_there (line ∷ earlier) later form known name is inside = declared_there earlier later form (known_after known line) name is inside

abbrev pub known_following : List (Form Text) → NamesSoFar
known_following before = state_after known_after nothing_known before

pub declared_is : (before : List (Form Text)) (name : Text) → IsDeclared before name → is_known_here (known_following before) name ≡ true
declared_is before name (earlier, later, form, parts, is, inside) = subst (λ l. is_known_here (known_following l) name ≡ true) (sym parts) (declared_there earlier later form nothing_known name is inside)

nothing_here : (name : Text) → is_known_here nothing_known name ≡ true → ⊥
nothing_here name = go (is_this name)
  where
    go : (b : Bool) → (if b then has_this of.Procedure else is_among [] name) ≡ true → ⊥
    go true e = cc
    go false e = cc

pub is_declared : (before : List (Form Text)) (name : Text) → is_known_here (known_following before) name ≡ true → IsDeclared before name
is_declared before name is = go (declared_back before nothing_known name is)
  where
    go : IsDeclared before name ⊎ ((is_known_here nothing_known name ≡ true) × (list_all stays_inside before ≡ true)) → IsDeclared before name
    go (inl declared) = declared
    go (inr (never, inside)) = absurd (nothing_here name never)
