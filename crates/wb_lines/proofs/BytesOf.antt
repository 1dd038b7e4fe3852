-- What references lend: the role of a form, and a list with one more.
use Rattle.std.proofs.Common.{◌≡◌, List, [], ◌∷◌, ◌++◌, map, Option, Some, None, refl}
use Rattle.std.proofs.lemmas.List.{map-append}
use Rattle.std.specs.Option.{option_map, option_to_list}
use Rattle.wb_tree.specs.declared.script_lines.Form.{Form}
use Rattle.wb_tree.specs.declared.script_lines.Form.TheVariants.{Skip, Unknown, Line}
use Rattle.wb_language.specs.Forms.{role_of_form, renamed}

pub role-renamed : {N M : Type 0} (f : N → M) (form : Form N) → role_of_form (renamed f form) ≡ role_of_form form
role-renamed f Skip = refl
role-renamed f Unknown = refl
role-renamed f (Line line_kind operands) = refl

module _ {X Y : Type 0} (f : X → Y) where
  -- a list with one more, where there is one, under a function that maps each
  pub map_some : (xs : List X) (o : Option X) → map f (xs ++ option_to_list o) ≡ map f xs ++ option_to_list (option_map f o)
  map_some xs None = map-append f xs []
  map_some xs (Some x) = map-append f xs (x ∷ [])
