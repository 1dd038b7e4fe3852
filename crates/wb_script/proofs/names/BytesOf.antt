-- The names of items that hold references.
use Rattle.std.proofs.Common.{◌≡◌, List, [], ◌∷◌, map, refl, ap}
use Rattle.wb_language.specs.Names.{names_of}
use Rattle.wb_script.specs.BytesOf.{bytes_of_items}
use Rattle.wb_script.specs.declared.checks.items.Declaration.{Declaration}

pub names-lent : (items : List Declaration) → names_of (bytes_of_items items) ≡ map (λ item. item.name.now) items
names-lent [] = refl
names-lent (item ∷ items) = ap (λ l. item.name.now ∷ l) (names-lent items)
