-- What is found by its name has an index, among its kind too.
use Rattle.std.proofs.Common.{◌≡◌, refl, ap, ◌∙◌, ℕ, zero, suc, take, ◌<◌, List, [], ◌∷◌, Bool, true, false, length, Option, Some, None, arith}
use Rattle.std.specs.Prelude.{slice_get, if◌then◌else◌}
use Rattle.std.specs.Option.{option_map}
use Rattle.std.specs.Str.{bytes_eq}
use Rattle.std.proofs.lemmas.Option.{slice_get_within}
use Rattle.wb_tree.specs.declared.script_lines.ItemKind.{ItemKind}
use Rattle.wb_tree.specs.declared.script_lines.ItemKind.TheVariants as item
use Rattle.wb_language.specs.Kinds.{same}
use Rattle.wb_language.specs.Names.{Text, Declaration, is_same_kind, of_kind, item_of_kind, count_among, first_declaration_of}
use Rattle.wb_language.specs.Passes.{first_where}

-- a name that is declared has an index
where_within : (p : Text → Bool) (names : List Text) (i : ℕ) → first_where p names ≡ Some i → i < length names
where_within p [] i is = let clash : ⊥ = cc in absurd clash
where_within p (n ∷ ns) i is = go (p n) (first_where p ns) (where_within p ns) is
  where
    go : (b : Bool) (o : Option ℕ) → ((j : ℕ) → o ≡ Some j → j < length ns) → (if b then Some 0 else option_map suc o) ≡ Some i → i < suc (length ns)
    go true o more e = let same : 0 ≡ i = cc in omega arith
    go false None more e = let clash : ⊥ = cc in absurd clash
    go false (Some j) more e = let same : suc j ≡ i = cc in let lt = more j refl in omega arith

pub place_within : (names : List Text) (name : Text) (i : ℕ) → first_declaration_of names name ≡ Some i → i < length names
place_within names name i is = where_within (λ n. bytes_eq n name) names i is

pub same_as_itself : (kind : ItemKind) → is_same_kind kind kind ≡ true
same_as_itself item.Class = refl
same_as_itself item.Procedure = refl
same_as_itself item.Operation = refl

-- an item is among those of its kind, after the ones of the items before it
pub item_here : (kind : ItemKind) (items : List Declaration) (n : ℕ) (i : Declaration) → slice_get items n ≡ Some i → is_same_kind i.kind kind ≡ true → item_of_kind kind items (count_among kind (take n items)) ≡ Some i
item_here kind [] n i is same = let clash : ⊥ = cc in absurd clash
item_here kind (x ∷ xs) zero i is same =
    let here : x ≡ i = cc in
    ap (λ (b : Bool). slice_get (if b then (x ∷ of_kind kind xs) else of_kind kind xs) 0) (ap (λ (y : Declaration). is_same_kind y.kind kind) here ∙ same) ∙ ap (λ (y : Declaration). Some y) here
item_here kind (x ∷ xs) (suc n) i is same = go (is_same_kind x.kind kind) (item_here kind xs n i is same)
  where
    go : (b : Bool) → slice_get (of_kind kind xs) (count_among kind (take n xs)) ≡ Some i →
        slice_get (if b then (x ∷ of_kind kind xs) else of_kind kind xs) (length (if b then (x ∷ of_kind kind (take n xs)) else of_kind kind (take n xs))) ≡ Some i
    go true later = later
    go false later = later

-- so its index is one of its kind
pub index_within : (items : List Declaration) (index : ℕ) (i : Declaration) → slice_get items index ≡ Some i → count_among i.kind (take index items) < count_among i.kind items
index_within items index i is = slice_get_within (of_kind i.kind items) (count_among i.kind (take index items)) i (item_here i.kind items index i is (same_as_itself i.kind))
