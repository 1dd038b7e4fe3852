-- What the tables of the script's own space hold is what is meant of all items.
use Rattle.std.proofs.Common.{◌≡◌, refl, sym, ap, ◌∙◌, ℕ, zero, suc, ◌+◌, ◌<◌, ◌≤◌, add-zero, zero-add, List, [], ◌∷◌, length, get_or, map, take, Option, Some, None, Bool, true, false, cond, arith}
use Rattle.std.specs.Prelude.{slice_get, if◌then◌else◌, unwrap_or}
use Rattle.std.specs.Option.{option_map, option_and_then}
use Rattle.std.specs.Str.{bytes_eq}
use Rattle.wb_tree.specs.declared.script_lines.ItemKind.{ItemKind}
use Rattle.wb_tree.specs.declared.script_lines.ItemKind.TheVariants as item
use Rattle.wb_tree.specs.declared.script_lines.Referent.{Referent}
use Rattle.wb_tree.specs.declared.script_lines.Referent.TheVariants as referent
use Rattle.wb_language.specs.Names as model
use Rattle.wb_language.specs.Names.{Text, count_among, first_declaration_of, is_same_kind, item_of_kind, names_of, of_kind}
use Rattle.wb_language.specs.Resolved.{item_after, item_at, referent_of_kind}
use Rattle.wb_language.specs.Passes.{first_where}
use Rattle.wb_script.specs.BytesOf.{bytes_of_items}
use Rattle.wb_script.specs.Tables.{indexes_from, next_referent, no_counts, referents_from, with_next}
use Rattle.wb_script.specs.declared.checks.items.Declaration.{Declaration}
use Rattle.wb_script.specs.declared.checks.tables.Counts.{Counts}
use Rattle.wb_script.proofs.lists.Passes.{found_from, found_here, found_later}
use Rattle.wb_script.proofs.names.BytesOf.{names-lent}

-- the index of the first declaration of a name among the items from an index on
abbrev pub named_from : List Declaration → ℕ → Text → Option ℕ
named_from items at name = found_from (λ (item : Declaration). item.name.now) (λ s n. s) (λ s n. bytes_eq n name) items at (tt {0})

-- with the item before those from an index on
pub one_more_named : (items : List Declaration) (at i : ℕ) (d : Declaration) (name : Text) (later : Option ℕ) → at ≡ i + 1 → at ≤ length items → later ≡ named_from items at name →
    cond (bytes_eq (get_or items i d).name.now name) (Some i) later ≡ named_from items i name
one_more_named items at i d name later next within is = go (bytes_eq (get_or items i d).name.now name) refl
  where
    lt : i < length items
    lt = omega (arith, next, within)

    go : (b : Bool) → bytes_eq (get_or items i d).name.now name ≡ b → cond b (Some i) later ≡ named_from items i name
    go true same = sym (found_here (λ (item : Declaration). item.name.now) (λ s n. s) (λ s n. bytes_eq n name) items i (tt {0}) d lt same)
    go false other =
        is ∙ ap (λ n. named_from items n name) next
        ∙ sym (found_later (λ (item : Declaration). item.name.now) (λ s n. s) (λ s n. bytes_eq n name) items i (tt {0}) d lt other)

no_shift : (o : Option ℕ) → option_map (λ n. 0 + n) o ≡ o
no_shift None = refl
no_shift (Some n) = ap Some (omega arith)

-- those from the first on are all
pub all_named : (items : List Declaration) (at : ℕ) (name : Text) → at ≤ 0 → named_from items at name ≡ first_declaration_of (names_of (bytes_of_items items)) name
all_named items zero name none = rw (names-lent items) (no_shift (first_where (λ n. bytes_eq n name) (map (λ (i : Declaration). i.name.now) items)))
all_named items (suc at) name none = let clash : ⊥ = omega (arith, none) in absurd clash

-- what the item with an index is, by how many are before all
abbrev counts_after : Counts → List model.Declaration → Counts
counts_after counts [] = counts
counts_after counts (i ∷ items) = counts_after (with_next counts i.kind) items

referent_from : (counts : Counts) (items : List model.Declaration) (index : ℕ) →
    slice_get (referents_from counts items) index ≡ option_map (λ i. next_referent (counts_after counts (take index items)) i.kind) (slice_get items index)
referent_from counts [] index = refl
referent_from counts (i ∷ items) zero = refl
referent_from counts (i ∷ items) (suc index) = referent_from (with_next counts i.kind) items index

abbrev count_in : ItemKind → Counts → ℕ
count_in item.Class counts = counts.classes
count_in item.Procedure counts = counts.procedures
count_in item.Operation counts = counts.operations

counted : (kind : ItemKind) (items : List model.Declaration) (counts : Counts) → count_in kind (counts_after counts items) ≡ count_in kind counts + count_among kind items
counted kind [] counts = sym (add-zero (count_in kind counts))
counted kind (i ∷ items) counts = go kind i.kind (counted kind items (with_next counts i.kind))
  where
    go : (kind k : ItemKind) → count_in kind (counts_after (with_next counts k) items) ≡ count_in kind (with_next counts k) + count_among kind items →
        count_in kind (counts_after (with_next counts k) items) ≡ count_in kind counts + length (if is_same_kind k kind then (i ∷ of_kind kind items) else of_kind kind items)
    go item.Class item.Class is = omega (arith, is)
    go item.Class item.Procedure is = is
    go item.Class item.Operation is = is
    go item.Procedure item.Class is = is
    go item.Procedure item.Procedure is = omega (arith, is)
    go item.Procedure item.Operation is = is
    go item.Operation item.Class is = is
    go item.Operation item.Procedure is = is
    go item.Operation item.Operation is = omega (arith, is)

next_is : (counts : Counts) (kind : ItemKind) → next_referent counts kind ≡ referent_of_kind kind (count_in kind counts)
next_is counts item.Class = refl
next_is counts item.Procedure = refl
next_is counts item.Operation = refl

none_before : (kind : ItemKind) → count_in kind no_counts ≡ 0
none_before item.Class = refl
none_before item.Procedure = refl
none_before item.Operation = refl

referent_after : (before : List model.Declaration) (kind : ItemKind) → next_referent (counts_after no_counts before) kind ≡ referent_of_kind kind (count_among kind before)
referent_after before kind =
    next_is (counts_after no_counts before) kind
    ∙ ap (referent_of_kind kind) (counted kind before no_counts ∙ ap (λ n. n + count_among kind before) (none_before kind) ∙ zero-add (count_among kind before))

-- the table of referents has what the item with an index is
pub referent_here : (items : List model.Declaration) (index : ℕ) (o : Option Referent) → slice_get (referents_from no_counts items) index ≡ o → item_at items (Some index) ≡ unwrap_or o referent.Nothing
referent_here items index o is =
    go (slice_get items index)
    ∙ ap (λ (r : Option Referent). unwrap_or r referent.Nothing) (sym (referent_from no_counts items index) ∙ is)
  where
    go : (o : Option model.Declaration) → item_after (take index items) o ≡ unwrap_or (option_map (λ i. next_referent (counts_after no_counts (take index items)) i.kind) o) referent.Nothing
    go None = refl
    go (Some i) = sym (referent_after (take index items) i.kind)

-- the table of indexes has those of a kind
index_from : (kind : ItemKind) (items : List model.Declaration) (first : ℕ) (look : ℕ → Option model.Declaration) → ((n : ℕ) → look (first + n) ≡ slice_get items n) → (index : ℕ) →
    option_and_then look (slice_get (indexes_from kind first items) index) ≡ item_of_kind kind items index
index_from kind [] first look same index = refl
index_from kind (i ∷ items) first look same index =
    go (index_from kind items (suc first) look (λ n. ap look (omega arith) ∙ same (suc n))) (is_same_kind i.kind kind) index
  where
    go : ((n : ℕ) → option_and_then look (slice_get (indexes_from kind (suc first) items) n) ≡ item_of_kind kind items n) → (b : Bool) (index : ℕ) →
        option_and_then look (slice_get (if b then (first ∷ indexes_from kind (suc first) items) else indexes_from kind (suc first) items) index) ≡ slice_get (if b then (i ∷ of_kind kind items) else of_kind kind items) index
    go later true zero = ap look (sym (add-zero first)) ∙ same 0
    go later true (suc index) = later index
    go later false index = later index

pub index_here : (kind : ItemKind) (items : List Declaration) (indexes : List ℕ) (index : ℕ) → indexes ≡ indexes_from kind 0 (bytes_of_items items) →
    option_and_then (slice_get (bytes_of_items items)) (slice_get indexes index) ≡ item_of_kind kind (bytes_of_items items) index
index_here kind items indexes index is =
    ap (λ l. option_and_then (slice_get (bytes_of_items items)) (slice_get l index)) is
    ∙ index_from kind (bytes_of_items items) 0 (slice_get (bytes_of_items items)) (λ n. ap (slice_get (bytes_of_items items)) (zero-add n)) index
