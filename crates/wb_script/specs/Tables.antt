-- The tables by which something of the script's own space is found at once: each holds what a walk over all items would find.
use Rattle.std.specs.Prelude.{◌≡◌, ℕ, suc, List, [], ◌∷◌, if◌then◌else◌}
use Rattle.std.specs.Borrow.{Bor}
use Rattle.std.specs.Str.{bytes_eq}
use Rattle.std.specs.HashMap.{HashMap, get_by}
use Rattle.std.specs.declared.hash.FoldHasher.{FoldHasher}
use Rattle.std.specs.declared.hash.BuildHasherDefault.{BuildHasherDefault}
use Rattle.wb_tree.specs.declared.script_lines.ItemKind.{ItemKind}
use Rattle.wb_tree.specs.declared.script_lines.ItemKind.TheVariants as kind
use Rattle.wb_tree.specs.declared.script_lines.Referent.{Referent}
use Rattle.wb_tree.specs.declared.script_lines.Referent.TheVariants as referent
use Rattle.wb_language.specs.Names.{Text, Declaration, names_of, is_same_kind, count_among, first_declaration_of}
use Rattle.wb_script.specs.declared.checks.tables.Counts.{Counts}

-- the indexes of those of a kind among items, where the first has this index
abbrev pub indexes_from : ItemKind → ℕ → List Declaration → List ℕ
indexes_from kind first [] = []
indexes_from kind first (i ∷ items) = if is_same_kind i.kind kind then (first ∷ indexes_from kind (suc first) items) else indexes_from kind (suc first) items

-- what the next item of a kind is, by how many are before it
abbrev pub next_referent : Counts → ItemKind → Referent
next_referent counts kind.Class = referent.Class counts.classes
next_referent counts kind.Procedure = referent.Procedure counts.procedures
next_referent counts kind.Operation = referent.Operation counts.operations

abbrev pub with_next : Counts → ItemKind → Counts
with_next counts kind.Class = record { classes = suc counts.classes; procedures = counts.procedures; operations = counts.operations }
with_next counts kind.Procedure = record { classes = counts.classes; procedures = suc counts.procedures; operations = counts.operations }
with_next counts kind.Operation = record { classes = counts.classes; procedures = counts.procedures; operations = suc counts.operations }

-- what each item is, by how many are before all of them
abbrev pub referents_from : Counts → List Declaration → List Referent
referents_from counts [] = []
referents_from counts (i ∷ items) = next_referent counts i.kind ∷ referents_from (with_next counts i.kind) items

abbrev pub no_counts : Counts
no_counts = record { classes = 0; procedures = 0; operations = 0 }

abbrev pub Named : Type 0
Named = HashMap (Bor Text) ℕ (BuildHasherDefault FoldHasher)

-- each name with the index of its first declaration
abbrev pub IsNamed : List Declaration → Named → Type 0
IsNamed items named = (name : Bor Text) → get_by (λ k. bytes_eq name.now k.now) named ≡ first_declaration_of (names_of items) name.now

-- the tables of items
pub record AreTables (items : List Declaration) (named : Named) (referents : List Referent) (classes procedures : List ℕ) (operations : ℕ) : Type 0 where
  pub each_name : IsNamed items named
  pub each_item : referents ≡ referents_from no_counts items
  pub each_class : classes ≡ indexes_from kind.Class 0 items
  pub each_procedure : procedures ≡ indexes_from kind.Procedure 0 items
  pub each_operation : operations ≡ count_among kind.Operation items
