-- The first line of a script of which something is so. What is said of a line is said by all lines of the script and by those
-- before it.
use Rattle.std.specs.Prelude.{◌≡◌, ℕ, suc, List, ◌∷◌, ◌++◌, length}
use Rattle.wb_tree.specs.declared.script_lines.Form.{Form}
use Rattle.wb_language.specs.Names.{Text}

-- what is said of a line, by all lines, those before it, and itself
abbrev pub Said : Type 1
Said = List (Form Text) → List (Form Text) → Form Text → Type 0

-- it is so of none of these lines, which are the first of the script
abbrev pub IsOfNone : Said → List (Form Text) → List (Form Text) → Type 0
IsOfNone said forms lines = (before after : List (Form Text)) (form : Form Text) → lines ≡ before ++ form ∷ after → said forms before form → ⊥

-- it is so of the line with this number, from 1, and of none before it
abbrev pub IsFirstLine : Said → List (Form Text) → ℕ → Type 0
IsFirstLine said forms n = (before after : List (Form Text)) × (form : Form Text) × (forms ≡ before ++ form ∷ after) × (n ≡ suc (length before)) × said forms before form × IsOfNone said forms before

-- it is so of no line of the script
abbrev pub IsOfNoLine : Said → List (Form Text) → Type 0
IsOfNoLine said forms = IsOfNone said forms forms
