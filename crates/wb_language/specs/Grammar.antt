-- The grammar of lines, each by its role.
use Rattle.std.specs.Prelude.{◌≡◌, ℕ, ◌+◌, ◌<◌, ◌≤◌, List, [], ◌∷◌, ◌++◌, length, take, replicate}
use Rattle.std.specs.List.{flat_map}
use Rattle.wb_tree.specs.declared.script_lines.Role.{Role}
use Rattle.wb_tree.specs.declared.script_lines.Role.TheVariants.{Skip, Class, Field, Construct, Destroy, Procedure, Declaration, Plain, Loop, If, Else, End}

-- statements, one after another
pub data AreStatements : List Role → Type 0 where
  none : AreStatements []
  plain : {rest : List Role} → AreStatements rest → AreStatements (Plain ∷ rest)
  loop : {body rest : List Role} → AreStatements body → AreStatements rest → AreStatements (Loop ∷ (body ++ (End ∷ rest)))
  one_way : {yes rest : List Role} → AreStatements yes → AreStatements rest → AreStatements (If ∷ (yes ++ (End ∷ rest)))
  two_ways : {yes no rest : List Role} → AreStatements yes → AreStatements no → AreStatements rest → AreStatements (If ∷ (yes ++ (Else ∷ (no ++ (End ∷ rest)))))

-- a body: declarations, then statements
pub data IsBody : List Role → Type 0 where
  statements : {body : List Role} → AreStatements body → IsBody body
  declaration : {rest : List Role} → IsBody rest → IsBody (Declaration ∷ rest)

-- the fields of a class
pub data AreFields : List Role → Type 0 where
  none : AreFields []
  field : {rest : List Role} → AreFields rest → AreFields (Field ∷ rest)

-- at most one body under a head
pub data IsOptional (head : Role) : List Role → Type 0 where
  absent : IsOptional head []
  present : {body : List Role} → IsBody body → IsOptional head (head ∷ (body ++ (End ∷ [])))

-- classes, and procedures or operations, in any order
pub data AreItems : List Role → Type 0 where
  none : AreItems []
  class : {fields construct destroy rest : List Role} → AreFields fields → IsOptional Construct construct → IsOptional Destroy destroy → AreItems rest → AreItems (Class ∷ (fields ++ (construct ++ (destroy ++ (End ∷ rest)))))
  procedure : {body rest : List Role} → IsBody body → AreItems rest → AreItems (Procedure ∷ (body ++ (End ∷ rest)))

-- a line that is skipped counts for nothing
abbrev pub content : Role → List Role
content Skip = []
content role = role ∷ []

abbrev pub IsGrammatical : List Role → Type 0
IsGrammatical lines = AreItems (flat_map content lines)

-- the lines are the first lines of a script
abbrev pub Begins : List Role → Type 0
Begins lines = (more : List Role) × IsGrammatical (lines ++ more)

-- some `end`s after them make the lines a script
abbrev pub EndsComplete : List Role → Type 0
EndsComplete lines = (depth : ℕ) × IsGrammatical (lines ++ replicate depth End)

-- the index of the first line such that the lines up to it begin no script,
-- and the number of lines where all of them begin one and are none
pub record IsFirstMisfit (lines : List Role) (n : ℕ) : Type 0 where
  pub before : EndsComplete (take n lines)
  pub within : n ≤ length lines
  pub here : n < length lines → Begins (take (n + 1) lines) → ⊥
  pub unfinished : n ≡ length lines → IsGrammatical lines → ⊥
