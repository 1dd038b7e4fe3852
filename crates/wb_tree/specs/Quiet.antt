-- Which bodies cannot leave: what a script's operations and destructors may do, so that a destruction never leaves.
use Rattle.std.specs.Prelude.{ℕ, zero, suc, List, [], ◌∷◌, Bool, true, false, ◌&&◌, Option, Some, None}
use Rattle.std.specs.List.{list_all}
use Rattle.wb_basics.specs.declared.limits.TheConstants.{DEEPEST_BLOCK}
use Rattle.wb_tree.specs.declared.script.Script.{Script}
use Rattle.wb_tree.specs.declared.script.Body.{Body}
use Rattle.wb_tree.specs.declared.script.Local.{Local}
use Rattle.wb_tree.specs.declared.script.Local.TheVariants.{OfPointer, OfNumber}
use Rattle.wb_tree.specs.declared.script.StatementAt.{StatementAt}
use Rattle.wb_tree.specs.declared.script.Statement.{Statement}
use Rattle.wb_tree.specs.declared.script.Statement.TheOpen.{Statement-F}
use Rattle.wb_tree.specs.declared.script.Statement.TheViews.{out-Statement}
use Rattle.wb_tree.specs.QuietLines as kinds
use Rattle.wb_tree.specs.Spellings.{statement_kind}

-- a pointer or a number
abbrev pub is_quiet_local : Local → Bool
is_quiet_local (OfPointer class) = true
is_quiet_local OfNumber = true
is_quiet_local _ = false

-- the blocks of a statement
abbrev pub blocks_of : {A B : Type 0} → Statement-F A B → List (List B)
blocks_of (Statement-F.If c first) = first ∷ []
blocks_of (Statement-F.IfElse c first other) = first ∷ other ∷ []
blocks_of (Statement-F.Repeat v body) = body ∷ []
blocks_of (Statement-F.Trap x body) = body ∷ []
blocks_of _ = []

-- a statement that cannot leave: the line that spells it can't, nor what its blocks are, of which `inside` says it
abbrev pub is_quiet_statement : (List StatementAt → Bool) → Statement-F Statement StatementAt → Bool
is_quiet_statement inside s = kinds.is_quiet (statement_kind s) && list_all inside (blocks_of s)

-- statements with fewer blocks inside one another than this
abbrev pub are_quiet : ℕ → List StatementAt → Bool
are_quiet zero statements = false
are_quiet (suc depth) statements = list_all (λ s. is_quiet_statement (are_quiet depth) (out-Statement s.statement)) statements

abbrev pub is_quiet_body : Body → Bool
is_quiet_body body = list_all is_quiet_local body.locals && are_quiet (suc DEEPEST_BLOCK) body.statements

-- a body that a class may do without
abbrev pub is_quiet_if_there : Option Body → Bool
is_quiet_if_there (Some body) = is_quiet_body body
is_quiet_if_there None = true

-- no operation and no destructor of a script can leave
abbrev pub is_quiet : Script → Bool
is_quiet script = list_all (λ c. is_quiet_if_there c.destroy) script.classes && list_all (λ o. is_quiet_body o.body) script.operations
