-- What is left of a run, as a machine holds it between two turns.
use Rattle.std.specs.Prelude.{◌≡◌, ℕ, ℤ, ◌≤◌, Bool, true, false, List, [], ◌∷◌, Option, Some, None}
use Rattle.wb_heap_model.specs.declared.heap.Ptr.{Ptr}
use Rattle.wb_heap_model.specs.declared.heap.Rule.{Rule}
use Rattle.wb_heap_model.specs.declared.heap.Shape.{Shape}
use Rattle.wb_tree.specs.declared.script.Script.{Script}
use Rattle.wb_heap_model.specs.Placement.{Placement}
use Rattle.wb_heap_model.specs.Space.{space_of}
use Rattle.wb_meaning.specs.State.{State, Frame, number, pointer, Way, leaves, Stop, Process, ends, stops, and_then, on_plain_end, set_local}
use Rattle.wb_meaning.specs.Statements.{Todo, all, Context, done, plain, release, trapped}
use Rattle.wb_meaning.specs.Meaning.{piece, meaning_of}
use Rattle.wb_meaning.specs.Account.{Account, settled}
use Rattle.wb_meaning.specs.Run.{main_trapped, process, WholeRun, whole_of}

-- what follows a frame
pub data Afterwards : Type 0 where
  nothing_more : Afterwards
  -- a local gets the result
  gives_to : ℕ → Afterwards
  -- the object is released
  releases : Ptr → Afterwards

-- one pending piece
pub data Pending : Type 0 where
  doing : Context → Todo → Pending
  -- a TRAP's local, and the number of items at its entry
  catching : Context → ℕ → ℕ → Pending
  -- the code that a TRAP's local gets once the items are destroyed
  caught : ℕ → ℤ → Pending
  -- the caller's frame
  calling : Frame → Afterwards → Pending
  -- `main`'s own TRAP
  main_catching : Context → Pending
  -- the code with which `main` was left, once the items are destroyed
  main_caught : ℤ → Pending

abbrev pub after_frame : Afterwards → Ptr → State → Process
after_frame nothing_more p st = done st
after_frame (gives_to x) p st = done (set_local st x (pointer p))
after_frame (releases object) p st = release object st

-- what a pending piece makes of how the one above it ended
unfoldable pub resumed : Script → ℕ → Pending → Way → State → Process
resumed script budget (doing at p) way st = on_plain_end way st (meaning_of script budget at p)
resumed script budget (catching at x entry) way st = trapped (meaning_of script budget) at x entry way st
resumed script budget (caught x code) way st = on_plain_end way st (λ st. done (set_local st x (number code)))
resumed script budget (calling frame after) way st = plain (after_frame after) way (record st { frame = frame })
resumed script budget (main_catching at) way st = main_trapped (meaning_of script budget) at way st
resumed script budget (main_caught code) way st = on_plain_end way st (λ st. ends (leaves code) st)

-- the pieces in order, the innermost first
unfoldable pub resume : Script → ℕ → List Pending → Way → State → Process
resume script budget [] way st = ends way st
resume script budget (p ∷ ps) way st = and_then (resumed script budget p way st) (resume script budget ps)

-- how far a run has come: attempt 1 isn't made yet, in a heap with this choice of places; pieces are pending, of which none may be left,
-- and how the one above them ended; or something stopped the run
pub data Progress : Type 0 where
  not_begun : Placement → Progress
  going : List Pending → Way → State → Progress
  has_stopped : Stop → State → Progress

-- what is left to do
unfoldable pub left_to_do : Script → ℕ → Progress → Process
left_to_do script budget (not_begun placement) = process script budget placement
left_to_do script budget (going ps way st) = resume script budget ps way st
left_to_do script budget (has_stopped stop st) = stops stop st

-- what is left to do gives this under a rule, after what the account has so far
unfoldable pub rest : Script → ℕ → Shape → Rule → Progress → Account → WholeRun
rest script budget shape rule progress a = whole_of (settled rule (space_of rule shape) (left_to_do script budget progress) a)

abbrev pub has_ended : Progress → Bool
has_ended (not_begun placement) = false
has_ended (going [] way st) = true
has_ended (going (p ∷ ps) way st) = false
has_ended (has_stopped stop st) = true

-- the line of the statement that pieces begin with, where they begin with one
abbrev pub line_of : Pending → Option ℕ
line_of (doing at (all (s ∷ rest))) = Some s.line
line_of _ = None

abbrev pub first_line : List Pending → Option ℕ
first_line [] = None
first_line (p ∷ ps) = line_of p

-- the line of the statement that is to begin next, where one is
abbrev pub next_line : Progress → Option ℕ
next_line (not_begun placement) = None
next_line (going ps way st) = first_line ps
next_line (has_stopped stop st) = None

-- the meaning is a solution of its own equation, wherever the budget isn't passed
abbrev pub Unfolds : Script → ℕ → Type 0
Unfolds script budget =
    (at : Context) (p : Todo) (st : State) → st.steps ≤ budget → meaning_of script budget at p st ≡ piece script budget (meaning_of script budget) at p st
