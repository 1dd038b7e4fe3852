-- Tiny scripts by placings, each by computing: what a placing decides, and what wrong readings of the definition would answer.
use Rattle.std.specs.Prelude.{◌≡◌, refl, ℕ, pos, negsuc, List, [], ◌∷◌, true, false, Some, None}
use Rattle.std.proofs.Common.{arith}
use Rattle.wb_heap_model.specs.declared.heap.Answer.TheVariants.{Granted, Simulated}
use Rattle.wb_heap_model.specs.declared.heap.Attempt.{Attempt}
use Rattle.wb_heap_model.specs.declared.heap.Panic.TheVariants as P
use Rattle.wb_meaning.specs.declared.run.Outcome.TheVariants.{Ended, Panicked}
use Rattle.wb_meaning.specs.declared.run.RunResult.{RunResult}
use Rattle.wb_tree.specs.declared.script.Holder.TheVariants as H
use Rattle.wb_tree.specs.declared.script.Local.TheVariants.{OfPointer}
use Rattle.wb_tree.specs.declared.script.Number.TheVariants.{Constant}
use Rattle.wb_tree.specs.declared.script.Pointer.{Pointer}
use Rattle.wb_tree.specs.declared.script.Pointer.TheVariants.{Held}
use Rattle.wb_tree.specs.declared.script.Refusal.TheVariants.{GivesNull, Leaves}
use Rattle.wb_tree.specs.declared.script.Script.{Script}
use Rattle.wb_tree.specs.declared.script.StatementAt.{StatementAt}
use Rattle.wb_tree.specs.declared.script.Statement.TheOpen.{Statement-F}
use Rattle.wb_heap_model.specs.Placement.{Placement, Spot, by_placing}
use Rattle.wb_renaming.specs.SameButNumbers.{AllBeside, one_beside}
use Rattle.wb_runs.specs.Sets.{set_run}
use Rattle.wb_runs.specs.Sweeps.{is_fine}
use Rattle.wb_worked.specs.Shorthands.{everything, on, script, procedure, body, result, shaped, shaped_moving, line}
use Rattle.wb_placings.specs.PlacedRuns.{placed_run, IsSameAttempt, IsSameButPlaces}
use Rattle.wb_placings.proofs.PlacedResults.{same-but-places}

abbrev name : Pointer
name = Held (H.Local 0)

abbrev grown : Pointer
grown = Held (H.Local 1)

-- `main` with two pointers
abbrev main_of : List StatementAt → Script
main_of statements = script [] (procedure 1 [] (body (OfPointer None ∷ OfPointer None ∷ []) statements) ∷ []) [] [] 0

-- a text is on the cleanup stack while it grows
abbrev then : List StatementAt → Script
then rest =
    main_of (on 4 (Statement-F.NewText name (Constant (pos 10)) Leaves) ∷ on 5 (Statement-F.Push name)
    ∷ on 6 (Statement-F.ReallocText grown name (Constant (pos 40))) ∷ on 7 (Statement-F.LeaveIfNull grown) ∷ rest)

-- it stays there
abbrev pushed_text_grows : Script
pushed_text_grows = then (on 8 (Statement-F.Set name grown) ∷ on 9 (Statement-F.PopDestroy (Constant (pos 1))) ∷ [])

-- it is taken off, and pushed again as what it became
abbrev mended : Script
mended =
    then (on 8 (Statement-F.Pop (Constant (pos 1))) ∷ on 9 (Statement-F.Set name grown) ∷ on 10 (Statement-F.Push name)
    ∷ on 11 (Statement-F.PopDestroy (Constant (pos 1))) ∷ [])

abbrev at : ℕ → Spot
at place = record { place = place; stays = false }

abbrev staying : Spot
staying = record { place = 0; stays = true }

abbrev run_by : Script → List ℕ → List Spot → RunResult
run_by script numbers spots = placed_run script 10000 numbers (by_placing spots)

-- ---- where the cell moves the first panics, and where it stays it is fine: so it isn't fine where cells move

moved_panics : set_run pushed_text_grows 10000 (shaped_moving 4096 4096) [] ≡
    result (Panicked (P.User 42)) (line 1 144 0 Granted ∷ line 2 48 144 Granted ∷ line 3 112 192 Granted ∷ []) [] [] 7
unfolding everything
moved_panics = refl

stayed_is_fine : run_by pushed_text_grows [] (at 0 ∷ at 144 ∷ staying ∷ []) ≡
    result (Ended None []) (line 1 144 0 Granted ∷ line 2 48 144 Granted ∷ line 3 112 144 Granted ∷ []) [] [] 7
unfolding everything
stayed_is_fine = refl

-- so the law needs that the run is fine where cells move
fine_is_needed : IsSameButPlaces (set_run pushed_text_grows 10000 (shaped_moving 4096 4096) []) (run_by pushed_text_grows [] (at 0 ∷ at 144 ∷ staying ∷ [])) → ⊥
unfolding everything
fine_is_needed same = let outcome : Ended None [] ≡ Panicked (P.User 42) = same.outcome in cc

-- and that cells move there: where they stay if they can, it is fine, and by a placing that moves one it panics
moving_is_needed : (is_fine (set_run pushed_text_grows 10000 (shaped 4096 4096) []) ≡ true)
    × ((run_by pushed_text_grows [] (at 0 ∷ at 144 ∷ at 1024 ∷ [])).outcome ≡ Panicked (P.User 42))
unfolding everything
moving_is_needed = (refl, refl)

-- ---- the mended one is fine in the moving heap, and by each placing the same but for places

mended_moves : set_run mended 10000 (shaped_moving 4096 4096) [] ≡
    result (Ended None []) (line 1 144 0 Granted ∷ line 2 48 144 Granted ∷ line 3 112 192 Granted ∷ []) [] [] 9
unfolding everything
mended_moves = refl

mended_stays : run_by mended [] (at 0 ∷ at 144 ∷ staying ∷ []) ≡
    result (Ended None []) (line 1 144 0 Granted ∷ line 2 48 144 Granted ∷ line 3 112 144 Granted ∷ []) [] [] 9
unfolding everything
mended_stays = refl

mended_goes_down : run_by mended [] (at 4096 ∷ at 1024 ∷ at 0 ∷ []) ≡
    result (Ended None []) (line 1 144 4096 Granted ∷ line 2 48 1024 Granted ∷ line 3 112 0 Granted ∷ []) [] [] 9
unfolding everything
mended_goes_down = refl

-- the law says it of every placing
mended_anywhere : (placement : Placement) → IsSameButPlaces (set_run mended 10000 (shaped_moving 4096 4096) []) (placed_run mended 10000 [] placement)
unfolding everything
mended_anywhere placement = same-but-places mended 10000 (shaped_moving 4096 4096) [] placement refl refl

-- where an attempt of a set fails, nothing moves
mended_refused : run_by mended (3 ∷ []) (at 0 ∷ at 144 ∷ staying ∷ []) ≡
    result (Ended (Some (negsuc 3)) []) (line 1 144 0 Granted ∷ line 2 48 144 Granted ∷ line 3 112 144 Simulated ∷ []) [] [] 5
unfolding everything
mended_refused = refl

-- a placing that isn't valid, since all cells begin at one place
mended_in_one_place : (run_by mended [] (at 0 ∷ at 0 ∷ at 0 ∷ [])).outcome ≡ Ended None []
unfolding everything
mended_in_one_place = refl

-- nor is one that says nothing of these attempts
mended_unsaid : (run_by mended [] []).outcome ≡ Ended None []
unfolding everything
mended_unsaid = refl

-- ---- wrong readings

-- That a cell stays where its new place is its old one: a growth that isn't said to stay gets a number of its own there too.
moved_to_its_place : (run_by pushed_text_grows [] (at 0 ∷ at 144 ∷ at 144 ∷ [])).outcome ≡ Panicked (P.User 42)
unfolding everything
moved_to_its_place = refl

-- That the ceiling cuts such a run: a placing may put cells past it.
past_the_ceiling : (run_by mended [] (at 0 ∷ at 33554432 ∷ at 0 ∷ [])).outcome ≡ Ended None []
unfolding everything
past_the_ceiling = refl

-- That a spot is for the next grant: it is for the attempt, and what is refused passes it by.
abbrev two_cells : Script
two_cells =
    main_of (on 4 (Statement-F.Alloc name (Constant (pos 16)) GivesNull) ∷ on 5 (Statement-F.Alloc grown (Constant (pos 16)) GivesNull)
    ∷ on 6 (Statement-F.Free name) ∷ on 7 (Statement-F.Free grown) ∷ [])

refused_spot : (run_by two_cells (2 ∷ []) (at 0 ∷ at 512 ∷ at 1024 ∷ [])).trace ≡ line 1 144 0 Granted ∷ line 2 32 512 Simulated ∷ line 3 32 1024 Granted ∷ []
unfolding everything
refused_spot = refl

-- That a pointer names a cell by its place alone: the cell that was freed is gone, although another lies in its place.
abbrev freed_twice : Script
freed_twice =
    main_of (on 4 (Statement-F.Alloc name (Constant (pos 16)) GivesNull) ∷ on 5 (Statement-F.Free name) ∷ on 6 (Statement-F.Alloc grown (Constant (pos 16)) GivesNull)
    ∷ on 7 (Statement-F.Free name) ∷ on 8 (Statement-F.Free grown) ∷ [])

freed_twice_panics : (run_by freed_twice [] (at 0 ∷ at 512 ∷ at 512 ∷ [])).outcome ≡ Panicked (P.User 42)
unfolding everything
freed_twice_panics = refl

-- That cell lengths may differ too: they may not, since `alloclen` tells of them.
first_of : {x y : Attempt} {xs ys : List Attempt} → AllBeside IsSameAttempt (x ∷ xs) (y ∷ ys) → IsSameAttempt x y
first_of (one_beside r rest) = r

lengths_count : IsSameButPlaces (result (Ended None []) (line 1 144 0 Granted ∷ []) [] [] 0) (result (Ended None []) (line 1 160 0 Granted ∷ []) [] [] 0) → ⊥
lengths_count same = let long : ◌≡◌ {A = ℕ} 160 144 = (first_of same.trace).length in absurd (omega arith)
