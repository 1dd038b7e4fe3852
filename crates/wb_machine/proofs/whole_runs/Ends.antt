-- What is left of a run that is over, and of one that has not begun.
use Rattle.std.proofs.Common.{◌≡◌, ℕ, true, false, List, [], ◌∷◌, map, refl, ap, sym}
use Rattle.wb_heap_model.specs.declared.heap.Rule.{Rule}
use Rattle.wb_tree.specs.declared.script.Script.{Script}
use Rattle.wb_heap_model.specs.declared.reported.Leak.{Leak}
use Rattle.wb_heap_model.specs.Heap.{cells_of_all_levels}
use Rattle.wb_heap_model.specs.Reported.{leak_of}
use Rattle.wb_meaning.specs.Rest.{resume, left_to_do, rest}
use Rattle.wb_machine.specs.declared.pieces.Ending.{Ending}
use Rattle.wb_machine.specs.declared.pieces.Ending.TheVariants.{GoesOn, Returns, Leaves, Panics, Cut, NoCleanup}
use Rattle.wb_machine.specs.declared.pieces.PendingPiece.{PendingPiece}
use Rattle.wb_machine.specs.RunState.{RunState}
use Rattle.wb_machine.specs.Flow.{is_stop, is_over, rest_from}
use Rattle.wb_machine.specs.Results.{leaks_at_end, run_result_by, whole_by}
use Rattle.wb_machine.proofs.kept.Rows.{headers_read}

-- only a run that ended by itself tells leaks
pub run_results_alike : (ending : Ending) (leaks : List Leak) (h : RunState) → (is_stop ending ≡ false → leaks ≡ leaks_at_end h) → run_result_by ending leaks h ≡ run_result_by ending (leaks_at_end h) h
run_results_alike GoesOn leaks h is = ap (λ run_result. run_result_by GoesOn run_result h) (is refl)
run_results_alike (Returns p) leaks h is = ap (λ run_result. run_result_by (Returns p) run_result h) (is refl)
run_results_alike (Leaves code) leaks h is = ap (λ run_result. run_result_by (Leaves code) run_result h) (is refl)
run_results_alike (Panics p) leaks h is = refl
run_results_alike (Cut why) leaks h is = refl
run_results_alike NoCleanup leaks h is = refl

-- what a run tells that is over is what is left of it
pub rest_over : (script : Script) (budget : ℕ) (r : Rule) (ending : Ending) (pieces : List PendingPiece) (h : RunState) → is_over ending pieces ≡ true →
    whole_by ending (leaks_at_end h) h ≡ rest_from script budget r ending pieces h
unfolding rest left_to_do resume
rest_over script budget r GoesOn [] h e =
    ap (λ hs. whole_by GoesOn (map leak_of (cells_of_all_levels hs)) h) (sym (headers_read script h.debug.heap.row))
rest_over script budget r GoesOn (p ∷ ps) h e = cc
rest_over script budget r (Returns q) [] h e =
    ap (λ hs. whole_by (Returns q) (map leak_of (cells_of_all_levels hs)) h) (sym (headers_read script h.debug.heap.row))
rest_over script budget r (Returns q) (p ∷ ps) h e = cc
rest_over script budget r (Leaves code) [] h e =
    ap (λ hs. whole_by (Leaves code) (map leak_of (cells_of_all_levels hs)) h) (sym (headers_read script h.debug.heap.row))
rest_over script budget r (Leaves code) (p ∷ ps) h e = cc
rest_over script budget r (Panics p) pieces h e = refl
rest_over script budget r (Cut why) pieces h e = refl
rest_over script budget r NoCleanup pieces h e = refl
