-- The definitions of this subject, given on.
pub use Rattle.wb_heap_model.specs.Debug.{Debug, row_of, space_under, first_debug_of, first_debug, with_rises, keeps_rises, number_of_next, Made, made_with_rises, gave_of, made_by, answer_in, alloc_made, longer_made, shorter_made, realloc_made, refusal_unless_found, release_refusal, with_row, debug_without, debug_changed, with_setting, check_refusal, check_all_refusal, leaks_of_heap, note_of_heap, note_of_available, compressed_in, debug_compressed, note_of_compress, IsLiveIn, IsSoundDebug}
pub use Rattle.wb_heap_model.specs.Heap.{Heap, no_cells, AfterAnswer, request_at, attempt_counted, alloc_request, new_cell, after_alloc, realloc_request, moved, after_realloc, shortened, is_cleanup, cells_of_level, cells_of_all_levels, lowest, checked, lower, lowered, after_mark, after_mark_end, mark_end_refusal}
pub use Rattle.wb_heap_model.specs.LimitedHeap.{LimitedHeap, space_in, empty_heap, place_in, zero_words, fresh_cell, committed_with, heap_with, heap_without, place_to_grow, grown_pointer, grown_cell, committed_grown, heap_grown, heap_shortened, heap_reallocated, reallocated_pointer, heap_changed, heap_leveled, compressed_length, heap_compressed, reclaimed_from, runs_in, IsCellLength, next_live_of, IsLiveBelow, IsFilled, IsSoundHeap}
pub use Rattle.wb_heap_model.specs.Placement.{Spot, Placement, first_fit, by_placing, next_spot, placement_of, IsByFirstFit, fits_in_place, realloc_place, place_to_put, place_to_grow_to, has_stayed, after_placing}
pub use Rattle.wb_heap_model.specs.Row.{Cell, headers, end_of, usable_of, is_at, pointer_to, cell_at, without, inserted, changed, IsSpacedFrom, IsRow, Misses, IsFree, place_from, place_of, IsLeastPlace, cell_length, top_from, top_of, total_length}
pub use Rattle.wb_heap_model.specs.Rules.{limit_of, simulates, refusal_past, refusal_of, Setting, never, next, each, is_due, count_down, turn_round, after_attempt, after_attempts, Request, unless_refused, answer_to}
pub use Rattle.wb_heap_model.specs.Space.{is_shape, Space, space_below, bound_below, below_ceiling, limit_under, space_of, round_up, committed_by, compressed_to, free_runs, longest, IsFreeBelow, AreFreeRuns}
