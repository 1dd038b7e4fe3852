-- The definitions of this subject, given on. Those stand in a module of their own some of whose names others here have too.
pub mod SetAnswers
pub use Rattle.wb_meaning.specs.Account.{Account, noted, next_number, recorded, End, over, stopped, Settled, on_answer, settled}
pub use Rattle.wb_heap_model.specs.Reported.{trace_line}
pub use Rattle.wb_heap_model.specs.Space.{committed_after}
pub use Rattle.wb_meaning.specs.Agreement.{RefusesAtLeast, RefusesNoGrant, IsSameButNotes, IsSameRun, PartsAt, Agrees}
pub use Rattle.wb_heap_model.specs.SameRules.{IsNoLimit}
pub use Rattle.wb_runs.specs.AllNumbers.{number_end, unfine_numbers, count_in, unfine_in, bad_count, first_bad, IsLeastBadOf, IsNoBadOf}
pub use Rattle.wb_runs.specs.EverySet.{AreAllSetsFineIn, IsNoSetOfAnySizeIn, IsLeastSetFoundIn, IsLeastSetCutIn, IsEverySetAnswerIn}
pub use Rattle.wb_renaming.specs.Follows.{IsLate, IsPast, IsBeside, Follows, both_end, both_stop, both_ask, both_note, cut_first, steps_of, AreBeside, IsSameLeak, IsSameOutcome, same_end, same_panic, same_no_cleanup, same_cut, Reached, reached, RefusesAlike, ComesToTheSame, RestsAgree}
pub use Rattle.wb_meaning.specs.FreeSlots.{HasFreeSlot, WhereverItGoesOn}
pub use Rattle.wb_runs.specs.Lengths.{run_in, end_in, IsTableFrom, IsLengthTable, IsLeastBadLength, IsNoBadLength, last_from}
pub use Rattle.wb_runs.specs.Pairs.{pair_run, failing_with, ComesBefore, ArePairsFineBefore, ArePairsFineWith, AreAllPairsFine, least_from, pair_or, least_pair_from, least_bad_or_cut_pair, IsLeastBadPair, IsLeastCutPair, IsFoundPair, IsCutPair}
pub use Rattle.wb_runs.specs.Parts.{IsNumberOf, IsTried, comes_before, run_at, last_attempt, IsUncut, AreFineBefore, IsFoundIn, IsLeastCutIn, IsCutWithout, IsCutIn, IsNoneIn, Answer, found, cut, none, IsAnswerIn, first_of, least_of, AreTogether, AreInARow}
pub use Rattle.wb_meaning.specs.Rest.{Afterwards, nothing_more, gives_to, releases, Pending, doing, catching, caught, calling, main_catching, main_caught, after_frame, resumed, resume, Progress, not_begun, going, has_stopped, left_to_do, rest, has_ended, line_of, first_line, next_line, Unfolds}
pub use Rattle.wb_heap_model.specs.SameRules.{SameSoFar, Fits}
pub use Rattle.wb_heap_model.specs.RiseLines.{EndsAbove}
pub use Rattle.wb_heap_model.specs.Rises.{rise_of, top_from, top_of_rises, with_line, rises_with, trace_with, first_rises}
pub use Rattle.wb_meaning.specs.Run.{start, main_trapped, in_main, started, process, leaks_in, left_by, outcome_of, result_of, before_of, before, run, WholeRun, whole_of, whole_run, run_with_rises, rises_result_of, is_bad_outcome, is_bad, required, rises, first_rise_above, refused_at}
pub use Rattle.wb_heap_model.specs.Reported.{leak_of}
pub use Rattle.wb_runs.specs.RunEnds.{end_of, is_bad_end, is_cut_end}
pub use Rattle.wb_renaming.specs.SameButNumbers.{Names, Renames, Renaming, IsRenaming, one_more, up_to, AreAddedSince, since_fork, turned_names, turned, AllBeside, none_beside, one_beside, IsSamePointer, IsSameHeader, IsSameContent, same_words, same_fields, same_units, same_none, IsSameCell, IsSameHeap, IsSameItem, same_free, same_delete, same_call, IsSameBase, same_nothing, same_literal, same_local, same_cell, IsSameView, IsSameValue, same_pointer, same_number, same_buffer, same_view, IsSameFrame, IsSameState, HoldsMadeNumbers, IsSameWay, same_plain, same_return, same_leave, IsSameTodo, same_statements, same_turns, same_items, same_object, IsSameAfterwards, same_nothing_more, same_gives_to, same_releases, IsSamePending, same_doing, same_catching, same_caught, same_calling, same_main_catching, same_main_caught, IsSameProgress, same_not_begun, same_going, same_stopped}
pub use Rattle.wb_runs.specs.SetParts.{least_number, IsSetOf, AreSetsFineIn, AreSetsFineInBefore, IsSetFoundIn, IsLeastCutSetIn, IsCutWithoutSet, IsSetCutIn, IsNoSetIn}
pub use Rattle.wb_runs.specs.Sets.{set_run, AscendsPast, IsSet, has_lesser_number, set_comes_before, AreSetsFine, AreAllSetsFine, AreSetsFineBefore, IsLeastBadSet, IsLeastCutSet, AreMadeAfter, AreMade, is_granted, simulated_too, with_number_if_refused, refused_numbers, as_simulated, IsSameButRefusals}
pub use Rattle.wb_runs.specs.Sizes.{refused_or_later, first_refusal, NoneIsRefused, IsFirstRefused, IsEndOfGrant, IsGreatestEnd, IsTable, refused_first, IsHeapLength}
pub use Rattle.wb_runs.specs.SweepAnswers.{IsFound, IsCutShort, IsNoneFound}
pub use Rattle.wb_runs.specs.Sweeps.{is_cut_outcome, is_fine, AreFineBelow, AreAllFine, IsLeastUnfine, or_else, least_unfine, failing_at, rule_for, set_of, failing_set, IsNamedAsSet, runs_under, rule_of, runs_of, least_bad_or_cut, IsLeastBad, IsLeastCut, IsFoundAmong, IsCutAmong}
pub use Rattle.wb_meaning.specs.Throughout.{IsNoteOf, Throughout, SuitsKind, HoldsItsKind, AreCellsAfter, AreLeaksAfter}
pub use Rattle.wb_meaning.specs.Traces.{refusal_by, answer_by, asked_before, asked_for, TellsSettings, IsLine, AreAnsweredLines}
pub use Rattle.wb_heap_model.specs.Reported.{end_of_attempt}
