-- Outcomes that are the same except for the allocation numbers of leaks end alike in words, and are judged alike.
use Rattle.std.proofs.Common.{◌≡◌, suc, Bool, not, ◌&&◌, refl, ap, Some, None}
use Rattle.wb_meaning.specs.declared.run.Outcome.{Outcome}
use Rattle.wb_meaning.specs.declared.run.RunResult.{RunResult}
use Rattle.wb_runs.specs.declared.run_end.RunEnd.TheVariants.{Leaked}
use Rattle.wb_renaming.specs.Follows.{IsSameOutcome, same_end, same_panic, same_no_cleanup, same_cut}
use Rattle.wb_meaning.specs.Run.{is_bad, is_bad_outcome}
use Rattle.wb_runs.specs.RunEnds.{end_of}
use Rattle.wb_renaming.specs.SameButNumbers.{none_beside, one_beside}
use Rattle.wb_runs.specs.Sweeps.{is_cut_outcome, is_fine}
use Rattle.wb_renaming.proofs.SameNumbers.{ap_two, length-beside}

-- outcomes that are the same but for numbers end alike, in words
pub end-same : {one other : Outcome} → IsSameOutcome one other → end_of other ≡ end_of one
end-same (same_end None none_beside) = refl
end-same (same_end (Some code) none_beside) = refl
end-same (same_end left (one_beside leak leaks)) = ap (λ n. Leaked (suc n)) (length-beside leaks)
end-same (same_panic panic) = refl
end-same same_no_cleanup = refl
end-same (same_cut why) = refl

-- and are judged alike
bad-same : {one other : Outcome} → IsSameOutcome one other → is_bad_outcome other ≡ is_bad_outcome one
bad-same (same_end left none_beside) = refl
bad-same (same_end left (one_beside leak leaks)) = refl
bad-same (same_panic panic) = refl
bad-same same_no_cleanup = refl
bad-same (same_cut why) = refl

cut-same : {one other : Outcome} → IsSameOutcome one other → is_cut_outcome other ≡ is_cut_outcome one
cut-same (same_end left leaks) = refl
cut-same (same_panic panic) = refl
cut-same same_no_cleanup = refl
cut-same (same_cut why) = refl

pub judged-same : (x y : RunResult) → IsSameOutcome x.outcome y.outcome → (is_bad y ≡ is_bad x) × (is_fine y ≡ is_fine x)
judged-same x y same =
    let bad = bad-same same in (bad, ap_two (λ (b c : Bool). not b && not c) bad (cut-same same))
