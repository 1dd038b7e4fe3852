-- What holds of no words, and of words and bits that were appended.
use Rattle.std.proofs.Common.{◌≡◌, ℕ, ◌+◌, ◌*◌, ◌%◌, ◌≤◌, List, [], ◌++◌, length, Bool, false, replicate, refl, sym, ◌∙◌, ap, subst, arith, append_assoc, length-append}
use Rattle.std.proofs.lemmas.List.{append-nil, length-replicate, replicate-append-replicate}
use Rattle.wb_chunk.specs.declared.TheConstants.{MOST_WORDS}
use Rattle.wb_heap_model.specs.Spelling.{spelled}
use Rattle.wb_cells.specs.FreeList.{NO_PLACE}
use Rattle.wb_cells.specs.Segments.{words_of}
use Rattle.wb_cells.specs.Inside.{IsLaid}
use Rattle.wb_cells.proofs.Laying.{spelled_is, spelled-laid}

pub laid_empty : IsLaid [] [] 0 NO_PLACE
laid_empty = record {
  segments = [];
  spare = [];
  unset = 0;
  spelled = refl;
  marked = refl;
  ends = refl;
  linked = refl;
  whole = tt;
  merged = tt;
  numbered = λ i j d lt end. absurd (omega arith);
  covered = omega arith;
  rounded = refl;
  bounded = omega arith;
}

module _ (words : List ℕ) (starts : List Bool) (top first : ℕ) (laid : IsLaid words starts top first) (more : List ℕ) (bits : ℕ) where
  pub laid_grown : length words + length more ≤ 4 * (length starts + bits) → (length words + length more) % 4 ≡ 0 → length words + length more ≤ MOST_WORDS →
      IsLaid (words ++ more) (starts ++ replicate bits false) top first
  laid_grown covered rounded bounded = record {
    segments = laid.segments;
    spare = laid.spare ++ more;
    unset = laid.unset + bits;
    spelled = ap (λ ws. ws ++ more) laid.spelled ∙ append_assoc (words_of 0 laid.segments NO_PLACE) laid.spare more;
    marked = ap (λ bs. bs ++ replicate bits false) laid.marked ∙ append_assoc _ (replicate laid.unset false) (replicate bits false)
        ∙ rw (replicate-append-replicate laid.unset bits false);
    ends = laid.ends;
    linked = laid.linked;
    whole = laid.whole;
    merged = laid.merged;
    numbered = laid.numbered;
    covered = rw (length-append, length-append, length-replicate) covered;
    rounded = rw length-append rounded;
    bounded = rw length-append bounded;
  }

  pub spelled-grown : spelled (words ++ more) top ≡ spelled words top
  spelled-grown =
      spelled_is (words ++ more) (laid.spare ++ more) laid.segments top
      (ap (λ ws. ws ++ more) laid.spelled ∙ append_assoc (words_of 0 laid.segments NO_PLACE) laid.spare more) laid.ends laid.whole
      ∙ sym (spelled-laid words starts top first laid)

pub laid_marked : (words : List ℕ) (starts : List Bool) (top first bits : ℕ) → IsLaid words starts top first → IsLaid words (starts ++ replicate bits false) top first
laid_marked words starts top first bits laid =
    let grown = laid_grown words starts top first laid [] bits (omega (arith, laid.covered)) (omega (arith, laid.rounded)) (omega (arith, laid.bounded)) in
    subst (λ ws. IsLaid ws (starts ++ replicate bits false) top first) (append-nil words) grown
