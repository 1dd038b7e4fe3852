-- The units of texts in words, and of sources.
use Rattle.std.proofs.Common.{◌≡◌, ◌≢◌, ℕ, ◌+◌, ◌/◌, ◌%◌, ◌^◌, ◌<◌, List, drop, slice_index, cond, sym, ap, ◌∙◌, arith, get_or}
use Rattle.std.specs.Prelude.{nat_eq}
use Rattle.std.proofs.lemmas.Bool.{eq-eqb, ne_eqb}
use Rattle.std.proofs.lemmas.List.{get_or-take, get_or-drop}
use Rattle.wb_heap_model.specs.declared.heap.Ptr.{Ptr}
use Rattle.wb_heap_model.specs.Debug.{Debug, debug_changed}
use Rattle.wb_heap_model.specs.TextCells.{units_after, text_in}
use Rattle.wb_heap_model.proofs.TextCellsHeap.{text-other}
use Rattle.wb_hbuf.specs.declared.sources.Source.{Source}
use Rattle.wb_hbuf.specs.declared.sources.Source.TheVariants.{Literal, Buffer, Cell, Own}
use Rattle.wb_hbuf.specs.Sources.{IsSource, IsReadable, IsApart, base_units, count_of, from_of, source_units}
use Rattle.wb_hbuf.proofs.Units.{half-is, get_or-part}

module _ (ws : List ℕ) (at w : ℕ) (within : at < slice_index ws 0) (is : w ≡ slice_index ws (at / 2 + 1)) where
  -- the half of a word
  abbrev side : ℕ
  side = cond (nat_eq (at % 2) 0) (w % 2 ^ 16) (w / 2 ^ 16)

  following : w ≡ slice_index (drop 1 ws) (at / 2)
  following = let e : at / 2 + 1 ≡ 1 + at / 2 = omega arith in is ∙ ap (λ k. slice_index ws k) e ∙ sym (get_or-drop 1 ws (at / 2) 0)

  side-is : side ≡ slice_index (text_in ws) at
  side-is =
      ap (λ v. cond (nat_eq (at % 2) 0) (v % 2 ^ 16) (v / 2 ^ 16)) following
      ∙ half-is (drop 1 ws) at ∙ sym (get_or-take (slice_index ws 0) (units_after ws) at 0 within)

  pub low-unit : at % 2 ≡ 0 → w % 2 ^ 16 ≡ slice_index (text_in ws) at
  low-unit e = sym (ap (λ b. cond b (w % 2 ^ 16) (w / 2 ^ 16)) (eq-eqb (at % 2) 0 e)) ∙ side-is

  pub high-unit : at % 2 ≢ 0 → w / 2 ^ 16 ≡ slice_index (text_in ws) at
  high-unit e = sym (ap (λ b. cond b (w % 2 ^ 16) (w / 2 ^ 16)) (ne_eqb (at % 2) 0 e)) ∙ side-is

-- a unit of a source is one of the text that it is a part of
pub source-unit : (d : Debug) (own : List ℕ) (s : Source) (i : ℕ) → i < count_of s →
    get_or (source_units d own s) i 0 ≡ get_or (base_units d own s) (from_of s + i) 0
source-unit d own s i lt = get_or-part (base_units d own s) (from_of s) (count_of s) i lt

-- a source other than the cell that is written can still be read
readable-stays : (p : Ptr) (words : List ℕ) (d e : Debug) (s : Source) → e ≡ debug_changed d p words → IsApart p s → IsReadable d s → IsReadable e s
readable-stays p words d e (Literal chars from count) made apart is = tt
readable-stays p words d e (Buffer buf from count) made apart is = tt
readable-stays p words d e (Cell q from count) made apart is = text-other p q words d e apart made is
readable-stays p words d e (Own from count) made apart is = tt

pub source-stays : (p : Ptr) (words : List ℕ) (d e : Debug) (s : Source) → e ≡ debug_changed d p words → IsApart p s → IsSource d s → IsSource e s
source-stays p words d e s made apart is = record { readable = readable-stays p words d e s made apart is.readable; ends = is.ends }
