-- A chunk's fields after a write to a range of its words.
use Rattle.std.proofs.Common.{◌≡◌, ℕ, ◌+◌, ◌*◌, ◌/◌, ◌<◌, ◌≤◌, ◌⊎◌, inl, inr, ◌++◌, List, Bool, false, Option, Some, length, take, drop, sym, ap, subst, ◌∙◌, arith, get_or}
use Rattle.std.proofs.Math.Seq.{take-append_seam}
use Rattle.std.proofs.lemmas.List.{length-append, length-replicate}
use Rattle.std.specs.declared.alloc.Global.{Global}
use Rattle.wb_chunk.specs.Fields.{HasRoom, IsKept, words_of}
use Rattle.wb_chunk.specs.Lending.{with_words}
use Rattle.wb_chunk.specs.Halves.{with_halves}
use Rattle.wb_chunk.specs.Marks.{AreMarked, MarksToo}
use Rattle.wb_chunk.specs.declared.TheConstants.{MOST_WORDS}
use Rattle.wb_chunk.specs.declared.marks.TheConstants.{BLOCK}
use Rattle.wb_chunk.specs.declared.region.Region.{Region}
use Rattle.wb_chunk.proofs.MarkedWords.{halves-elsewhere, marked-range, marked_longer}
use Rattle.wb_chunk.proofs.WrittenHalves.{length-with_halves, zeros}

pub kept-written : (r : Region Global) (new : List ℕ) (count capacity first end : ℕ) (marks more : List Bool) (alloc : Global) → IsKept (Some r) count capacity marks alloc →
    length more ≡ length marks → length new ≡ length r.words → MarksToo marks more first end → ((k : ℕ) → (k < first) ⊎ (end ≤ k) → get_or new k 0 ≡ get_or r.words k 0) →
    IsKept (Some (with_words r new)) count capacity more alloc
kept-written r new count capacity first end marks more alloc kept same long too others = record {
  counted = kept.counted ∙ sym long;
  room = kept.room;
  within = kept.within;
  bounded = kept.bounded;
  covered = omega (arith, kept.covered, same);
  marked = marked-range r.words new marks more first end kept.marked too others;
}

-- halves were written, and their blocks marked
pub kept-halves : (r : Region Global) (new : List ℕ) (count capacity i end len : ℕ) (hs : List ℕ) (marks more : List Bool) (alloc : Global) → IsKept (Some r) count capacity marks alloc →
    new ≡ with_halves r.words i hs → i + length hs ≤ 2 * end → length more ≡ length marks → length more ≡ len → MarksToo marks more (i / 2) end →
    IsKept (Some (with_words r new)) count capacity (take len (more ++ drop (length more) marks)) alloc
kept-halves r new count capacity i end len hs marks more alloc kept is far same room too =
    subst (λ ms. IsKept (Some (with_words r new)) count capacity ms alloc) (sym whole)
    (kept-written r new count capacity (i / 2) end marks more alloc kept same (ap length is ∙ length-with_halves r.words i hs) too
    (λ k away. ap (λ ws. get_or ws k 0) is ∙ halves-elsewhere r.words i hs k (nearer k away)))
  where
    whole : take len (more ++ drop (length more) marks) ≡ more
    whole = ap (λ n. take n (more ++ drop (length more) marks)) (sym room) ∙ take-append_seam more (drop (length more) marks)

    nearer : (k : ℕ) → (k < i / 2) ⊎ (end ≤ k) → (k < i / 2) ⊎ (i + length hs ≤ 2 * k)
    nearer k (inl lt) = inl lt
    nearer k (inr le) = inr (omega (arith, le, far))

-- there is room for more words, and zeros after those that were there
pub kept-grown : (r : Option (Region Global)) (ws : List ℕ) (count n capacity : ℕ) (marks more : List Bool) (alloc : Global) → count ≡ length ws → words_of r ≡ ws ++ zeros n →
    HasRoom r capacity alloc → count + n ≤ capacity → capacity ≤ MOST_WORDS → capacity ≤ BLOCK * length more → AreMarked marks ws →
    ((j : ℕ) → j * 256 < length ws → get_or more j false ≡ get_or marks j false) → IsKept r (count + n) capacity more alloc
kept-grown r ws count n capacity marks more alloc counted is room within bounded covered marked same = record {
  counted = omega (arith, counted, ap length is, length-append ws (zeros n), length-replicate {A = ℕ} n 0);
  room = room;
  within = within;
  bounded = bounded;
  covered = covered;
  marked = subst (AreMarked more) (sym is) (marked_longer ws n marks more marked same);
}
