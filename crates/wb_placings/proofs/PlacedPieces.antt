-- All that is still to do, and a whole run, in states that are the same but for partners.
use Rattle.std.proofs.Common.{◌≡◌, ℕ, zero, suc, ◌+◌, ◌≤◌, inl, inr, sym, arith, Bool, true, false, [], ◌∷◌, refl, ap, ◌∙◌, Option}
use Rattle.std.specs.Prelude.{nat_eq, nat_lt}
use Rattle.std.proofs.lemmas.List.Elements.{All-nil}
use Rattle.wb_heap_model.specs.declared.heap.Ptr.{Ptr}
use Rattle.wb_tree.specs.declared.script.Script.{Script}
use Rattle.wb_tree.specs.declared.script.Statement.TheViews.{out-Statement}
use Rattle.wb_heap_model.specs.Placement.{Placement, first_fit}
use Rattle.wb_meaning.specs.Meaning.{begun, begun_if, piece, meaning_within, meaning_of}
use Rattle.wb_meaning.specs.State.{State, Way, Process}
use Rattle.wb_heap_model.specs.Pointers.{null, is_null}
use Rattle.wb_meaning.specs.Statements.{Todo, destroy_items, Context, Meaning}
use Rattle.wb_meaning.specs.Run.{start, main_trapped, in_main, started, process}
use Rattle.wb_renaming.specs.SameButNumbers.{none_beside}
use Rattle.wb_renaming.proofs.SameNumbers.{length-beside, BothSome, neither, both_some}
use Rattle.wb_placings.proofs.Partners.{Stands, newest-stands, Partners, ArePartners, IsListed, IsSameItem, same_none, IsSameWay, same_plain, same_return, same_leave, IsSameTodo, same_statements, same_turns, same_items, same_object, pointer-later}
use Rattle.wb_placings.proofs.SameRows.{AreSameRows}
use Rattle.wb_placings.proofs.PlacedProcesses.{IsBeside, GoesAlike, both_end, both_lack, cut_first, if_found, and_then-alike, then_do-alike, require-alike, with_some-alike, given-same}
use Rattle.wb_placings.proofs.PlacedAttempts.{allocate-alike}
use Rattle.wb_placings.proofs.PlacedTexts.{release-alike, with_class-alike}
use Rattle.wb_placings.proofs.PlacedFrames.{initials-same, frame-same, AllGoAlike, framed-beside, plain-alike, in_frame-alike, destroyed_item-alike}
use Rattle.wb_placings.proofs.PlacedStatements.{dropped-beside, newest-same, statement-alike}

module _ (budget : ℕ) where
  begun-alike : {w : Partners} (st other : State) (go other_go : State → Process) → IsBeside w st other →
      ((st other : State) → IsBeside w st other → GoesAlike w (go st) (other_go other)) → GoesAlike w (begun budget st go) (begun budget other other_go)
  unfolding begun begun_if
  begun-alike {w = w} st other go other_go b h = by (nat_lt st.steps budget) (nat_lt other.steps budget) (ap (λ n. nat_lt n budget) b.steps)
    where
      by : (x y : Bool) → y ≡ x → GoesAlike w (begun_if x st go) (begun_if y other other_go)
      by true true e = h _ _ (record {
        partners = b.partners;
        heap = b.heap;
        cleanup = b.cleanup;
        items = b.items;
        slots = b.slots;
        frame = b.frame;
        lines = b.lines;
        steps = ap (λ n. n + 1) b.steps;
      })
      by true false e = cc
      by false y e = cut_first

module _ (budget : ℕ) (script : Script) where
  piece-alike : {w : Partners} {p q : Todo} (rec other_rec : Meaning) (at : Context) (st other : State) → AllGoAlike rec other_rec → IsSameTodo w.pairs p q → IsBeside w st other →
      GoesAlike w (piece script budget rec at p st) (piece script budget other_rec at q other)
  unfolding piece
  piece-alike rec other_rec at st other k (same_statements []) b = both_end same_plain b
  piece-alike {w = w} rec other_rec at st other k (same_statements (s ∷ rest)) b =
      begun-alike budget _ _ _ _ b (λ st other c.
      then_do-alike _ _ (statement-alike script rec other_rec at (out-Statement s.statement) st other k c) (λ v st other x d. k v at _ _ st other (same_statements rest) d))
  piece-alike rec other_rec at st other k (same_turns zero body) b = both_end same_plain b
  piece-alike {w = w} rec other_rec at st other k (same_turns (suc n) body) b =
      begun-alike budget _ _ _ _ b (λ st other c.
      then_do-alike _ _ (k w at _ _ st other (same_statements body) c) (λ v st other x d. k v at _ _ st other (same_turns n body) d))
  piece-alike rec other_rec at st other k (same_items zero) b = both_end same_plain b
  piece-alike {w = w} rec other_rec at st other k (same_items (suc n)) b =
      begun-alike budget _ _ _ _ b (λ st other c.
      with_some-alike (IsSameItem w.pairs) _ _ _ (if_found (newest-same c.items)) c (λ i j t.
      then_do-alike _ _ (destroyed_item-alike script rec other_rec at k t (dropped-beside 1 c)) (λ v st other x d. k v at _ _ st other (same_items n) d)))
  piece-alike {w = w} rec other_rec at st other k (same_object s) b =
      begun-alike budget _ _ _ _ b (λ st other c.
      with_class-alike _ _ s c (λ class. in_frame-alike rec other_rec at _ _ _ k s none_beside c
      (λ v way other_way st other x t d. plain-alike _ _ t d (λ q r u. release-alike (pointer-later x s) d))))

  within-alike : (n : ℕ) → AllGoAlike (meaning_within script budget n) (meaning_within script budget n)
  unfolding meaning_within
  within-alike zero w at p q st other s b = cut_first
  within-alike (suc n) w at p q st other s b = piece-alike (meaning_within script budget n) (meaning_within script budget n) at st other (within-alike n) s b

  meaning-alike : AllGoAlike (meaning_of script budget) (meaning_of script budget)
  unfolding meaning_of
  meaning-alike = within-alike (suc budget)

  -- `main`'s own TRAP
  main_trapped-alike : {w : Partners} {way other_way : Way} {st other : State} (at : Context) → IsSameWay w.pairs way other_way → IsBeside w st other →
      GoesAlike w (main_trapped (meaning_of script budget) at way st) (main_trapped (meaning_of script budget) at other_way other)
  unfolding main_trapped
  main_trapped-alike {w = w} {st = st} {other = other} at (same_leave code) b =
      then_do-alike _ _
      (given-same (λ (n : ℕ). meaning_of script budget at (destroy_items n) st) (λ (n : ℕ). meaning_of script budget at (destroy_items n) other) _ _ (length-beside b.items)
      (meaning-alike w at _ _ st other (same_items _) b))
      (λ v st other x c. both_end (same_leave code) c)
  main_trapped-alike at same_plain b = require-alike _ _ _ _ _ (λ left. ap (λ n. nat_eq n 0) (length-beside b.items) ∙ left) (λ _. both_end same_plain b)
  main_trapped-alike at (same_return s) b = require-alike _ _ _ _ _ (λ left. ap (λ n. nat_eq n 0) (length-beside b.items) ∙ left) (λ _. both_end same_plain b)

  main-alike : {w : Partners} (st other : State) → IsBeside w st other → GoesAlike w (in_main (meaning_of script budget) script st) (in_main (meaning_of script budget) script other)
  unfolding in_main
  main-alike {w = w} st other b =
      and_then-alike _ _
      (meaning-alike w _ _ _ _ _ (same_statements _) (framed-beside (frame-same b.partners.null (initials-same b.partners _)) b))
      (λ v way other_way st other x s c. main_trapped-alike _ s c)

  started-alike : (v : Partners) (o q : Option Ptr) (st other : State) → BothSome (Stands v.pairs) o q → IsBeside v st other →
      GoesAlike v (started (meaning_of script budget) script o st) (started (meaning_of script budget) script q other)
  unfolding started
  started-alike v o q st other neither b = both_lack b
  started-alike v o q st other (both_some s) b = main-alike _ _ (record {
    partners = b.partners;
    heap = b.heap;
    cleanup = s;
    items = b.items;
    slots = b.slots;
    frame = b.frame;
    lines = b.lines;
    steps = b.steps;
  })

-- before attempt 1 only null is there
abbrev pub at_first : Partners
at_first = record { pairs = (null, null) ∷ []; made = 0 }

first-partners : ArePartners at_first
first-partners = record {
  null = newest-stands [] null null;
  once = λ p q r s t. once p q r s.listed t.listed;
  nulls = λ p q s. nulls p q s.listed;
  made_before = λ p q s. before p q s.listed;
}
  where
    once : (p q r : Ptr) → IsListed at_first.pairs p q → IsListed at_first.pairs p r → q ≡ r
    once p q r (inl s) (inl t) = s.1 ∙ sym t.1
    once p q r (inr s) t = absurd s
    once p q r (inl s) (inr t) = absurd t

    nulls : (p q : Ptr) → IsListed at_first.pairs p q → nat_eq q.number 0 ≡ nat_eq p.number 0
    nulls p q (inl s) = ap is_null s.1 ∙ sym (ap is_null s.0)
    nulls p q (inr s) = absurd s

    before : (p q : Ptr) → IsListed at_first.pairs p q → p.number ≤ 0
    before p q (inl s) = let same : p.number ≡ 0 = ap (λ (z : Ptr). z.number) s.0 in omega (arith, same)
    before p q (inr s) = absurd s

start-beside : (placement : Placement) → IsBeside at_first (start (first_fit true)) (start placement)
start-beside placement = record {
  partners = first-partners;
  heap = record { rows = no_rows; level = refl; setting = refl; moving = refl };
  cleanup = newest-stands [] null null;
  items = none_beside;
  slots = refl;
  frame = record { this = newest-stands [] null null; locals = none_beside };
  lines = refl;
  steps = refl;
}
  where
    no_rows : AreSameRows at_first [] []
    no_rows = record {
      found = λ p q c s e. cc;
      apart = λ p q r c d s t e f. cc;
      counts = λ f. refl;
      one = record { apart = λ i j x lt end. absurd (omega (arith, end)); made_before = All-nil _ };
      other = record { apart = λ i j x lt end. absurd (omega (arith, end)); made_before = All-nil _ };
      spaced = tt;
    }

-- the run in a heap where each growing cell moves, and the one by any other choice of places
pub process-alike : (script : Script) (budget : ℕ) (placement : Placement) → GoesAlike at_first (process script budget (first_fit true)) (process script budget placement)
unfolding process
process-alike script budget placement =
    allocate-alike _ _ _ _ _ same_none (start-beside placement) (λ v o q h g x s k c. started-alike budget script v o q _ _ s c)
