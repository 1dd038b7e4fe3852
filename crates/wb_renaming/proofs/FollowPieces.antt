-- One process follows another through all that is still to do, and through a whole run from where the two are the same but for numbers.
use Rattle.std.proofs.Common.{◌≡◌, ℕ, zero, suc, ◌+◌, ◌≤◌, Bool, true, false, List, [], ◌∷◌, refl, ap, arith, Option}
use Rattle.std.specs.Prelude.{nat_eq, nat_lt}
use Rattle.std.proofs.lemmas.Bool.{ltb-true, ltb-false}
use Rattle.wb_heap_model.specs.declared.heap.Panic.{Panic}
use Rattle.wb_heap_model.specs.declared.heap.Ptr.{Ptr}
use Rattle.wb_tree.specs.declared.script.Script.{Script}
use Rattle.wb_tree.specs.declared.script.Statement.TheViews.{out-Statement}
use Rattle.wb_heap_model.specs.Placement.{Placement}
use Rattle.wb_meaning.specs.Meaning.{begun, begun_if, piece, meaning_within, meaning_of}
use Rattle.wb_meaning.specs.State.{State, Way, goes_on, returns, leaves, Process, ends, then_do, require}
use Rattle.wb_meaning.specs.Statements.{Todo, all, turns, destroy_items, Context, Meaning}
use Rattle.wb_meaning.specs.Rest.{Afterwards, nothing_more, gives_to, releases, after_frame, Pending, doing, catching, caught, calling, main_catching, main_caught, resumed, resume, Progress, left_to_do}
use Rattle.wb_meaning.specs.Run.{start, main_trapped, in_main, started, process}
use Rattle.wb_renaming.specs.SameButNumbers.{Names, Renaming, IsRenaming, AllBeside, none_beside, one_beside, IsSamePointer, IsSameItem, same_none, same_pointer, same_number, IsSameWay, same_plain, same_return, same_leave, IsSameTodo, same_statements, same_turns, same_items, same_object, IsSameAfterwards, same_nothing_more, same_gives_to, same_releases, IsSamePending, same_doing, same_catching, same_caught, same_calling, same_main_catching, same_main_caught, IsSameProgress, same_not_begun, same_going, same_stopped}
use Rattle.wb_renaming.specs.Follows.{IsLate, IsPast, IsBeside, Follows, both_end, both_stop, cut_first, steps_of, AreBeside}
use Rattle.wb_meaning.proofs.AlikeLemmas.{AlikeAll, then_do-alike, with_some-alike, with_class-alike, release-alike}
use Rattle.wb_meaning.proofs.AlikeFrames.{plain-alike, in_frame-alike, destroyed_item-alike, trapped-alike}
use Rattle.wb_meaning.proofs.EachStatement.{statement-alike}
use Rattle.wb_renaming.proofs.SameNumbers.{length-beside, BothSome, neither, both_some, Extends, pointer-later, pending-later}
use Rattle.wb_renaming.proofs.FollowPast.{lateness, fine, past-of, within-late}
use Rattle.wb_renaming.proofs.FollowLemmas.{null-beside, and_then-past, and_then-follows, plain_end-follows, plain_end-past, then_do-follows, require-follows, with_some-follows, given-same, set_local-beside, allocate-follows}
use Rattle.wb_renaming.proofs.FollowTexts.{release-follows, with_class-follows}
use Rattle.wb_renaming.proofs.FollowFrames.{initials-beside, frame-beside, FollowsAll, framed-beside, plain-follows, plain-past, in_frame-follows, destroyed_item-follows, trapped-follows}
use Rattle.wb_renaming.proofs.FollowStatements.{dropped-beside, newest-beside, statement-follows}

module _ (budget further : ℕ) where
  begun-follows : {w : Renaming} (st other : State) (go other_go : State → Process) → IsBeside budget further w st other →
      ((st other : State) → IsBeside budget further w st other → Follows budget further w (go st) (other_go other)) → ((st : State) → IsLate budget further st → IsPast budget further (go st)) →
      Follows budget further w (begun budget st go) (begun budget other other_go)
  unfolding begun begun_if
  begun-follows {w = w} st other go other_go b h past = by (nat_lt st.steps budget) (nat_lt other.steps budget) refl refl
    where
      by : (x y : Bool) → nat_lt st.steps budget ≡ x → nat_lt other.steps budget ≡ y → Follows budget further w (begun_if x st go) (begun_if y other other_go)
      by true true e f = h _ _ (record {
        renamed = b.renamed;
        same = record { heap = b.same.heap; cleanup = b.same.cleanup; items = b.same.items; slots = b.same.slots; frame = b.same.frame };
        steps = omega (arith, b.steps);
        within = omega (arith, ltb-true other.steps budget f);
      })
      by true false e f =
          cut_first (past _ (record { past = omega (arith, b.steps, ltb-false other.steps budget f); within = omega (arith, ltb-true st.steps budget e) }))
      by false true e f = absurd (omega (arith, b.steps, ltb-false st.steps budget e, ltb-true other.steps budget f))
      by false false e f = both_stop refl b

module _ (budget further : ℕ) (script : Script) where
  piece-follows : {w : Renaming} {p q : Todo} (rec other_rec : Meaning) (at : Context) (st other : State) → FollowsAll budget further rec other_rec → AlikeAll (lateness script budget further) rec rec →
      IsSameTodo w.names p q → IsBeside budget further w st other → Follows budget further w (piece script budget rec at p st) (piece script budget other_rec at q other)
  unfolding piece
  piece-follows rec other_rec at st other k keeps (same_statements []) b = both_end same_plain b
  piece-follows {w = w} rec other_rec at st other k keeps (same_statements (s ∷ rest)) b =
      begun-follows budget further _ _ _ _ b (λ st other c.
      then_do-follows budget further _ _ (statement-follows budget further script rec other_rec at (out-Statement s.statement) st other k keeps c)
      (λ v st other x d. k v at _ _ st other (same_statements rest) d) (λ st late. past-of script budget further [] _ (keeps [] at (all rest) st (fine script budget further late)).1))
      (λ st late. past-of script budget further [] _ (then_do-alike (lateness script budget further) [] _ _ _ _
      (statement-alike (lateness script budget further) rec rec at (out-Statement s.statement) st keeps (fine script budget further late)) (λ ns st f. keeps ns at (all rest) st f)).1)
  piece-follows rec other_rec at st other k keeps (same_turns zero body) b = both_end same_plain b
  piece-follows {w = w} rec other_rec at st other k keeps (same_turns (suc n) body) b =
      begun-follows budget further _ _ _ _ b (λ st other c.
      then_do-follows budget further _ _ (k w at _ _ st other (same_statements body) c)
      (λ v st other x d. k v at _ _ st other (same_turns n body) d) (λ st late. past-of script budget further [] _ (keeps [] at (turns n body) st (fine script budget further late)).1))
      (λ st late. past-of script budget further [] _ (then_do-alike (lateness script budget further) [] _ _ _ _
      (keeps [] at (all body) st (fine script budget further late)) (λ ns st f. keeps ns at (turns n body) st f)).1)
  piece-follows rec other_rec at st other k keeps (same_items zero) b = both_end same_plain b
  piece-follows {w = w} rec other_rec at st other k keeps (same_items (suc n)) b =
      begun-follows budget further _ _ _ _ b (λ st other c.
      with_some-follows budget further (IsSameItem w.names) _ _ _ (newest-beside c.same.items) c (λ i j t.
      then_do-follows budget further _ _ (destroyed_item-follows budget further script rec other_rec at k t (dropped-beside budget further 1 c))
      (λ v st other x d. k v at _ _ st other (same_items n) d) (λ st late. past-of script budget further [] _ (keeps [] at (destroy_items n) st (fine script budget further late)).1)))
      (λ st late. past-of script budget further [] _ (with_some-alike (lateness script budget further) _ _ _ _ _ (fine script budget further late) (λ item e.
      then_do-alike (lateness script budget further) [] _ _ _ _ (destroyed_item-alike (lateness script budget further) script rec rec at item _ keeps (fine script budget further late))
      (λ ns st f. keeps ns at (destroy_items n) st f))).1)
  piece-follows {w = w} rec other_rec at st other k keeps (same_object s) b =
      begun-follows budget further _ _ _ _ b (λ st other c.
      with_class-follows budget further _ _ s c (λ class. in_frame-follows budget further rec other_rec at _ _ _ k s none_beside c
      (λ v way other_way st other x t d. plain-follows budget further _ _ t d (λ q r u. release-follows budget further (pointer-later x s) d))
      (λ way st late. past-of script budget further [] _ (plain-alike (lateness script budget further) _ _ way st (fine script budget further late) (λ q st f. release-alike (lateness script budget further) _ st f)).1)))
      (λ st late. past-of script budget further [] _ (with_class-alike (lateness script budget further) _ _ _ _ (fine script budget further late) (λ class.
      in_frame-alike (lateness script budget further) rec rec at _ _ _ _ _ _ keeps (fine script budget further late)
      (λ ns way st f. plain-alike (lateness script budget further) _ _ way st f (λ q st f. release-alike (lateness script budget further) _ st f)))).1)

  within-follows : (n : ℕ) → FollowsAll budget further (meaning_within script budget n) (meaning_within script budget n)
  unfolding meaning_within
  within-follows zero w at p q st other s b = both_stop refl b
  within-follows (suc n) w at p q st other s b =
      piece-follows (meaning_within script budget n) (meaning_within script budget n) at st other (within-follows n) (within-late script budget further n) s b

  pub meaning-follows : FollowsAll budget further (meaning_of script budget) (meaning_of script budget)
  unfolding meaning_of
  meaning-follows = within-follows (suc budget)

  pub meaning-late : AlikeAll (lateness script budget further) (meaning_of script budget) (meaning_of script budget)
  unfolding meaning_of
  meaning-late = within-late script budget further (suc budget)

  meaning-past : (at : Context) (p : Todo) (st : State) → IsLate budget further st → IsPast budget further (meaning_of script budget at p st)
  meaning-past at p st late = past-of script budget further [] _ (meaning-late [] at p st (fine script budget further late)).1

  -- what follows a frame
  after_frame-follows : {w : Renaming} {a b : Afterwards} {p q : Ptr} {st other : State} → IsSameAfterwards w.names a b → IsSamePointer w.names p q → IsBeside budget further w st other →
      Follows budget further w (after_frame a p st) (after_frame b q other)
  after_frame-follows same_nothing_more s b = both_end same_plain b
  after_frame-follows (same_gives_to i) s b = both_end same_plain (set_local-beside budget further i (same_pointer s) b)
  after_frame-follows (same_releases t) s b = release-follows budget further t b

  after_frame-past : (a : Afterwards) (p : Ptr) (st : State) → IsLate budget further st → IsPast budget further (after_frame a p st)
  after_frame-past nothing_more p st late = late
  after_frame-past (gives_to i) p st late = record { past = late.past; within = late.within }
  after_frame-past (releases object) p st late = past-of script budget further [] _ (release-alike (lateness script budget further) object st (fine script budget further late)).1

  -- `main`'s own TRAP
  main_trapped-follows : {w : Renaming} {way other_way : Way} {st other : State} (at : Context) → IsSameWay w.names way other_way → IsBeside budget further w st other →
      Follows budget further w (main_trapped (meaning_of script budget) at way st) (main_trapped (meaning_of script budget) at other_way other)
  unfolding main_trapped
  main_trapped-follows {w = w} {st = st} {other = other} at (same_leave code) b =
      then_do-follows budget further _ _
      (given-same budget further (λ (n : ℕ). meaning_of script budget at (destroy_items n) st) (λ (n : ℕ). meaning_of script budget at (destroy_items n) other) _ _ (length-beside b.same.items)
      (meaning-follows w at _ _ st other (same_items _) b))
      (λ v st other x c. both_end (same_leave code) c) (λ st late. late)
  main_trapped-follows at same_plain b = require-follows budget further _ _ _ _ _ (ap (λ n. nat_eq n 0) (length-beside b.same.items)) b (both_end same_plain b)
  main_trapped-follows at (same_return s) b = require-follows budget further _ _ _ _ _ (ap (λ n. nat_eq n 0) (length-beside b.same.items)) b (both_end same_plain b)

  require-past : (b : Bool) (panic : Panic) (st : State) → IsLate budget further st → IsPast budget further (require b panic st (λ st. ends goes_on st))
  unfolding require
  require-past true panic st late = late
  require-past false panic st late = late

  main_trapped-past : (at : Context) (way : Way) (st : State) → IsLate budget further st → IsPast budget further (main_trapped (meaning_of script budget) at way st)
  unfolding main_trapped then_do
  main_trapped-past at (leaves code) st late =
      and_then-past budget further _ _ (meaning-past at _ st late) (λ way st late. plain_end-past budget further way st _ late late)
  main_trapped-past at goes_on st late = require-past _ _ st late
  main_trapped-past at (returns p) st late = require-past _ _ st late

  -- pending pieces
  resumed-follows : {w : Renaming} {p q : Pending} {way other_way : Way} {st other : State} → IsSamePending w.names p q → IsSameWay w.names way other_way → IsBeside budget further w st other →
      Follows budget further w (resumed script budget p way st) (resumed script budget q other_way other)
  unfolding resumed
  resumed-follows {w = w} {st = st} {other = other} (same_doing at s) way b = plain_end-follows budget further _ _ way b (meaning-follows w at _ _ st other s b)
  resumed-follows (same_catching at i entry) way b = trapped-follows budget further _ _ at i entry entry refl meaning-follows way b
  resumed-follows (same_caught i code) way b = plain_end-follows budget further _ _ way b (both_end same_plain (set_local-beside budget further i (same_number code) b))
  resumed-follows (same_calling f a) way b = let c = framed-beside budget further f b in plain-follows budget further _ _ way c (λ p q s. after_frame-follows a s c)
  resumed-follows (same_main_catching at) way b = main_trapped-follows at way b
  resumed-follows (same_main_caught code) way b = plain_end-follows budget further _ _ way b (both_end (same_leave code) b)

  resumed-past : (p : Pending) (way : Way) (st : State) → IsLate budget further st → IsPast budget further (resumed script budget p way st)
  unfolding resumed
  resumed-past (doing at p) way st late = plain_end-past budget further way st _ late (meaning-past at p st late)
  resumed-past (catching at i entry) way st late =
      past-of script budget further [] _ (trapped-alike (lateness script budget further) _ _ at i entry way st meaning-late (fine script budget further late)).1
  resumed-past (caught i code) way st late = plain_end-past budget further way st _ late (record { past = late.past; within = late.within })
  resumed-past (calling frame a) way st late =
      let again : IsLate budget further (record st { frame = frame }) = record { past = late.past; within = late.within } in
      plain-past budget further _ way _ again (λ p. after_frame-past a p _ again)
  resumed-past (main_catching at) way st late = main_trapped-past at way st late
  resumed-past (main_caught code) way st late = plain_end-past budget further way st _ late late

  resume-past : (ps : List Pending) (way : Way) (st : State) → IsLate budget further st → IsPast budget further (resume script budget ps way st)
  unfolding resume
  resume-past [] way st late = late
  resume-past (p ∷ ps) way st late = and_then-past budget further _ _ (resumed-past p way st late) (resume-past ps)

  resume-follows : {names : Names} {ps qs : List Pending} → AllBeside (IsSamePending names) ps qs →
      (w : Renaming) (way other_way : Way) (st other : State) → Extends names w.names → IsSameWay w.names way other_way → IsBeside budget further w st other →
      Follows budget further w (resume script budget ps way st) (resume script budget qs other_way other)
  unfolding resume
  resume-follows none_beside w way other_way st other x s b = both_end s b
  resume-follows (one_beside {xs = ps} p rest) w way other_way st other x s b =
      and_then-follows budget further _ _ (resumed-follows (pending-later x p) s b)
      (λ v way other_way st other y t c. resume-follows rest v way other_way st other (λ n m r. y n m (x n m r)) t c) (resume-past ps)

  -- a whole run
  main-follows : {w : Renaming} (st other : State) → IsBeside budget further w st other →
      Follows budget further w (in_main (meaning_of script budget) script st) (in_main (meaning_of script budget) script other)
  unfolding in_main
  main-follows {w = w} st other b =
      and_then-follows budget further _ _
      (meaning-follows w _ _ _ _ _ (same_statements _) (framed-beside budget further (frame-beside (null-beside b.renamed) (initials-beside b.renamed _)) b))
      (λ v way other_way st other x s c. main_trapped-follows _ s c) (λ way st late. main_trapped-past _ way st late)

  started-follows : (v : Renaming) (o q : Option Ptr) (st other : State) → BothSome (IsSamePointer v.names) o q → IsBeside budget further v st other →
      Follows budget further v (started (meaning_of script budget) script o st) (started (meaning_of script budget) script q other)
  unfolding started
  started-follows v o q st other neither b = both_stop refl b
  started-follows v o q st other (both_some s) b = main-follows _ _ (record {
    renamed = b.renamed;
    same = record { heap = b.same.heap; cleanup = s; items = b.same.items; slots = b.same.slots; frame = b.same.frame };
    steps = b.steps;
    within = b.within;
  })

  process-follows : {w : Renaming} (placement : Placement) → IsBeside budget further w (start placement) (start placement) →
      Follows budget further w (process script budget placement) (process script budget placement)
  unfolding process
  process-follows placement b = allocate-follows budget further _ _ _ _ _ same_none b (λ v o q st other x s c. started-follows v o q st other s c)

  start-beside : {w : Renaming} (placement : Placement) → IsRenaming w → 0 ≡ further → IsBeside budget further w (start placement) (start placement)
  start-beside placement is e = record {
    renamed = is;
    same = record {
      heap = record { row = none_beside; level = refl; setting = refl; placement = refl };
      cleanup = null-beside is;
      items = none_beside;
      slots = refl;
      frame = record { this = null-beside is; locals = none_beside };
    };
    steps = omega (arith, e);
    within = omega arith;
  }

  progress-follows : {w : Renaming} {p q : Progress} → IsRenaming w → IsSameProgress w.names p q → steps_of q ≡ steps_of p + further → steps_of q ≤ budget →
      Follows budget further w (left_to_do script budget p) (left_to_do script budget q)
  unfolding left_to_do
  progress-follows is (same_not_begun placement) steps within = process-follows placement (start-beside placement is (omega (arith, steps)))
  progress-follows {w = w} is (same_going pieces way same) steps within =
      resume-follows pieces w _ _ _ _ (λ n m r. r) way (record { renamed = is; same = same; steps = steps; within = within })
  progress-follows is (same_stopped stop same) steps within = both_stop refl (record { renamed = is; same = same; steps = steps; within = within })

  pub left_to_do-follows : {w : Renaming} {p q : Progress} → AreBeside budget further w p q → Follows budget further w (left_to_do script budget p) (left_to_do script budget q)
  left_to_do-follows a = progress-follows a.renamed a.same a.steps a.within
