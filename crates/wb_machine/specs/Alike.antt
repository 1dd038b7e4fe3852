-- What it means that a run goes on like another, and what comparing two machines finds out. Numbers are carried by a map that grows.
use Rattle.std.specs.Prelude.{◌≡◌, ◌≢◌, ℕ, List, map, find, drop, nat_eq, ◌||◌, Option}
use Rattle.wb_heap_model.specs.Spelling.{pointers}
use Rattle.wb_heap_model.specs.declared.heap.Kind.{Kind}
use Rattle.wb_heap_model.specs.declared.heap.Kind.TheVariants.{Raw, Object, Text, Cleanup}
use Rattle.wb_heap_model.specs.declared.heap.Rule.{Rule}
use Rattle.wb_meaning.specs.declared.run.Outcome.TheVariants.{Cut}
use Rattle.wb_meaning.specs.declared.run.Why.TheVariants.{Budget}
use Rattle.wb_renaming.specs.Follows.{Reached, RefusesAlike, RestsAgree}
use Rattle.wb_heap_model.specs.SameRules.{Fits}
use Rattle.wb_meaning.specs.Run.{WholeRun, whole_run}
use Rattle.wb_renaming.specs.SameButNumbers.{Names, Renames, Renaming, IsRenaming, AllBeside, IsSamePointer}
use Rattle.wb_machine.specs.declared.alike.names.Name.{Name}
use Rattle.wb_machine.specs.Seen.{Seen}

-- how far a run has come
abbrev pub reached_by : Seen → Reached
reached_by m = record { attempts = m.attempts; steps = m.steps }

-- what a run comes to if it goes on under this rule
abbrev pub whole_run_under : Rule → Seen → WholeRun
whole_run_under r m = whole_run m.keeps_rises m.script r m.budget m.shape

-- The rest of a run is the rest of another, under any two rules that say of the attempts made so far what each run's own says. If both
-- say the same of the attempts that are still to be made, and the budget doesn't cut the other, both come to the same but for numbers,
-- or the budget cuts the one that has counted more steps.
abbrev pub GoesOnLike : Seen → Seen → Type 0
GoesOnLike m other =
    (r s : Rule) → Fits r other.rule other.over other.attempts → Fits s m.rule m.over m.attempts →
    (whole_run_under r other).result.outcome ≢ Cut Budget →
    RefusesAlike r s (reached_by other) (reached_by m) →
    RestsAgree m.budget (reached_by other) (reached_by m) (whole_run_under r other) (whole_run_under s m)

-- pairs, as a map is made of them
abbrev pub names_of : List Name → Names
names_of pairs = map (λ (p : Name). (p.here, p.there)) pairs

-- the first pair that one of two numbers is in
abbrev pub pair_of : ℕ → ℕ → List Name → Option Name
pair_of here there pairs = find (λ p. nat_eq p.here here || nat_eq p.there there) pairs

-- a map of the same two runs that has the pairs of another
pub record IsGrown (before after : Renaming) : Type 0 where
  pub pairs : (a b : ℕ) → Renames before.names a b → Renames after.names a b
  pub made : after.made ≡ before.made
  pub other_made : after.other_made ≡ before.other_made
  pub renaming : IsRenaming before → IsRenaming after

-- the words of objects from the third on are pointers that are the same but for numbers, two words each
abbrev pub ArePairsAlike : Names → List ℕ → List ℕ → Type 0
ArePairsAlike names ws vs = AllBeside (IsSamePointer names) (pointers (drop 2 ws)) (pointers (drop 2 vs))

-- the words of two cells of a kind read as the same but for numbers
abbrev pub AreWordsAlike : Names → Kind → List ℕ → List ℕ → Type 0
AreWordsAlike names Raw ws vs = vs ≡ ws
AreWordsAlike names (Object class) ws vs = ArePairsAlike names ws vs
AreWordsAlike names Text ws vs = vs ≡ ws
AreWordsAlike names Cleanup ws vs = Unit {0}
