-- One read or one write after another, and how known bytes change by a part of a text.
use Rattle.std.specs.Prelude.{◌≡◌, ℕ, ◌≤◌, List, Bool, true, false, Option, Result, Ok, Err, if◌then◌else◌, length, nat_eq, take}
use Rattle.std.specs.Io.KnownBytes.{Appends, Consumes}

-- a write fails where it answers an error, and where it takes no byte
abbrev pub takes_nothing : {E : Type 0} → Result ℕ E → Bool
takes_nothing (Ok n) = nat_eq n 0
takes_nothing (Err e) = true

-- what a read came to: it brought bytes, or none since the source is at its end, or it failed
pub data Came : Type 0 where
  some_bytes : Came
  at_end : Came
  failure : Came

abbrev pub came_to : {E : Type 0} → Result ℕ E → Came
came_to (Ok n) = if nat_eq n 0 then at_end else some_bytes
came_to (Err e) = failure

abbrev pub has_failed : Came → Bool
has_failed some_bytes = false
has_failed at_end = false
has_failed failure = true

-- Tries, by a relation that says what one of them does: how a stream was, what the try came to, and how the stream is. After a try
-- comes another only where it came to what lets them go on. Where none was made, that counts as having come to it.
pub data Tries {S O : Type 0} (goes_on : O) (does : S → O → S → Type 0) (old : S) : O → S → Type 0 where
  none : Tries goes_on does old goes_on old
  more : (s new : S) (came : O) → Tries goes_on does old goes_on s → does s came new → Tries goes_on does old came new

-- Reads, of which the last failed, or none did. After one that failed, or that brought no byte, comes no other.
pub record Reads {S : Type 0} (does : S → Came → S → Type 0) (old : S) (failed : Bool) (new : S) : Type 0 where
  pub last : Came
  pub tried : Tries some_bytes does old last new
  pub failed_is : failed ≡ has_failed last

-- Writes, of which the last failed, or none did. After one that failed comes no other.
abbrev pub Writes : {S : Type 0} → (S → Bool → S → Type 0) → S → Bool → S → Type 0
Writes does old failed new = Tries false does old failed new

-- a reader gave at most a number of bytes
abbrev pub TakesAtMost : ℕ → Option (List ℕ) → Option (List ℕ) → Type 0
TakesAtMost most old new = (given : List ℕ) × (length given ≤ most) × Consumes old new given

-- known bytes grow by the first bytes of a text, all of them or fewer
abbrev pub AppendsFirst : Option (List ℕ) → Option (List ℕ) → List ℕ → Type 0
AppendsFirst old new text = (n : ℕ) × Appends old new (take n text)
