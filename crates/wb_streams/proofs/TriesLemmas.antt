-- One more try after those that came before.
use Rattle.std.proofs.Common.{◌≡◌, ◌≢◌, ℕ, zero, suc, Bool, true, false, if◌then◌else◌, nat_eq, refl, sym, subst}
use Rattle.std.proofs.Math.Dec.{eqb-suc-zero}
use Rattle.wb_streams.specs.Streams.{at_end, some_bytes, Came, failure, Reads, Tries, Writes, more, none}

-- a write that failed, said by a result that stands for its own
pub more_failed : {S : Type 0} (does : S → Bool → S → Type 0) (old s new : S) (failed : Bool) → failed ≡ true → Writes does old false s → does s true new
    → Writes does old failed new
more_failed does old s new failed e before now = subst (λ b. Writes does old b new) (sym e) (more s new true before now)

-- reads of which none failed: the last brought bytes, or there was none
pub read_on : {S : Type 0} (does : S → Came → S → Type 0) (old new : S) → Tries some_bytes does old some_bytes new → Reads does old false new
read_on does old new tried = record { last = some_bytes; tried = tried; failed_is = refl }

-- no read at all
pub read_none : {S : Type 0} (does : S → Came → S → Type 0) (old : S) (failed : Bool) → failed ≡ false → Reads does old failed old
read_none does old failed e = record { last = some_bytes; tried = none; failed_is = e }

-- a read that failed
pub read_failed : {S : Type 0} (does : S → Came → S → Type 0) (old s new : S) (failed : Bool) → failed ≡ true → Tries some_bytes does old some_bytes s → does s failure new
    → Reads does old failed new
read_failed does old s new failed e before now = record { last = failure; tried = more s new failure before now; failed_is = e }

-- a read that brought no byte
pub read_ended : {S : Type 0} (does : S → Came → S → Type 0) (old s new : S) (n : ℕ) → n ≡ 0 → Tries some_bytes does old some_bytes s
    → does s (if nat_eq n 0 then at_end else some_bytes) new → Reads does old false new
read_ended does old s new n e before now =
    record { last = at_end; tried = more s new at_end before (subst (λ k. does s (if nat_eq k 0 then at_end else some_bytes) new) e now); failed_is = refl }

-- a read that brought bytes
pub read_more : {S : Type 0} (does : S → Came → S → Type 0) (old s new : S) (n : ℕ) → n ≢ 0 → Tries some_bytes does old some_bytes s
    → does s (if nat_eq n 0 then at_end else some_bytes) new → Tries some_bytes does old some_bytes new
read_more does old s new zero some before now = absurd (some refl)
read_more does old s new (suc n) some before now =
    more s new some_bytes before (subst (λ b. does s (if b then at_end else some_bytes) new) (eqb-suc-zero n) now)
