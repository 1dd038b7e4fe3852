-- Which faults a request for room may end in.
use Rattle.std.specs.Prelude.{◌≡◌, ◌≢◌, ◌↔◌, ◌<◌, ◌≤◌, ℕ, Result, Err, IfErr}
use Rattle.wb_rheap.specs.declared.fault.HeapFault.{HeapFault}
use Rattle.wb_rheap.specs.declared.fault.HeapFault.TheVariants.{NoMemory, TooShort}

-- room was asked for up to an end, under a limit: `TooShort` exactly where the end passes the limit, and else `NoMemory` at worst,
-- and not even that where as much memory is held as the length that is then committed
pub record RefusesOnly {A : Type 0} (result : Result A HeapFault) (limit end committed held : ℕ) : Type 0 where
  pub short : (result ≡ Err TooShort) ↔ (limit < end)
  pub no_other : IfErr result (λ fault. fault ≢ TooShort → fault ≡ NoMemory)
  pub no_growth : committed ≤ held → result ≢ Err NoMemory
