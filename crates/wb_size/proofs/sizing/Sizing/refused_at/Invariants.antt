use Rattle.std.proofs.Common.{◌≡◌, drop}
use Rattle.wb_meaning.specs.Run.{first_rise_above}
use Rattle.wb_size.proofs.sizing.Sizing.refused_at.Given as goal

-- the rises to come tell as much as all of them
abbrev pub invariant-loop-rise : goal.invariant-loop-rise
invariant-loop-rise l = first_rise_above l.length (drop l.rise-index l.rise-items) ≡ first_rise_above l.length l.rise-items
