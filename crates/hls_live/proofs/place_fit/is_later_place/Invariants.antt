-- Before each round, in every rendition examined so far the later place has the greater fragment number.
use Rattle.std.proofs.Common.{ℕ, ◌<◌}
use Rattle.hls_check_tables.specs.Tables.{spot_in}
use Rattle.hls_live.proofs.place_fit.is_later_place.Given as goal

abbrev pub invariant-loop-r : goal.invariant-loop-r
invariant-loop-r l = (k : ℕ) → k < l.r → (spot_in l.starts k).fragment < (spot_in l.ends k).fragment
