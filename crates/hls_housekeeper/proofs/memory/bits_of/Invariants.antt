-- The sum so far and the bit rates still to come add up to the sum of all, if both are capped.
use Rattle.std.proofs.Common.{◌≡◌, ◌+◌, ◌≤◌, ◌^◌, drop}
use Rattle.std.specs.Prelude.{min, sum_by}
use Rattle.hls_housekeeper.specs.Memory.{bits_of_one}
use Rattle.hls_housekeeper.proofs.memory.bits_of.Given as goal

abbrev pub invariant-loop-rendition : goal.invariant-loop-rendition
invariant-loop-rendition l = record {
  whole : min (l.bits + sum_by bits_of_one (drop l.rendition-index l.renditions)) (2 ^ 48) ≡ min (sum_by bits_of_one l.renditions) (2 ^ 48);
  bound : l.bits ≤ 2 ^ 48;
}
