-- Before each round, none of the leader's newest units so far is such a boundary: the first one among the remaining units is the result.
use Rattle.std.proofs.Common.{◌≡◌, ◌-◌, ◌≤◌, length, drop}
use Rattle.std.specs.List.{find}
use Rattle.hls_mend.specs.MendedUnits.{is_audio}
use Rattle.hls_housekeeper.specs.Away.{is_boundary, next_boundary}
use Rattle.hls_housekeeper.proofs.fill.find_boundary.Given as goal

abbrev pub invariant-units : goal.invariant-units
invariant-units l = record {
  within : l.n ≤ length l.lead.facts;
  same : find (is_boundary (is_audio l.lead.init) l.end_us l.least_us) (drop l.n l.lead.facts) ≡ next_boundary (is_audio l.lead.init) l.end_us l.least_us l.lead.facts;
}

abbrev pub decreases-units : goal.decreases-units
decreases-units l = length l.lead.facts - l.n
