-- Before each round, the events so far and those of the remaining renditions are all events to be pushed.
use Rattle.std.proofs.Common.{◌≡◌, ◌++◌, drop}
use Rattle.hls_renewal.specs.Renewals.{renditions_from}
use Rattle.hls_renewal.proofs.events.push_renditions.Given as goal

abbrev pub invariant-loop-rendition : goal.invariant-loop-rendition
invariant-loop-rendition l =
    l.events.items ++ renditions_from l.snapshot l.rendition (drop l.rendition l.spots)
    ≡ l.fn.events.items ++ renditions_from l.snapshot 0 l.spots
