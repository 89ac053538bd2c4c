-- Before each round, the events so far and those of the units from n on are all events to be pushed.
use Rattle.std.proofs.Common.{◌≡◌, ◌-◌, ◌++◌, length}
use Rattle.hls_renewal.specs.Renewals.{units_from}
use Rattle.hls_renewal.proofs.events.push_units.Given as goal

abbrev pub invariant-loop-n : goal.invariant-loop-n
invariant-loop-n l =
    l.events.items ++ units_from l.rendition l.recording l.n (length l.recording.facts - l.n)
    ≡ l.fn.events.items ++ units_from l.rendition l.recording l.fn.from (length l.recording.facts - l.fn.from)
