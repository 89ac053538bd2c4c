-- Before each round, the text begins with as many spots as were skipped, and any place line at its start continues in the rest.
use Rattle.hls_check.proofs.Scans.{SpotsPassed}
use Rattle.hls_check.proofs.place.skip_place.Given as goal

abbrev pub invariant-loop-skipped : goal.invariant-loop-skipped
invariant-loop-skipped l = SpotsPassed l.renditions l.text l.rest l._skipped
