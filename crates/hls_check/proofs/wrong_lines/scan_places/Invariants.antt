-- Before each round, the lines so far are place lines, as many as there were rounds.
use Rattle.hls_check.proofs.Scans.{PlacesPassed}
use Rattle.hls_check.proofs.wrong_lines.scan_places.Given as goal

abbrev pub invariant-loop-p : goal.invariant-loop-p
invariant-loop-p l = PlacesPassed l.fn.head l.fn.text l.rest l.p
