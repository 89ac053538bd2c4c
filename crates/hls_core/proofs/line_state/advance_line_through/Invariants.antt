-- Before each round, the line so far advanced through the remaining places is the line advanced through all places.
use Rattle.std.proofs.Common.{drop}
use Rattle.hls_core.proofs.Moved.{IsTold}
use Rattle.hls_core.proofs.line_state.advance_line_through.Given as goal

abbrev pub invariant-loop-place : goal.invariant-loop-place
invariant-loop-place l = IsTold l.line.value l.places l.all.value (drop l.place-index l.places)
