-- Before each step, the steps so far compose to one change of the connection and its socket, and every connection is still valid.
use Rattle.hls_event_loop.specs.{Validity.StaysValid, Traffic.ServesOver}
use Rattle.hls_event_loop.proofs.step.run_until_blocked.Given as goal

abbrev pub invariant-loop : goal.invariant-loop
invariant-loop g l = record {
  moves : ServesOver g.R.Read.remaining g.W.Write.contents g.H.Handler.becomes l.initial.handler l.initial.connection l.initial.socket l.handler l.connection l.socket;
  valid : g.H.Handler.valid l.handler l.connection;
  others : StaysValid g.H.Handler.valid l.initial.handler l.handler;
}
