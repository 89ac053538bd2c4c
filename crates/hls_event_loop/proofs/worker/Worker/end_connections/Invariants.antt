-- Before each connection is ended, all connections of the worker are valid for its handler.
use Rattle.hls_event_loop.specs.Validity.{AllValid}
use Rattle.hls_event_loop.proofs.worker.Worker.end_connections.Given as goal

abbrev pub invariant-loop-key : goal.invariant-loop-key
invariant-loop-key g l = AllValid g.H.Handler.valid l.self.handler l.self.slots
