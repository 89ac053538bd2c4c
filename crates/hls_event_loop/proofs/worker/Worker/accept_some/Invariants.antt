-- Before each accept, all connections of the worker are valid for its handler.
use Rattle.hls_event_loop.specs.Validity.{AllValid}
use Rattle.hls_event_loop.proofs.worker.Worker.accept_some.Given as goal

abbrev pub invariant-loop-count : goal.invariant-loop-count
invariant-loop-count g l = AllValid g.H.Handler.valid l.self.handler l.self.slots
