-- Before each ready connection is resumed, all connections of the worker are valid for its handler.
use Rattle.hls_event_loop.specs.Validity.{AllValid}
use Rattle.hls_event_loop.proofs.worker.Worker.resume_ready.Given as goal

abbrev pub invariant-loop-key : goal.invariant-loop-key
invariant-loop-key g l = AllValid g.H.Handler.valid l.self.handler l.self.slots
