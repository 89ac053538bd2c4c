-- Before each event of a round, all connections of the worker are valid for its handler.
use Rattle.hls_event_loop.specs.Validity.{AllValid}
use Rattle.hls_event_loop.proofs.worker.Worker.run_round.Given as goal

abbrev pub invariant-loop-event : goal.invariant-loop-event
invariant-loop-event g l = AllValid g.H.Handler.valid l.self.handler l.self.slots
