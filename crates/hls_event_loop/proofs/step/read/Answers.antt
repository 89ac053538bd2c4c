-- A read appends the bytes of the socket to the connection's input. One that fails, or isn't tried, leaves the connection as it was.
use Rattle.std.proofs.{Common.{◌∙◌, sym}, KnownBytes.Keeps-refl}
use Rattle.hls_event_loop.proofs.Moving.{moves_quiet, moves_read}
use Rattle.hls_event_loop.proofs.step.read.Goals as goal

pub returns-then-not-socket-clause-moves : goal.returns-then-not-socket-clause-moves
returns-then-not-socket-clause-moves g c = λ h. moves_quiet (g.met.H.Handler.unchanged h _) (Keeps-refl _) (Keeps-refl _)

pub returns-in-Ok-clause-moves : goal.returns-in-Ok-clause-moves
returns-in-Ok-clause-moves g c = λ h.
    let joined = c.in-Ok.ensures.ok in
    moves_read (g.W.Write.contents c.args.socket.now.output.writer) joined.0 (joined.4 h) joined.2 (λ none. joined.3 (sym joined.1 ∙ none))

pub returns-in-Err-clause-moves : goal.returns-in-Err-clause-moves
returns-in-Err-clause-moves g c = λ h. moves_quiet (c.in-Err.ensures.err.1 h) c.in-Err.ensures.err.0 (Keeps-refl _)
