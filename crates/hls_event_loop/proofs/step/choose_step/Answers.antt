-- A connection that is to end doesn't change. One that reads has changed by what its handler did, and then by the bytes that were read.
use Rattle.std.proofs.KnownBytes.{Keeps-refl}
use Rattle.hls_event_loop.proofs.Moving.{moves_on, moves_quiet}
use Rattle.hls_event_loop.proofs.step.choose_step.Goals as goal

pub returns-in-Some-clause-moves : goal.returns-in-Some-clause-moves
returns-in-Some-clause-moves g c = moves_quiet (g.met.H.Handler.unchanged _ _) (Keeps-refl _) (Keeps-refl _)

pub returns-clause-moves : goal.returns-clause-moves
returns-clause-moves g c = moves_on g.met.H.Handler.composed (moves_quiet c.advance.ensures.becomes (Keeps-refl _) (Keeps-refl _)) (c.read.ensures.moves _)
