-- The steps compose: the connection after any number of them is what its handler makes of all bytes that were read and written,
-- and other connections stay valid.
use Rattle.std.proofs.KnownBytes.{Keeps-refl}
use Rattle.hls_event_loop.proofs.Moving.{moves_on, moves_quiet}
use Rattle.hls_event_loop.proofs.step.run_until_blocked.Goals as goal

pub loop-init : goal.loop-init
loop-init g c = record { moves = moves_quiet (g.met.H.Handler.unchanged _ _) (Keeps-refl _) (Keeps-refl _); valid = c.requires.valid; others = λ v h. h }

pub loop-preserved : goal.loop-preserved
loop-preserved g c = record {
  moves = moves_on g.met.H.Handler.composed c.loop.invariant.moves c.take_step-step.ensures.moves;
  valid = c.take_step-step.ensures.valid;
  others = λ v h. c.take_step-step.ensures.others v (c.loop.invariant.others v h);
}

pub returns-in_default-clause-moves : goal.returns-in_default-clause-moves
returns-in_default-clause-moves g c = moves_on g.met.H.Handler.composed c.loop.invariant.moves c.take_step-step.ensures.moves

pub returns-then-moved-ge-MOST_MOVED-clause-moves : goal.returns-then-moved-ge-MOST_MOVED-clause-moves
returns-then-moved-ge-MOST_MOVED-clause-moves g c = moves_on g.met.H.Handler.composed c.loop.invariant.moves c.take_step-step.ensures.moves
