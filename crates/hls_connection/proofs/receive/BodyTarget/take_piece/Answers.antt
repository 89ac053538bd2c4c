-- A piece of an encoder's body is ingested, with its result; a piece of any other body is discarded without an act.
use Rattle.std.proofs.Common.{Ok, Err, refl}
use Rattle.hls_api.proofs.Callers.{acted_none}
use Rattle.hls_connection.proofs.receive.BodyTarget.take_piece.Goals as goal

pub returns-in_default-clause-act_steps : goal.returns-in_default-clause-act_steps
returns-in_default-clause-act_steps g c = acted_none g.K.Keeper.other_actors (g.K.Keeper.known c.args.keeper.now) c.args.taken.now.acts

pub returns-in-Ok-clause-takes : goal.returns-in-Ok-clause-takes
returns-in-Ok-clause-takes g c = rw c.in-Encoder.is (_, refl, (Ok tt, refl, rw c.new-sink.ensures at c.in-Ok.ensures.ingests))

pub returns-in-Err-clause-takes : goal.returns-in-Err-clause-takes
returns-in-Err-clause-takes g c = rw (c.in-Encoder.is, c.from.ensures, ← c.new-sink.ensures) (_, refl, (Err c.in-Err.fault, refl, c.in-Err.ensures.ingests))
